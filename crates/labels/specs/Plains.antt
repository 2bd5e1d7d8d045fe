-- The plain label.
use Rattle.std.specs.Prelude.{ℕ, ◌+◌, max, Bool, cond, ◌&&◌, ℤ, pos, ◌+ℤ◌, Some, None, Option, int_le, nat_le}
use Rattle.labels.specs.Kinds.{Kind, inside}
use Rattle.labels.specs.declared.plain.Plain.{Plain}
use Rattle.labels.specs.declared.step.Step.{Step}

abbrev pub plain_label : ℕ → ℤ → Plain
plain_label t c = record { time = t; cost = c }

-- x is within the bounds, and arrives before the head's window ends or just then
abbrev pub arrives : Plain → Step → Bool
arrives x s = inside x.time x.cost && nat_le (x.time + s.duration) s.closes

-- at the head, and not before its window begins
abbrev pub arrived : Plain → Step → Plain
arrived x s = plain_label (max s.opens (x.time + s.duration)) (x.cost +ℤ s.cost)

abbrev pub plain_extend : Plain → Step → Option Plain
plain_extend x s = cond (arrives x s) (Some (arrived x s)) None

-- neither later nor dearer
abbrev pub plain_covers : Plain → Plain → Bool
plain_covers x y = nat_le x.time y.time && int_le x.cost y.cost

abbrev pub plain_kind : Kind Plain
plain_kind = record {
  start = λ opens depot. plain_label opens (pos 0);
  extend = plain_extend;
  covers = plain_covers;
  time = λ x. x.time;
  cost = λ x. x.cost;
}
