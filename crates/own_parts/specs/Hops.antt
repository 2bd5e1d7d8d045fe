-- Labels that count legs.
use Rattle.std.specs.Prelude.{ℕ, ◌+◌, Bool, cond, ◌&&◌, None, Option, nat_le, nat_lt}
use Rattle.std.specs.Option.{option_map}
use Rattle.labels.specs.Kinds.{Kind}
use Rattle.labels.specs.Plains.{plain_kind, plain_extend, plain_covers}
use Rattle.labels.specs.declared.plain.Plain.{Plain}
use Rattle.labels.specs.declared.step.Step.{Step}
use Rattle.own_parts.specs.declared.hops.Hops.{Hops}

abbrev pub hops_label : {most : ℕ} → ℕ → Plain → Hops most
hops_label legs x = record { plain = x; legs = legs }

-- as the plain label, but no further once it has gone along `most` legs
abbrev pub hops_extend : (most : ℕ) → Hops most → Step → Option (Hops most)
hops_extend most x s = cond (nat_lt x.legs most) (option_map (hops_label (x.legs + 1)) (plain_extend x.plain s)) None

-- neither later nor dearer, and by no more legs
abbrev pub hops_covers : {most : ℕ} → Hops most → Hops most → Bool
hops_covers x y = plain_covers x.plain y.plain && nat_le x.legs y.legs

abbrev pub hops_kind : (most : ℕ) → Kind (Hops most)
hops_kind most = record {
  start = λ opens depot. hops_label 0 (plain_kind.start opens depot);
  extend = hops_extend most;
  covers = hops_covers;
  time = λ x. x.plain.time;
  cost = λ x. x.plain.cost;
}
