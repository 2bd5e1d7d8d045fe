-- What a kind of label is, and what each owes.
use Rattle.std.specs.Prelude.{◌≡◌, ℕ, ◌+◌, ◌*◌, ◌≤◌, Bool, true, false, ◌&&◌, ℤ, ◌+ℤ◌, ◌≤ℤ◌, Some, None, Option, nat_le, unsigned_abs}
use Rattle.network.specs.Limits.{most_time, most_reach}
use Rattle.labels.specs.Steps.{LawfulStep}
use Rattle.labels.specs.declared.step.Step.{Step}

-- the start at a depot from when it opens, a label one step further, which labels a label covers, its time and its cost
pub record Kind (L : Type 0) : Type 0 where
  pub start : ℕ → ℕ → L
  pub extend : L → Step → Option L
  pub covers : L → L → Bool
  pub time : L → ℕ
  pub cost : L → ℤ

-- the bounds of a time and a cost
abbrev pub inside : ℕ → ℤ → Bool
inside t c = nat_le t most_time && nat_le (unsigned_abs c) (t * most_reach)

abbrev pub Bounded : {L : Type 0} → Kind L → L → Type 0
Bounded K x = inside (K.time x) (K.cost x) ≡ true

-- x covers y
abbrev pub Covers : {L : Type 0} → Kind L → L → L → Type 0
Covers K x y = K.covers x y ≡ true

-- x goes on along s, to a label that covers y
pub record GoesOn {L : Type 0} (K : Kind L) (x : L) (s : Step) (y : L) : Type 0 where
  pub next : L
  pub extends : K.extend x s ≡ Some next
  pub covers_it : Covers K next y

-- y is what x may become along s
pub record Grown {L : Type 0} (K : Kind L) (x : L) (s : Step) (y : L) : Type 0 where
  pub later : K.time x + s.duration ≤ K.time y
  pub opened : s.opens ≤ K.time y
  pub open_still : K.time y ≤ s.closes
  pub paid : K.cost y ≡ K.cost x +ℤ s.cost
  pub bounds : Bounded K y

-- the laws, of labels within the bounds, along steps of a lawful network; and for a label beyond the bounds, along any step
pub record Laws {L : Type 0} (K : Kind L) : Type 0 where
  -- a start is within the bounds
  pub starts : (opens depot : ℕ) → opens ≤ most_time → Bounded K (K.start opens depot)
  -- covering is reflexive, passes along a chain, and goes both ways between equal labels only
  pub self : (x : L) → Bounded K x → Covers K x x
  pub chain : (x y z : L) → Bounded K x → Bounded K y → Bounded K z → Covers K x y → Covers K y z → Covers K x z
  pub same : (x y : L) → Bounded K x → Bounded K y → Covers K x y → Covers K y x → x ≡ y
  -- a covering label is neither later nor dearer
  pub sooner : (x y : L) → Bounded K x → Bounded K y → Covers K x y → K.time x ≤ K.time y
  pub cheaper : (x y : L) → Bounded K x → Bounded K y → Covers K x y → K.cost x ≤ℤ K.cost y
  -- where a label goes on, so does a label that covers it, and still covers it
  pub still : (x y : L) (s : Step) (y' : L) → Bounded K x → Bounded K y → LawfulStep s → Covers K x y → K.extend y s ≡ Some y' → GoesOn K x s y'
  -- time and cost grow with the step, and stay within the bounds
  pub grown : (x : L) (s : Step) (y : L) → Bounded K x → LawfulStep s → K.extend x s ≡ Some y → Grown K x s y
  -- a label beyond the bounds goes nowhere
  pub beyond : (x : L) (s : Step) → inside (K.time x) (K.cost x) ≡ false → K.extend x s ≡ None
