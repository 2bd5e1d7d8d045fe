-- The first of several faults, in order.
use Rattle.std.specs.Prelude.{ℕ, zero, suc, Bool, true, false, Some, None, Option}
use Rattle.std.specs.Option.{option_or}

-- x where the test fails
abbrev pub unless : {X : Type 0} → Bool → X → Option X
unless true x = None
unless false x = Some x

-- the first of f 0, f 1, .. f (n - 1)
abbrev pub first_of : {X : Type 0} → (ℕ → Option X) → ℕ → Option X
first_of f zero = None
first_of f (suc n) = option_or (first_of f n) (f n)
