-- Lists, one after another.
use Rattle.std.specs.Prelude.{ℕ, zero, suc, List, [], ◌++◌}

-- f 0, then f 1, .. up to f (n - 1)
abbrev pub pile : {X : Type 0} → (ℕ → List X) → ℕ → List X
pile f zero = []
pile f (suc n) = pile f n ++ f n
