-- Iterators that give the records of a table in order.
use Rattle.std.specs.Prelude.{◌≡◌, ℕ, ◌-◌, List, length, Option, map}
use Rattle.std.specs.List.{range_with_len}
use Rattle.std.specs.Iterator.{AlwaysYields}

-- record j, then the next, up to record n - 1
abbrev pub records_from : (ℕ → List ℕ) → ℕ → ℕ → List (List ℕ)
records_from f n j = map f (range_with_len j (n - j))

-- s may be called, and gives record j of 12 bytes, then the next, up to record n - 1
pub record GivesFrom {S : Type 0} (can : S → Type 0) (steps : S → Option (List ℕ) → S → Type 0) (f : ℕ → List ℕ) (n j : ℕ) (s : S) : Type 0 where
  pub callable : can s
  pub wide : (i : ℕ) → length (f i) ≡ 12
  pub gives : AlwaysYields steps (λ x. x) s (records_from f n j)
