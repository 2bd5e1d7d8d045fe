-- Marks where nothing is marked yet.
use Rattle.std.proofs.Common.{◌≡◌, refl, ℕ, zero, suc, Bool, true, false, get_or, replicate, sym, ◌∙◌}
use Rattle.std.proofs.lemmas.Bool.{true≢false}

blank : (n k : ℕ) → get_or (replicate n false) k false ≡ false
blank zero k = refl
blank (suc n) zero = refl
blank (suc n) (suc k) = blank n k

-- where nothing is marked, anything holds of a marked block
pub unmarked : {X : Type 0} (n k : ℕ) → get_or (replicate n false) k false ≡ true → X
unmarked n k e = absurd (true≢false (sym e ∙ blank n k))
