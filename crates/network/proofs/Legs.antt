-- What is certain of a leg that is given.
use Rattle.std.proofs.Common.{◌≡◌, ℕ, ◌<◌, length, get_or, Some, Ok, Err, Result, arith}
use Rattle.std.specs.Result.{result_ok}
use Rattle.std.proofs.lemmas.Bool.Decides.{nat_tests}
use Rattle.network.specs.Answers.{leg_answer, row_leg}
use Rattle.network.specs.Lawful.{Lawful}
use Rattle.network.specs.Limits.{most_legs}
use Rattle.network.specs.Meaning.{Net, Row, legs_row, unreadable_row, legs_of, legs_at, no_leg}
use Rattle.network.specs.Refusals.{told}
use Rattle.network.specs.declared.fault.NetworkFault.{NetworkFault}
use Rattle.network.specs.declared.leg.Leg.{Leg}
use Rattle.network.proofs.Piles.{pile_grows}

-- a leg that a row gave stands in it
in_row : (i k : ℕ) (row : Row) (g : Leg) → Ok g ≡ row_leg i k row → (k < length (legs_of row)) × (g ≡ get_or (legs_of row) k no_leg)
in_row i k (legs_row ls) g e = grind (arith, nat_tests)
in_row i k (unreadable_row f) g e = cc

-- and so does a leg that a network gave
pub leg_tells : (N : Net) (i k : ℕ) (g : Leg) → Ok g ≡ leg_answer N i k → (i < N.n) × (k < length (legs_at N i)) × (g ≡ get_or (legs_at N i) k no_leg)
leg_tells N i k g e = grind (arith, nat_tests, in_row i k (N.row i) g)

-- its number is below the most legs
pub given_within : (N : Net) (i k : ℕ) (r : Result Leg NetworkFault) (g : Leg) → Lawful N → told r ≡ leg_answer N i k → Some g ≡ result_ok r → k < most_legs
given_within N i k (Ok x) g l e o =
    let t = leg_tells N i k x e in
    let p = pile_grows (legs_at N) i N.n t.0 in
    omega (arith, l.few, t.1)
given_within N i k (Err f) g l e o = cc
