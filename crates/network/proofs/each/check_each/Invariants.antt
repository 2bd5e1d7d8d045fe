use Rattle.std.proofs.Common.{◌≡◌, ℕ, ◌<◌, None, Option, Result}
use Rattle.std.specs.Result.{result_err}
use Rattle.network.specs.First.{first_of}
use Rattle.network.proofs.each.check_each.Given as goal

abbrev pub invariant-loop-i : goal.invariant-loop-i
invariant-loop-i g l = (f : ℕ → Option g.row.E.Denot) → ((i : ℕ) (r : Result (Unit {0}) g.row.E.Denot) → i < l.n → goal.F-post g l.check i r → result_err r ≡ f i) → first_of f l.i ≡ None
