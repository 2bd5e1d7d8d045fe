use Rattle.std.proofs.Common.{◌≡◌, rules, sym, ap, ◌∙◌, refl, arith, Some, Err}
use Rattle.std.specs.Result.{result_err}
use Rattle.network.specs.First.{first_of}
use Rattle.network.proofs.Firsts.{first_more, first_here}
use Rattle.network.proofs.each.check_each.Goals as goal

pub loop-i-init : goal.loop-i-init
loop-i-init g c f judges = refl

pub returns-in_err-check : goal.returns-in_err-check
returns-in_err-check g c f judges =
    let here : f c.loop-i.i ≡ Some c.in_err-check.field-0.0 = sym (judges c.loop-i.i (Err c.in_err-check.field-0.0) c.loop-i-test.true c.in_err-check.ensures) in
    let e = first_here f c.loop-i.i c.args.n c.in_err-check.field-0.0 c.loop-i-test.true (c.loop-i.invariant f judges) here in
    let z : result_err c.from_residual.result ≡ Some c.in_err-check.field-0.0 = search rules in
    z ∙ sym e

pub loop-i-preserved : goal.loop-i-preserved
loop-i-preserved g c f judges =
    first_more f c.loop-i.i (c.loop-i.invariant f judges) (sym (judges c.loop-i.i c.check.result c.loop-i-test.true c.check.ensures) ∙ ap result_err c.in_ok-check.was)

pub returns : goal.returns
returns g c f judges =
    let e : c.loop-i.i ≡ c.args.n = omega arith in
    sym (c.loop-i.invariant f judges) ∙ ap (first_of f) e
