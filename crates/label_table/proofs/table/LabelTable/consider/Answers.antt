use Rattle.std.proofs.Common.{◌∙◌, arith}
use Rattle.std.proofs.lemmas.Grind.{common_steps}
use Rattle.std.proofs.lemmas.Result.{err_from_is_err_and}
use Rattle.label_table.specs.Considering.{covered, entered}
use Rattle.label_table.proofs.Weighing.{more_still, next_leg, last_leg}
use Rattle.label_table.proofs.table.LabelTable.consider.Goals as goal

pub legs-preserved-then-stands_over : goal.legs-preserved-then-stands_over
legs-preserved-then-stands_over g c =
    let step = c.in-Some.ensures.steps.1 in
    record {
      rest = next_leg c.legs.invariant.rest (omega (arith, step.0)) c.requires.row (rw step.1 at c.in-Some-row_along.ensures) covered (grind (arith, common_steps)) (omega (arith, step.2)) (omega arith) (omega arith);
      end = c.in-Some.ensures.steps.0 ∙ c.legs.invariant.end;
      more = c.legs.invariant.more;
      keeps = c.legs.invariant.keeps;
    }

pub returns-then-at-len-clause-does : goal.returns-then-at-len-clause-does
returns-then-at-len-clause-does g c =
    let step = c.in-Some.ensures.steps.1 in
    last_leg c.legs.invariant.rest (omega (arith, step.0)) c.requires.row (rw step.1 at c.in-Some-row_along.ensures) _ (grind (arith, common_steps))

pub returns-in_err-enter-clause-more : goal.returns-in_err-enter-clause-more
returns-in_err-enter-clause-more g c = more_still c.legs.invariant.more c.enter.ensures.more

pub legs-preserved : goal.legs-preserved
legs-preserved g c =
    let step = c.in-Some.ensures.steps.1 in
    let told = c.in_ok-enter.ensures in
    let m = told.more in
    record {
      rest = next_leg c.legs.invariant.rest (omega (arith, step.0)) c.requires.row (rw step.1 at c.in-Some-row_along.ensures) entered (grind (arith, common_steps, told.does)) (omega (arith, step.2)) (omega (arith, told.count)) (omega (arith, told.count, m.puts.len));
      end = c.in-Some.ensures.steps.0 ∙ c.legs.invariant.end;
      more = more_still c.legs.invariant.more m;
      keeps = told.keeps ∙ c.legs.invariant.keeps;
    }

pub returns-in_err-enter-clause-does : goal.returns-in_err-enter-clause-does
returns-in_err-enter-clause-does g c =
    let step = c.in-Some.ensures.steps.1 in
    let told = c.in_err-enter.ensures in
    let p = err_from_is_err_and c.from_residual.result c.from_residual.ensures.1 in
    rw (p.1, p.2, told.count) (last_leg c.legs.invariant.rest (omega (arith, step.0)) c.requires.row (rw step.1 at c.in-Some-row_along.ensures) _ (grind (arith, common_steps, told.does)))
