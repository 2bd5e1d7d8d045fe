use Rattle.std.proofs.Common.{rules, ◌≡◌, sym, ◌∙◌, Ok, get_or}
use Rattle.paths.specs.Asking.{step_answer}
use Rattle.paths.proofs.Walking.{standing_still, gone_on, no_leg_there, leads_outside, given, all_legs}
use Rattle.paths.proofs.walk.walk.Goals as goal

pub loop-leg-init : goal.loop-leg-init
loop-leg-init g c = standing_still (g.N.Network.meaning c.args.net.now) g.L.Label.kind c.depot-node.result c.start-label.result (search rules) (search rules)

pub returns-in_err-step : goal.returns-in_err-step
returns-in_err-step g c =
    let n = c.args.net.now in
    rw c.from_residual.ensures
    (no_leg_there (g.N.Network.meaning n) g.L.Label.kind c.args.legs.now c.loop-leg.leg-index c.loop-leg.node c.loop-leg.label c.step_along.result (g.N.Network.lawful n) c.loop-leg-test.true c.loop-leg.invariant c.step_along.ensures (sym c.ok.ensures.value ∙ c.in_err-step.was))

pub returns-in_err-label : goal.returns-in_err-label
returns-in_err-label g c =
    let m = g.N.Network.meaning c.args.net.now in
    let e : Ok c.in_ok-step.step ≡ step_answer m c.loop-leg.node (get_or c.args.legs.now c.loop-leg.leg-index 0) = given c.step_along.result c.step_along.ensures (sym c.ok.ensures.value ∙ c.in_ok-step.was) in
    rw c.from_residual-in_err-label.ensures
    (leads_outside m g.L.Label.kind c.args.legs.now c.loop-leg.leg-index c.loop-leg.node c.loop-leg.label c.in_ok-step.step c.loop-leg-test.true c.loop-leg.invariant e (sym c.extend.ensures ∙ c.in_err-label.was))

pub loop-leg-preserved : goal.loop-leg-preserved
loop-leg-preserved g c =
    let e = given c.step_along.result c.step_along.ensures (sym c.ok.ensures.value ∙ c.in_ok-step.was) in
    gone_on (g.N.Network.meaning c.args.net.now) g.L.Label.kind c.args.legs.now c.loop-leg.leg-index c.loop-leg.node c.loop-leg.label c.in_ok-step.step c.in_ok-label.label c.loop-leg-test.true c.loop-leg.invariant e (sym c.extend.ensures ∙ c.in_ok-label.was)

pub returns : goal.returns
returns g c = all_legs (g.N.Network.meaning c.args.net.now) g.L.Label.kind c.args.legs.now c.loop-leg.leg-index c.loop-leg.node c.loop-leg.label c.loop-leg-test.false c.loop-leg.invariant
