use Rattle.std.proofs.Common.{arith, sym, ◌∙◌}
use Rattle.network.proofs.Legs.{given_within}
use Rattle.network.proofs.row.LegsIterator.next.Goals as goal

pub overflow_add-self : goal.overflow_add-self
overflow_add-self g c =
    let s = c.args.self.now in
    let w = given_within (g.N.Network.meaning s.net.now) s.node s.next c.leg.result c.in_ok-leg.leg (g.N.Network.lawful s.net.now) c.leg.ensures (sym c.in_ok-leg.was ∙ c.ok.ensures.value) in
    record { fits = omega (arith, w) }
