use Rattle.std.proofs.Common.{ℤ, w32, to_z, of_z}
use Rattle.layers.proofs.Pricing.{accepted_more}
use Rattle.layers.proofs.prices.Draft+Prices+N.price.Goals as goal

pub invariant_of-self : goal.invariant_of-self
invariant_of-self g c =
    let s = c.args.self.now.layer in
    let q : ℤ = to_z w32 (of_z w32 c.args.price) in
    (accepted_more (g.N.Network.meaning s.below) (g.N.Network.lawful s.below) s.prices c.args.node q (cc) s.accepted, tt)
