use Rattle.layers.proofs.Pricing.{accepted_first}
use Rattle.layers.proofs.prices.Prices.over.Goals as goal

pub invariant_of-result : goal.invariant_of-result
invariant_of-result g c = record {
  accepted = accepted_first (g.N.Network.meaning c.args.below) (g.N.Network.lawful c.args.below) 1000;
}
