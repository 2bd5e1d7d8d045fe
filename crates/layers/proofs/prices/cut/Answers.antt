use Rattle.std.proofs.Common.{arith}
use Rattle.std.proofs.lemmas.Int.{ints, clamps}
use Rattle.layers.specs.Prices.{cut}
use Rattle.layers.proofs.prices.cut.Goals as goal

pub returns : goal.returns
unfolding cut
returns c = omega (arith, ints, clamps)
