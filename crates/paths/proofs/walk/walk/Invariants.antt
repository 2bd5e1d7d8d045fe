use Rattle.std.proofs.Common.{take}
use Rattle.paths.specs.Walks.{PathBy}
use Rattle.paths.proofs.walk.walk.Given as goal

abbrev pub invariant-loop-leg : goal.invariant-loop-leg
invariant-loop-leg g l = PathBy (g.N.Network.meaning l.net) g.L.Label.kind (take l.leg-index l.legs) l.node l.label
