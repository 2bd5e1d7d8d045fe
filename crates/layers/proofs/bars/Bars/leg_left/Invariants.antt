use Rattle.std.proofs.Common.{◌≡◌, ◌+◌, length, filter}
use Rattle.layers.specs.Bars.{stays}
use Rattle.layers.proofs.bars.Bars.leg_left.Given as goal

abbrev pub invariant-loop-leg : goal.invariant-loop-leg
invariant-loop-leg g l = length (filter (stays l.self.pairs.items l.i) l.yielded) + l.left ≡ l.k
