use Rattle.std.proofs.Common.{◌≡◌, max, drop}
use Rattle.tables.specs.Tables.{largest_size}
use Rattle.tables.proofs.open.largest_size.Given as goal

abbrev pub invariant-loop-leg : goal.invariant-loop-leg
invariant-loop-leg l = max l.largest (largest_size (drop l.leg-index l.legs)) ≡ largest_size l.legs
