-- Where a step lies within the bounds.
use Rattle.std.specs.Prelude.{ℕ, ◌≤◌}
use Rattle.std.proofs.Common.{arith}
use Rattle.network.specs.Limits.{most_reach}
use Rattle.network.specs.Lawful.{LawfulLeg, LawfulWindow}
use Rattle.network.specs.declared.leg.Leg.{Leg}
use Rattle.network.specs.declared.leg.Window.{Window}
use Rattle.labels.specs.Steps.{LawfulStep, step_along}

-- a lawful leg to a node with a lawful window is a lawful step
pub lawful_step : (n reach : ℕ) (l : Leg) (w : Window) → reach ≤ most_reach → LawfulLeg n reach l → LawfulWindow w → LawfulStep (step_along l w)
lawful_step n reach l w h g v = grind arith
