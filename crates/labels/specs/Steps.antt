-- What a label is told of a leg.
use Rattle.std.specs.Prelude.{◌≤◌, unsigned_abs}
use Rattle.network.specs.Limits.{most_time, most_reach}
use Rattle.network.specs.declared.leg.Leg.{Leg}
use Rattle.network.specs.declared.leg.Window.{Window}
use Rattle.labels.specs.declared.step.Step.{Step}

-- a leg, and the window of its head
abbrev pub step_along : Leg → Window → Step
step_along l w =
    record { duration = l.duration; cost = l.cost; head = l.head; opens = w.opens; closes = w.closes }

-- a step of a lawful network
pub record LawfulStep (s : Step) : Type 0 where
  pub lasts : 1 ≤ s.duration
  pub ends : s.duration ≤ most_time
  pub in_reach : unsigned_abs s.cost ≤ most_reach
  pub in_order : s.opens ≤ s.closes
  pub closed : s.closes ≤ most_time
