-- A ring of stops.
use Rattle.std.specs.Prelude.{ℕ, ◌+◌, ◌%◌, ◌≤◌, [], ◌∷◌, ℤ, unsigned_abs}
use Rattle.network.specs.Limits.{most_nodes, most_time, most_reach}
use Rattle.network.specs.Meaning.{Net, legs_row}
use Rattle.network.specs.declared.leg.Leg.{Leg}

-- a ring that keeps the limits of a network
abbrev pub WithinLimits : ℕ → ℕ → ℤ → Type 0
WithinLimits stops minutes cost =
    (1 ≤ stops) × (stops ≤ most_nodes) × (1 ≤ minutes) × (minutes ≤ most_time) × (unsigned_abs cost ≤ most_reach)

-- the stop after stop i: after the last comes the first
abbrev pub next_stop : ℕ → ℕ → ℕ
next_stop stops i = (i + 1) % stops

-- the leg that leaves stop i
abbrev pub leg_from : ℕ → ℕ → ℤ → ℕ → Leg
leg_from stops minutes cost i = record { head = next_stop stops i; duration = minutes; cost = cost }

-- the network of a ring: the depot and the sink are the first stop, and each stop is always open
abbrev pub ring_net : ℕ → ℕ → ℤ → Net
ring_net stops minutes cost = record {
  n = stops;
  depot = 0;
  sink = 0;
  window = λ i. record { opens = 0; closes = most_time };
  row = λ i. legs_row (leg_from stops minutes cost i ∷ []);
  reach = unsigned_abs cost;
}
