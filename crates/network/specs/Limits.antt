-- The limits of every network.
use Rattle.std.specs.Prelude.{ℕ}

-- the most nodes, and the most legs, all rows together
abbrev pub most_nodes : ℕ
most_nodes = 1000

abbrev pub most_legs : ℕ
most_legs = 20000

-- the latest time, which is the longest duration too
abbrev pub most_time : ℕ
most_time = 1000000

-- the largest reach
abbrev pub most_reach : ℕ
most_reach = 1000000000
