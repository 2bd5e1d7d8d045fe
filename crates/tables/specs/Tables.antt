-- The network that two tables hold: a record for each node, and the legs of all rows one after another.
use Rattle.std.specs.Prelude.{ℕ, ◌+◌, max, List, [], ◌∷◌, length, slice_index_or, unsigned_abs}
use Rattle.network.specs.Limits.{most_time}
use Rattle.network.specs.Meaning.{Net, legs_row, no_leg}
use Rattle.network.specs.Rows.{start_of, legs_from}
use Rattle.network.specs.declared.leg.Leg.{Leg}
use Rattle.network.specs.declared.leg.Window.{Window}
use Rattle.tables.specs.declared.record.NodeRecord.{NodeRecord}

-- what stands where no record is
abbrev pub no_record : NodeRecord
no_record = record { opens = 0; closes = 0; first_leg = 0 }

-- a table of one node, open from 0 to the latest time
abbrev pub one_node : List NodeRecord
one_node = record { opens = 0; closes = most_time; first_leg = 0 } ∷ []

-- node i of a table
abbrev pub node_at : List NodeRecord → ℕ → NodeRecord
node_at nodes i = slice_index_or nodes i no_record

-- leg j of a table
abbrev pub leg_at : List Leg → ℕ → Leg
leg_at legs j = slice_index_or legs j no_leg

-- the number of the first leg of node i
abbrev pub first_leg_of : List NodeRecord → ℕ → ℕ
first_leg_of nodes i = (node_at nodes i).first_leg

-- where the row of node i starts; after the last row come no more legs
abbrev pub row_start : List NodeRecord → List Leg → ℕ → ℕ
row_start nodes legs i = start_of (first_leg_of nodes) (length nodes) (length legs) i

-- the legs of node i
abbrev pub row_of : List NodeRecord → List Leg → ℕ → List Leg
row_of nodes legs i = legs_from (leg_at legs) (row_start nodes legs i) (row_start nodes legs (i + 1))

-- the opening hours of a node
abbrev pub window_of : NodeRecord → Window
window_of r = record { opens = r.opens; closes = r.closes }

-- the largest size of a cost, 0 without legs
abbrev pub largest_size : List Leg → ℕ
largest_size [] = 0
largest_size (l ∷ ls) = max (unsigned_abs l.cost) (largest_size ls)

-- the network of the tables
abbrev pub table_net : List NodeRecord → List Leg → ℕ → ℕ → Net
table_net nodes legs depot sink = record {
  n = length nodes;
  depot = depot;
  sink = sink;
  window = λ i. window_of (node_at nodes i);
  row = λ i. legs_row (row_of nodes legs i);
  reach = largest_size legs;
}
