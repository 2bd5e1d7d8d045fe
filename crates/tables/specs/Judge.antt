-- The first fault of tables, in the order in which they are judged.
use Rattle.std.specs.Prelude.{◌≡◌, ℕ, Bool, false, ◌&&◌, List, length, is_some, Option, nat_le, nat_lt, unsigned_abs}
use Rattle.std.specs.Option.{option_or}
use Rattle.network.specs.First.{unless, first_of}
use Rattle.network.specs.Limits.{most_nodes, most_legs, most_time, most_reach}
use Rattle.network.specs.Refusals.{fault}
use Rattle.network.specs.Rows.{least_first, most_first}
use Rattle.network.specs.declared.fault.FileFault.{FileFault}
use Rattle.network.specs.declared.fault.FilePart.{FilePart}
use Rattle.network.specs.declared.fault.FilePart.TheVariants.{Header, NodeTable, LegTable}
use Rattle.network.specs.declared.leg.Leg.{Leg}
use Rattle.tables.specs.declared.record.NodeRecord.{NodeRecord}
use Rattle.tables.specs.Tables.{node_at, leg_at, first_leg_of}

-- a fault of a part of the tables: block 0, and the number of the record
abbrev pub fault_at : FilePart → ℕ → FileFault
fault_at part i = fault part 0 i

-- n nodes, m legs, the depot and the sink keep the limits
abbrev pub valid_header : ℕ → ℕ → ℕ → ℕ → Bool
valid_header n m depot sink = nat_le 1 n && (nat_le n most_nodes && (nat_lt depot n && (nat_lt sink n && nat_le m most_legs)))

-- the fault of those numbers
abbrev pub header_fault : ℕ → ℕ → ℕ → ℕ → Option FileFault
header_fault n m depot sink = unless (valid_header n m depot sink) (fault_at Header 0)

-- a node keeps the limits, and its first leg is from `least` to `most`
abbrev pub valid_node : NodeRecord → ℕ → ℕ → Bool
valid_node r least most =
    nat_le r.opens r.closes && (nat_le r.closes most_time && (nat_le least r.first_leg && nat_le r.first_leg most))

-- the fault of node i, where there are m legs
abbrev pub node_fault : List NodeRecord → ℕ → ℕ → Option FileFault
node_fault nodes m i =
    unless (valid_node (node_at nodes i) (least_first (first_leg_of nodes) i) (most_first m i)) (fault_at NodeTable i)

-- a leg keeps the limits, where there are n nodes
abbrev pub valid_leg : Leg → ℕ → Bool
valid_leg l n =
    nat_lt l.head n && (nat_le 1 l.duration && (nat_le l.duration most_time && nat_le (unsigned_abs l.cost) most_reach))

-- the fault of leg j
abbrev pub leg_fault : List Leg → ℕ → ℕ → Option FileFault
leg_fault legs n j = unless (valid_leg (leg_at legs j) n) (fault_at LegTable j)

-- the first fault of the tables: of the header, then of a node, then of a leg
abbrev pub table_fault : List NodeRecord → List Leg → ℕ → ℕ → Option FileFault
table_fault nodes legs depot sink =
    option_or (header_fault (length nodes) (length legs) depot sink)
    (option_or (first_of (node_fault nodes (length legs)) (length nodes))
    (first_of (leg_fault legs (length nodes)) (length legs)))

-- no fault: a fact that a ghost field can hold
abbrev pub Sound : List NodeRecord → List Leg → ℕ → ℕ → Type 0
Sound nodes legs depot sink = is_some (table_fault nodes legs depot sink) ≡ false
