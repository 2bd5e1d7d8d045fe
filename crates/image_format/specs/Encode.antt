-- The image of a network.
use Rattle.std.specs.Prelude.{ℕ, ◌+◌, ◌*◌, List, ◌++◌, length, slice_index_or}
use Rattle.network.specs.Meaning.{Net, legs_below, all_legs, no_leg}
use Rattle.network.specs.declared.leg.Leg.{Leg}
use Rattle.blocks.specs.Numbers.{bytes16, bytes32, bytes_z}
use Rattle.blocks.specs.Blocks.{finished, start_bytes}
use Rattle.blocks.specs.Tables.{blocks_for, table_bytes}
use Rattle.image_format.specs.declared.header.Header.{Header}
use Rattle.image_format.specs.Judge.{block_count}

abbrev pub header_bytes : Header → List ℕ
header_bytes h = bytes16 h.nodes ++ (bytes16 h.depot ++ (bytes16 h.sink ++ bytes32 h.legs))

abbrev pub node_bytes : ℕ → ℕ → ℕ → List ℕ
node_bytes opens closes first = bytes32 opens ++ (bytes32 closes ++ bytes32 first)

abbrev pub leg_bytes : Leg → List ℕ
leg_bytes l = bytes16 l.head ++ (bytes16 0 ++ (bytes32 l.duration ++ bytes_z l.cost))

-- how many legs a network has, and how many the nodes below i have: the first leg of node i
abbrev pub leg_count : Net → ℕ
leg_count N = length (all_legs N)

abbrev pub first_of_node : Net → ℕ → ℕ
first_of_node N i = length (legs_below N i)

-- the record of node i, and of leg j of the whole network
abbrev pub node_bytes_at : Net → ℕ → List ℕ
node_bytes_at N i = node_bytes (N.window i).opens (N.window i).closes (first_of_node N i)

abbrev pub leg_bytes_at : Net → ℕ → List ℕ
leg_bytes_at N j = leg_bytes (slice_index_or (all_legs N) j no_leg)

-- the header of a network
abbrev pub header_of : Net → Header
header_of N = record { nodes = N.n; depot = N.depot; sink = N.sink; legs = leg_count N }

-- the header block, the node blocks and the leg blocks
unfoldable pub header_block : Net → List ℕ
header_block N = finished (start_bytes 1 0 ++ header_bytes (header_of N))

abbrev pub node_table : Net → List ℕ
node_table N = table_bytes 42 2 1 (node_bytes_at N) N.n

abbrev pub leg_table : Net → List ℕ
leg_table N = table_bytes 42 3 (1 + blocks_for 42 N.n) (leg_bytes_at N) (leg_count N)

unfoldable pub encoded : Net → List ℕ
encoded N = header_block N ++ (node_table N ++ leg_table N)

abbrev pub encoded_size : Net → ℕ
encoded_size N = 512 * block_count N.n (leg_count N)
