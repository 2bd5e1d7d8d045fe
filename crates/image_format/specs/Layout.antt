-- Where things stand in an image: block 0 is the header, then come the node blocks, then the leg blocks.
use Rattle.std.specs.Prelude.{ℕ, ◌+◌, List}
use Rattle.network.specs.Rows.{start_of}
use Rattle.blocks.specs.Numbers.{u16_at, u32_at}
use Rattle.blocks.specs.Blocks.{block_of}
use Rattle.blocks.specs.Tables.{blocks_for, record_at}
use Rattle.network.specs.declared.fault.FilePart.{FilePart}
use Rattle.network.specs.declared.fault.FilePart.TheVariants.{Header as HeaderPart, NodeTable, LegTable}
use Rattle.image_format.specs.declared.BlockKind.{BlockKind}
use Rattle.image_format.specs.declared.BlockKind.TheVariants.{Header as HeaderKind, Nodes, Legs}
use Rattle.image_format.specs.declared.header.Header.{Header}

-- the number that stands for a kind in a block, and the part of the file that blocks of the kind hold
abbrev pub kind_number : BlockKind → ℕ
kind_number HeaderKind = 1
kind_number Nodes = 2
kind_number Legs = 3

abbrev pub kind_part : BlockKind → FilePart
kind_part HeaderKind = HeaderPart
kind_part Nodes = NodeTable
kind_part Legs = LegTable

-- what the header block h counts and names
abbrev pub header_in : List ℕ → Header
header_in h = record { nodes = u16_at h 4; depot = u16_at h 6; sink = u16_at h 8; legs = u32_at h 10 }

abbrev pub nodes_in : List ℕ → ℕ
nodes_in image = (header_in (block_of image 0)).nodes

abbrev pub depot_in_image : List ℕ → ℕ
depot_in_image image = (header_in (block_of image 0)).depot

abbrev pub sink_in_image : List ℕ → ℕ
sink_in_image image = (header_in (block_of image 0)).sink

abbrev pub legs_in : List ℕ → ℕ
legs_in image = (header_in (block_of image 0)).legs

-- the record of node i: records of 12 bytes, 42 to a block, from block 1 on
abbrev pub node_record : List ℕ → ℕ → List ℕ
node_record image i = record_at 12 42 1 image i

abbrev pub first_leg_of : List ℕ → ℕ → ℕ
first_leg_of image i = u32_at (node_record image i) 8

-- where the row of node i starts among the legs
abbrev pub start : List ℕ → ℕ → ℕ
start image i = start_of (first_leg_of image) (nodes_in image) (legs_in image) i

-- the first leg block, and the record of leg j: records of 12 bytes, 42 to a block
abbrev pub leg_base : List ℕ → ℕ
leg_base image = 1 + blocks_for 42 (nodes_in image)

abbrev pub leg_record : List ℕ → ℕ → List ℕ
leg_record image j = record_at 12 42 (leg_base image) image j

-- the largest size of a cost in an image
abbrev pub most_cost : ℕ
most_cost = 10000000
