-- The first thing that is wrong with an image. A field is judged by those before it, and its first byte is named.
use Rattle.std.specs.Prelude.{◌≡◌, ℕ, ◌+◌, ◌*◌, ◌%◌, false, ◌&&◌, List, length, is_some, Option, ◌==◌, nat_le, nat_lt, unsigned_abs}
use Rattle.std.specs.Option.{option_or}
use Rattle.network.specs.First.{unless, first_of}
use Rattle.network.specs.Limits.{most_nodes, most_legs, most_time}
use Rattle.network.specs.Refusals.{fault}
use Rattle.network.specs.Rows.{least_first, most_first}
use Rattle.network.specs.declared.fault.FileFault.{FileFault}
use Rattle.network.specs.declared.fault.FilePart.TheVariants.{Size, Header, NodeTable, LegTable}
use Rattle.blocks.specs.Numbers.{u16_at, u32_at, i32_at}
use Rattle.blocks.specs.Blocks.{block_of, frame_fault, unused_fault}
use Rattle.blocks.specs.Tables.{blocks_for, in_block, record_of}
use Rattle.image_format.specs.declared.BlockKind.{BlockKind}
use Rattle.image_format.specs.declared.BlockKind.TheVariants.{Nodes, Legs}
use Rattle.image_format.specs.Layout.{kind_number, kind_part, header_in, nodes_in, legs_in, node_record, first_leg_of, leg_base, most_cost}

-- the content of the header block h
abbrev pub header_fault : List ℕ → Option FileFault
header_fault h =
    option_or (unless (nat_le 1 (header_in h).nodes && nat_le (header_in h).nodes most_nodes) (fault Header 0 4))
    (option_or (unless (nat_lt (header_in h).depot (header_in h).nodes) (fault Header 0 6))
    (option_or (unless (nat_lt (header_in h).sink (header_in h).nodes) (fault Header 0 8))
    (option_or (unless (nat_le (header_in h).legs most_legs) (fault Header 0 10))
    (unused_fault h 14 Header 0))))

-- the node record t, which stands at `byte` of block b, and whose first leg lies from low to high
unfoldable pub node_fault : List ℕ → ℕ → ℕ → ℕ → ℕ → Option FileFault
node_fault t b byte low high =
    option_or (unless (nat_le (u32_at t 0) most_time) (fault NodeTable b byte))
    (option_or (unless (nat_le (u32_at t 0) (u32_at t 4) && nat_le (u32_at t 4) most_time) (fault NodeTable b (byte + 4)))
    (unless (nat_le low (u32_at t 8) && nat_le (u32_at t 8) high) (fault NodeTable b (byte + 8))))

-- record r of node block k, counted from 0
abbrev pub node_fault_at : List ℕ → ℕ → ℕ → ℕ → Option FileFault
node_fault_at image m k r =
    node_fault (node_record image (42 * k + r)) (1 + k) (4 + 12 * r) (least_first (first_leg_of image) (42 * k + r)) (most_first m (42 * k + r))

-- a block of a table: its kind, its number b, and `count` records, of which record r has the fault f r
abbrev pub table_block_fault : List ℕ → BlockKind → ℕ → ℕ → (ℕ → Option FileFault) → Option FileFault
table_block_fault block kind b count f =
    option_or (frame_fault block (kind_number kind) b)
    (option_or (first_of f count)
    (unused_fault block (4 + 12 * count) (kind_part kind) b))

unfoldable pub node_block_fault : List ℕ → ℕ → ℕ → ℕ → Option FileFault
node_block_fault image n m k = table_block_fault (block_of image (1 + k)) Nodes (1 + k) (in_block 42 n k) (node_fault_at image m k)

-- the number of blocks that an image of n nodes and m legs has
abbrev pub block_count : ℕ → ℕ → ℕ
block_count n m = 1 + blocks_for 42 n + blocks_for 42 m

-- what opening an image judges, in order: its length, header, number of blocks and node blocks
unfoldable pub judge : List ℕ → Option FileFault
judge image =
    option_or (unless (nat_lt 0 (length image) && (length image % 512) == 0) (fault Size 0 0))
    (option_or (frame_fault (block_of image 0) 1 0)
    (option_or (header_fault (block_of image 0))
    (option_or (unless ((length image) == 512 * block_count (nodes_in image) (legs_in image)) (fault Size 0 0))
    (first_of (node_block_fault image (nodes_in image) (legs_in image)) (blocks_for 42 (nodes_in image))))))

-- no fault at opening, as a fact that a ghost field can hold
abbrev pub Sound : List ℕ → Type 0
Sound image = is_some (judge image) ≡ false

-- the leg record t, which stands at `byte` of block b
unfoldable pub leg_fault : List ℕ → ℕ → ℕ → ℕ → Option FileFault
leg_fault t n b byte =
    option_or (unless (nat_lt (u16_at t 0) n) (fault LegTable b byte))
    (option_or (unless (u16_at t 2 == 0) (fault LegTable b (byte + 2)))
    (option_or (unless (nat_le 1 (u32_at t 4) && nat_le (u32_at t 4) most_time) (fault LegTable b (byte + 4)))
    (unless (nat_le (unsigned_abs (i32_at t 8)) most_cost) (fault LegTable b (byte + 8)))))

abbrev pub leg_fault_in : List ℕ → ℕ → ℕ → ℕ → Option FileFault
leg_fault_in block n b r = leg_fault (record_of 12 block r) n b (4 + 12 * r)

-- a leg block with the number b that holds `count` legs
unfoldable pub leg_block_fault : List ℕ → ℕ → ℕ → ℕ → Option FileFault
leg_block_fault block n b count = table_block_fault block Legs b count (leg_fault_in block n b)

-- leg block k of an image, counted from 0
abbrev pub leg_block_fault_at : List ℕ → ℕ → Option FileFault
leg_block_fault_at image k =
    leg_block_fault (block_of image (leg_base image + k)) (nodes_in image) (leg_base image + k) (in_block 42 (legs_in image) k)
