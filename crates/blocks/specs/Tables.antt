-- A table of records in blocks that follow one another: `per` records of `width` bytes to a block.
use Rattle.std.specs.Prelude.{◌≡◌, ℕ, ◌+◌, ◌-◌, ◌*◌, ◌/◌, ◌%◌, ◌<◌, ◌≤◌, min, List, ◌++◌, length, take, drop, None}
use Rattle.network.specs.Pile.{pile}
use Rattle.network.specs.declared.fault.FilePart.{FilePart}
use Rattle.blocks.specs.Numbers.{Bytes}
use Rattle.blocks.specs.Blocks.{block_of, finished, start_bytes, frame_fault, unused_fault}

-- how many blocks n records take, and how many of them stand in block k of the table
abbrev pub blocks_for : ℕ → ℕ → ℕ
blocks_for per n = (n + (per - 1)) / per

abbrev pub in_block : ℕ → ℕ → ℕ → ℕ
in_block per n k = min (n - per * k) per

-- record r of a block, and record i of a table whose first block has the number `base`
unfoldable pub record_of : ℕ → List ℕ → ℕ → List ℕ
record_of width block r = take width (drop (4 + width * r) block)

unfoldable pub record_at : ℕ → ℕ → ℕ → List ℕ → ℕ → List ℕ
record_at width per base s i = record_of width (block_of s (base + i / per)) (i % per)

-- the table of the records f 0, .. f (n - 1): its block k, and the whole
unfoldable pub table_block : ℕ → ℕ → ℕ → (ℕ → List ℕ) → ℕ → ℕ → List ℕ
table_block per kind base f n k = finished (start_bytes kind (base + k) ++ pile (λ r. f (per * k + r)) (in_block per n k))

abbrev pub table_bytes : ℕ → ℕ → ℕ → (ℕ → List ℕ) → ℕ → List ℕ
table_bytes per kind base f n = pile (table_block per kind base f n) (blocks_for per n)

-- block k of a table of n records in s has its frame, and no unused byte
pub record Framed (width per kind base : ℕ) (part : FilePart) (s : List ℕ) (n k : ℕ) : Type 0 where
  pub frame : frame_fault (block_of s (base + k)) kind (base + k) ≡ None
  pub unused : unused_fault (block_of s (base + k)) (4 + width * in_block per n k) part (base + k) ≡ None

pub record Kept (width per : ℕ) : Type 0 where
  -- each record of a table that is written is read again
  pub reads : (kind base n : ℕ) (f : ℕ → List ℕ) (p rest : List ℕ) → length p ≡ 512 * base → ((i : ℕ) → length (f i) ≡ width) → (i : ℕ) → i < n → record_at width per base (p ++ (table_bytes per kind base f n ++ rest)) i ≡ f i
  -- each of its blocks passes
  pub passes : (kind base n : ℕ) (part : FilePart) (f : ℕ → List ℕ) (p rest : List ℕ) → length p ≡ 512 * base → ((i : ℕ) → length (f i) ≡ width) → (k : ℕ) → k < blocks_for per n → Framed width per kind base part (p ++ (table_bytes per kind base f n ++ rest)) n k
  -- a table whose blocks pass is the table of its records
  pub writes : (kind base n : ℕ) (part : FilePart) (s : List ℕ) → Bytes s → 512 * (base + blocks_for per n) ≤ length s → ((k : ℕ) → k < blocks_for per n → Framed width per kind base part s n k) → take (512 * blocks_for per n) (drop (512 * base) s) ≡ table_bytes per kind base (record_at width per base s) n

-- what is written is read and what is read is written, for records of 12 bytes, 42 to a block
abbrev pub TablesStand : Type 0
TablesStand = Kept 12 42
