-- Blocks of 512 bytes: kind (byte 0), zero (1), number (2 and 3), content (4 to 507), check (508 to 511).
use Rattle.std.specs.Prelude.{ℕ, ◌+◌, ◌-◌, ◌*◌, ◌&&◌, List, ◌∷◌, ◌++◌, length, take, drop, replicate, Option, ◌==◌, slice_index}
use Rattle.std.specs.Option.{option_or}
use Rattle.network.specs.First.{unless, first_of}
use Rattle.network.specs.Refusals.{fault}
use Rattle.network.specs.declared.fault.FileFault.{FileFault}
use Rattle.network.specs.declared.fault.FilePart.{FilePart}
use Rattle.network.specs.declared.fault.FilePart.TheVariants.{Check, Frame}
use Rattle.blocks.specs.Numbers.{u16_at, bytes16, plain_check, weighted_check}

-- block b of an image
unfoldable pub block_of : List ℕ → ℕ → List ℕ
block_of image b = take 512 (drop (512 * b) image)

-- what is wrong with the check, kind, zero byte or number of the block s, which is to have this kind and number
abbrev pub frame_fault : List ℕ → ℕ → ℕ → Option FileFault
frame_fault s kind b =
    option_or (unless (u16_at s 508 == plain_check s && u16_at s 510 == weighted_check s) (fault Check b 508))
    (option_or (unless (slice_index s 0 == kind) (fault Frame b 0))
    (option_or (unless (slice_index s 1 == 0) (fault Frame b 1))
    (unless (u16_at s 2 == b) (fault Frame b 2))))

-- the unused bytes, from `from` up to the check, are zero
abbrev pub byte_fault : List ℕ → ℕ → FilePart → ℕ → ℕ → Option FileFault
byte_fault s from part b k = unless (slice_index s (from + k) == 0) (fault part b (from + k))

unfoldable pub unused_fault : List ℕ → ℕ → FilePart → ℕ → Option FileFault
unused_fault s from part b = first_of (byte_fault s from part b) (508 - from)

-- the block that begins with `front`: before its check, and whole
unfoldable pub body : List ℕ → List ℕ
body front = front ++ replicate (508 - length front) 0

unfoldable pub finished : List ℕ → List ℕ
finished front = body front ++ (bytes16 (plain_check (body front)) ++ bytes16 (weighted_check (body front)))

abbrev pub start_bytes : ℕ → ℕ → List ℕ
start_bytes kind number = kind ∷ 0 ∷ bytes16 number
