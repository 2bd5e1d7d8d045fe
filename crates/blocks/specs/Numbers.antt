-- Little-endian numbers in a list of bytes, both ways, and the two sums of a block's check.
use Rattle.std.specs.Prelude.{ℕ, suc, ◌+◌, ◌*◌, ◌/◌, ◌%◌, ◌<◌, List, [], ◌∷◌, length, take, ℤ, slice_index}
use Rattle.std.proofs.Common.{to_z, of_z}
use Rattle.std.specs.Int.{w32}

-- a list of bytes
abbrev pub Bytes : List ℕ → Type 0
Bytes s = (i : ℕ) → i < length s → slice_index s i < 256

-- the number of two or four bytes that begins at byte i, and the signed one in two's complement
abbrev pub u16_at : List ℕ → ℕ → ℕ
u16_at s i = slice_index s i + 256 * slice_index s (i + 1)

abbrev pub u32_at : List ℕ → ℕ → ℕ
u32_at s i = slice_index s i + 256 * slice_index s (i + 1) + 65536 * slice_index s (i + 2) + 16777216 * slice_index s (i + 3)

abbrev pub i32_at : List ℕ → ℕ → ℤ
i32_at s i = to_z w32 (u32_at s i)

-- a number as bytes
abbrev pub bytes16 : ℕ → List ℕ
bytes16 x = x % 256 ∷ x / 256 ∷ []

abbrev pub bytes32 : ℕ → List ℕ
bytes32 x = x % 256 ∷ x / 256 % 256 ∷ x / 65536 % 256 ∷ x / 16777216 ∷ []

abbrev pub bytes_z : ℤ → List ℕ
bytes_z z = bytes32 (of_z w32 z)

-- the sum of the bytes
abbrev pub plain_sum : List ℕ → ℕ
plain_sum [] = 0
plain_sum (x ∷ xs) = x + plain_sum xs

-- the sum of (i + 1) times byte i, for bytes that begin at i
abbrev pub weighted_sum : ℕ → List ℕ → ℕ
weighted_sum i [] = 0
weighted_sum i (x ∷ xs) = suc i * x + weighted_sum (suc i) xs

-- the two numbers of a check, over the first 508 bytes
unfoldable pub plain_check : List ℕ → ℕ
plain_check s = plain_sum (take 508 s) % 65521

unfoldable pub weighted_check : List ℕ → ℕ
weighted_check s = weighted_sum 0 (take 508 s) % 65521
