-- Marks on the leg blocks of an image: a marked block is sound.
use Rattle.std.specs.Prelude.{◌≡◌, ℕ, Bool, true, false, List, is_some, slice_index_or}
use Rattle.image_format.specs.Judge.{leg_block_fault_at}

abbrev pub Marked : List Bool → List ℕ → Type 0
Marked marks image = (k : ℕ) → slice_index_or marks k false ≡ true → is_some (leg_block_fault_at image k) ≡ false
