-- What is written is read back, and what is read is written again.
use Rattle.std.specs.Prelude.{◌≡◌, ℕ, ◌<◌, ◌≤◌, List, length, None, slice_index_or, unsigned_abs}
use Rattle.network.specs.Meaning.{Net, Same, fault_in, legs_at, no_leg}
use Rattle.network.specs.Lawful.{Lawful}
use Rattle.blocks.specs.Numbers.{Bytes}
use Rattle.image_format.specs.Layout.{most_cost}
use Rattle.image_format.specs.Judge.{judge}
use Rattle.image_format.specs.Decode.{image_net}
use Rattle.image_format.specs.Encode.{encoded}

-- every row can be read
abbrev pub Readable : Net → Type 0
Readable N = (i : ℕ) → i < N.n → fault_in (N.row i) ≡ None

-- an image can hold every cost
abbrev pub Holdable : Net → Type 0
Holdable N = (i : ℕ) → i < N.n → (k : ℕ) → k < length (legs_at N i) → unsigned_abs (slice_index_or (legs_at N i) k no_leg).cost ≤ most_cost

-- the image of N opens, and means the same network
pub record ReadBack (N : Net) : Type 0 where
  pub opens : judge (encoded N) ≡ None
  pub same : Same (image_net (encoded N)) N

abbrev pub WrittenIsRead : Type 0
WrittenIsRead = (N : Net) → Lawful N → Readable N → Holdable N → ReadBack N

abbrev pub ReadIsWritten : Type 0
ReadIsWritten = (image : List ℕ) → Bytes image → judge image ≡ None → Readable (image_net image) → encoded (image_net image) ≡ image
