-- What writing promises in the words of networks.
use Rattle.std.specs.Prelude.{◌≡◌, ℕ, ◌≤◌, Bool, true, List, None}
use Rattle.network.specs.Meaning.{Net, Same}
use Rattle.image_format.specs.Judge.{judge}
use Rattle.image_format.specs.Decode.{image_net}
use Rattle.image_format.specs.Encode.{encoded_size}
use Rattle.image_format.specs.RoundTrip.{Readable, Holdable}

-- an image that opens, and reads back with the depot, sink, windows and rows of N
pub record CopyOf (N : Net) (image : List ℕ) : Type 0 where
  pub opens : judge image ≡ None
  pub same : Same (image_net image) N

-- N is written into `room` bytes exactly where its rows can be read, an image can hold its costs, and there is room
pub record WrittenWhen (N : Net) (room : ℕ) (granted : Bool) : Type 0 where
  pub only : granted ≡ true → Readable N × Holdable N × (encoded_size N ≤ room)
  pub always : Readable N → Holdable N → encoded_size N ≤ room → granted ≡ true
