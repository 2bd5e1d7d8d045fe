-- Writing an opened image again: 9 at the lowest node with an unreadable row, then 19, or the very image.
use Rattle.std.specs.Prelude.{ℕ, List, length, Option, Result, nat_le}
use Rattle.std.specs.Option.{option_or}
use Rattle.network.specs.First.{unless, first_of}
use Rattle.network.specs.Refusals.{NetworkRefusal}
use Rattle.image_format.specs.Layout.{nodes_in}
use Rattle.image_format.specs.Decode.{image_net}
use Rattle.image_writer.specs.Write.{unread_at, no_room, answer_by, bytes_by}

abbrev pub rewrite_fault : List ℕ → ℕ → Option NetworkRefusal
rewrite_fault image room =
    option_or (first_of (unread_at (image_net image)) (nodes_in image)) (unless (nat_le (length image) room) no_room)

-- the answer, and the buffer d after it
abbrev pub rewrite_answer : List ℕ → List ℕ → Result ℕ NetworkRefusal
rewrite_answer image d = answer_by (rewrite_fault image (length d)) (length image)

abbrev pub rewritten : List ℕ → List ℕ → List ℕ
rewritten image d = bytes_by (rewrite_fault image (length d)) image d
