-- The image of an opened image's network is that image, where every row can be read.
use Rattle.std.proofs.Common.{◌≡◌, ℕ, leb, List, length, Some, None, Option, sym, refl, ap, ◌∙◌}
use Rattle.std.specs.Option.{option_or}
use Rattle.network.specs.First.{unless, first_of}
use Rattle.network.specs.Meaning.{legs_at}
use Rattle.network.specs.Refusals.{NetworkRefusal, unreadable}
use Rattle.network.proofs.Firsts.{first_each, first_none, none_from}
use Rattle.blocks.specs.Numbers.{Bytes}
use Rattle.image_format.specs.Layout.{nodes_in}
use Rattle.image_format.specs.Judge.{judge, Sound}
use Rattle.image_format.specs.Decode.{image_net}
use Rattle.image_format.specs.Encode.{encoded, encoded_size}
use Rattle.image_format.specs.RoundTrip.{Readable}
use Rattle.image_format.proofs.Again.{read_is_written_lem}
use Rattle.image_format.proofs.Back.{encoded_long}
use Rattle.image_format.proofs.Lawfuls.{image_lawful}
use Rattle.image_writer.specs.Write.{unread_at, dear_at, no_room, cost_too_large, write_fault, answer_by, bytes_by, write_answer, written}
use Rattle.image_writer.proofs.Steps.{unmapped}
use Rattle.image_writer.proofs.Sure.{holds_all, unread_first, room_next}
use Rattle.round_trip.specs.Rewrite.{rewrite_fault, rewrite_answer, rewritten}

module _ (s : List ℕ) (by : Bytes s) (e : Sound s) where
  -- an image holds only costs that an image can hold
  dear_none : first_of (dear_at (image_net s)) (nodes_in s) ≡ None
  dear_none = first_none (dear_at (image_net s)) (nodes_in s)
      (λ i h. ap (λ b. unless b (cost_too_large i)) (holds_all (legs_at (image_net s) i) (λ k q. ((image_lawful s e).rows i h k q).in_reach)))

  module _ (u : first_of (unread_at (image_net s)) (nodes_in s) ≡ None) where
    readable : Readable (image_net s)
    readable i h = unmapped (unreadable i) _ (first_each (unread_at (image_net s)) (nodes_in s) u i h)

    same : encoded (image_net s) ≡ s
    same = read_is_written_lem s by (none_from (judge s) e) readable

    size : encoded_size (image_net s) ≡ length s
    size = sym (encoded_long (image_net s)) ∙ ap length same

  -- the fault, the size and the bytes, as the unread row decides
  by_unread : (room : ℕ) (o : Option NetworkRefusal) → first_of (unread_at (image_net s)) (nodes_in s) ≡ o → rewrite_fault s room ≡ option_or o (unless (leb (length s) room) no_room)
  by_unread room o u = ap (λ p. option_or p (unless (leb (length s) room) no_room)) u

  fault_by : (room : ℕ) (o : Option NetworkRefusal) → first_of (unread_at (image_net s)) (nodes_in s) ≡ o → write_fault (image_net s) room ≡ rewrite_fault s room
  fault_by room None u = room_next (image_net s) room u dear_none ∙ ap (λ z. unless (leb z room) no_room) (size u) ∙ sym (by_unread room None u)
  fault_by room (Some f) u = unread_first (image_net s) room f u ∙ sym (by_unread room (Some f) u)

  size_by : (room : ℕ) (o : Option NetworkRefusal) → first_of (unread_at (image_net s)) (nodes_in s) ≡ o → answer_by (rewrite_fault s room) (encoded_size (image_net s)) ≡ answer_by (rewrite_fault s room) (length s)
  size_by room None u = ap (answer_by (rewrite_fault s room)) (size u)
  size_by room (Some f) u = rw (by_unread room (Some f) u)

  image_by : (d : List ℕ) (o : Option NetworkRefusal) → first_of (unread_at (image_net s)) (nodes_in s) ≡ o → bytes_by (rewrite_fault s (length d)) (encoded (image_net s)) d ≡ bytes_by (rewrite_fault s (length d)) s d
  image_by d None u = ap (λ z. bytes_by (rewrite_fault s (length d)) z d) (same u)
  image_by d (Some f) u = rw (by_unread (length d) (Some f) u)

  pub answer_again : (d : List ℕ) → write_answer (image_net s) d ≡ rewrite_answer s d
  answer_again d = ap (λ p. answer_by p (encoded_size (image_net s))) (fault_by (length d) _ refl) ∙ size_by (length d) _ refl

  pub bytes_again : (d : List ℕ) → written (image_net s) d ≡ rewritten s d
  bytes_again d = ap (λ p. bytes_by p (encoded (image_net s)) d) (fault_by (length d) _ refl) ∙ image_by d _ refl
