-- What writing a network as an image comes to: 9 at the lowest node, then 20 at the lowest node, then 19, or the image.
use Rattle.std.specs.Prelude.{ℕ, ◌+◌, Bool, List, ◌++◌, length, drop, Some, None, Ok, Err, Option, Result, nat_le, unsigned_abs}
use Rattle.std.specs.List.{list_all}
use Rattle.std.specs.Option.{option_map, option_or}
use Rattle.network.specs.First.{unless, first_of}
use Rattle.network.specs.Meaning.{Net, fault_in, legs_at}
use Rattle.network.specs.Refusals.{NetworkRefusal, no_file, network_refusal, unreadable}
use Rattle.network.specs.declared.leg.Leg.{Leg}
use Rattle.image_format.specs.Layout.{most_cost}
use Rattle.image_format.specs.Encode.{encoded, encoded_size, leg_count, first_of_node, node_bytes_at, leg_bytes_at}
use Rattle.image_writer.specs.Order.{records_from}
use Rattle.image_writer.specs.declared.fault.WriteFault.{WriteFault}
use Rattle.image_writer.specs.declared.fault.WriteFault.TheVariants.{Network, CostTooLarge, NoRoom}

-- 20: a cost of node i that an image cannot hold; 19: a short buffer
abbrev pub cost_too_large : ℕ → NetworkRefusal
cost_too_large i = record { number = 20; node = i; below = no_file }

abbrev pub no_room : NetworkRefusal
no_room = record { number = 19; node = 0; below = no_file }

abbrev pub write_refusal : WriteFault → NetworkRefusal
write_refusal (Network f) = network_refusal f
write_refusal (CostTooLarge i) = cost_too_large i
write_refusal NoRoom = no_room

abbrev pub told_write : {X : Type 0} → Result X WriteFault → Result X NetworkRefusal
told_write (Ok x) = Ok x
told_write (Err e) = Err (write_refusal e)

-- the row of node i cannot be read
abbrev pub unread_at : Net → ℕ → Option NetworkRefusal
unread_at N i = option_map (unreadable i) (fault_in (N.row i))

-- an image can hold the costs of these legs
abbrev pub holds_leg : Leg → Bool
holds_leg l = nat_le (unsigned_abs l.cost) most_cost

abbrev pub holds_legs : List Leg → Bool
holds_legs = list_all holds_leg

-- node i has a leg whose cost an image cannot hold
abbrev pub dear_at : Net → ℕ → Option NetworkRefusal
dear_at N i = unless (holds_legs (legs_at N i)) (cost_too_large i)

-- the same, as the writer's own fault
abbrev pub dear_fault : Net → ℕ → Option WriteFault
dear_fault N i = unless (holds_legs (legs_at N i)) (CostTooLarge i)

-- the refusal to write into `room` bytes
unfoldable pub write_fault : Net → ℕ → Option NetworkRefusal
write_fault N room =
    option_or (first_of (unread_at N) N.n)
    (option_or (first_of (dear_at N) N.n)
    (unless (nat_le (encoded_size N) room) no_room))

abbrev pub answer_by : {X : Type 0} → Option NetworkRefusal → X → Result X NetworkRefusal
answer_by None x = Ok x
answer_by (Some f) x = Err f

abbrev pub bytes_by : Option NetworkRefusal → List ℕ → List ℕ → List ℕ
bytes_by None e d = e ++ drop (length e) d
bytes_by (Some f) e d = d

-- the answer, how many bytes the image takes; and the buffer d after it: the bytes beyond the image stay
abbrev pub write_answer : Net → List ℕ → Result ℕ NetworkRefusal
write_answer N d = answer_by (write_fault N (length d)) (encoded_size N)

abbrev pub written : Net → List ℕ → List ℕ
written N d = bytes_by (write_fault N (length d)) (encoded N) d

-- how many legs a network has, or the first row that cannot be read
abbrev pub count_answer : Net → Result ℕ NetworkRefusal
count_answer N = answer_by (first_of (unread_at N) N.n) (leg_count N)

-- the records of the nodes from node i on, and of the legs from leg k of node i on
abbrev pub node_records_from : Net → ℕ → List (List ℕ)
node_records_from N i = records_from (node_bytes_at N) N.n i

abbrev pub leg_records_from : Net → ℕ → ℕ → List (List ℕ)
leg_records_from N i k = records_from (leg_bytes_at N) (leg_count N) (first_of_node N i + k)
