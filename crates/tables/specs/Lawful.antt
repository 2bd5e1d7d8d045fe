-- Tables without fault hold a lawful network.
use Rattle.std.specs.Prelude.{◌≡◌, ℕ, zero, suc, ◌+◌, ◌-◌, ◌<◌, ◌≤◌, true, List, [], ◌∷◌, length, None, slice_index_or, unsigned_abs}
use Rattle.std.proofs.Common.{sym, subst, not-suc-le-zero, le_of_eq, arith}
use Rattle.std.specs.Option.{option_or}
use Rattle.std.proofs.lemmas.Bool.Decides.{nat_tests}
use Rattle.network.specs.First.{first_of}
use Rattle.network.specs.Lawful.{Lawful, LawfulLeg, LawfulWindow}
use Rattle.network.specs.Limits.{most_nodes, most_legs, most_reach}
use Rattle.network.specs.Meaning.{no_leg, all_legs}
use Rattle.network.specs.Rows.{least_first, most_first, InOrder}
use Rattle.network.specs.declared.leg.Leg.{Leg}
use Rattle.network.proofs.Firsts.{front, back, passes, none_from, first_each}
use Rattle.network.proofs.Starts.{length_from, item_from, start_most, below_most}
use Rattle.tables.specs.declared.record.NodeRecord.{NodeRecord}
use Rattle.tables.specs.Tables.{node_at, leg_at, first_leg_of, row_start, row_of, window_of, largest_size, table_net}
use Rattle.tables.specs.Judge.{valid_header, valid_node, valid_leg, header_fault, node_fault, leg_fault, table_fault, Sound}

-- each cost is within the largest size, which is within each bound of them all
size_within : (legs : List Leg) (j : ℕ) → j < length legs → unsigned_abs (leg_at legs j).cost ≤ largest_size legs
size_within [] j h = absurd (not-suc-le-zero h)
size_within (l ∷ ls) zero h = omega arith
size_within (l ∷ ls) (suc j) h = let a = size_within ls j (omega arith) in omega arith

largest_within : (legs : List Leg) (most : ℕ) → ((j : ℕ) → j < length legs → unsigned_abs (leg_at legs j).cost ≤ most) → largest_size legs ≤ most
largest_within [] most h = omega arith
largest_within (l ∷ ls) most h =
    let a : unsigned_abs l.cost ≤ most = h 0 (omega arith) in
    let b = largest_within ls most (λ j q. h (suc j) (omega arith)) in
    omega arith

-- what a valid header gives
pub record ValidHeader (n m depot sink : ℕ) : Type 0 where
  pub some : 1 ≤ n
  pub many : n ≤ most_nodes
  pub depot_in : depot < n
  pub sink_in : sink < n
  pub few : m ≤ most_legs

valid_header_lem : (n m depot sink : ℕ) → valid_header n m depot sink ≡ true → ValidHeader n m depot sink
valid_header_lem n m depot sink e = grind (arith, nat_tests)

-- what a valid node gives
record ValidNode (r : NodeRecord) (least most : ℕ) : Type 0 where
  pub window : LawfulWindow (window_of r)
  pub least_first : least ≤ r.first_leg
  pub most_first : r.first_leg ≤ most

valid_node_lem : (r : NodeRecord) (least most : ℕ) → valid_node r least most ≡ true → ValidNode r least most
valid_node_lem r least most e = grind (arith, nat_tests)

-- what a valid leg gives: it is lawful in every reach that its cost is within, and its cost keeps the limit
record ValidLeg (l : Leg) (n : ℕ) : Type 0 where
  pub lawful : (reach : ℕ) → unsigned_abs l.cost ≤ reach → LawfulLeg n reach l
  pub near : unsigned_abs l.cost ≤ most_reach

valid_leg_lem : (l : Leg) (n : ℕ) → valid_leg l n ≡ true → ValidLeg l n
valid_leg_lem l n e = grind (arith, nat_tests)

module _ (nodes : List NodeRecord) (legs : List Leg) (depot sink : ℕ) (sound : Sound nodes legs depot sink) where
  -- no part has a fault
  none : table_fault nodes legs depot sink ≡ None
  none = none_from _ sound

  no_record_fault : option_or (first_of (node_fault nodes (length legs)) (length nodes)) (first_of (leg_fault legs (length nodes)) (length legs)) ≡ None
  no_record_fault = back (header_fault (length nodes) (length legs) depot sink) _ none

  -- the header and each record are valid
  pub header : ValidHeader (length nodes) (length legs) depot sink
  header = valid_header_lem _ _ _ _ (passes _ _ (front _ _ none))

  node : (i : ℕ) → i < length nodes → ValidNode (node_at nodes i) (least_first (first_leg_of nodes) i) (most_first (length legs) i)
  node i h = valid_node_lem _ _ _ (passes _ _ (first_each (node_fault nodes (length legs)) (length nodes) (front _ _ no_record_fault) i h))

  leg : (j : ℕ) → j < length legs → ValidLeg (leg_at legs j) (length nodes)
  leg j h = valid_leg_lem _ _ (passes _ _ (first_each (leg_fault legs (length nodes)) (length legs) (back (first_of (node_fault nodes (length legs)) (length nodes)) _ no_record_fault) j h))

  -- first legs stand in order
  pub ordered : (i : ℕ) → i < length nodes → InOrder (first_leg_of nodes) (length legs) i
  ordered i h = let g = node i h in record { least = g.least_first; most = g.most_first }

  -- no row runs past the legs
  pub start_within : (i : ℕ) → row_start nodes legs i ≤ length legs
  start_within i = start_most (first_leg_of nodes) (length nodes) (length legs) header.some ordered i

  -- a leg of a row is a leg of the table
  lawful_leg : (i k : ℕ) → k < length (row_of nodes legs i) → LawfulLeg (length nodes) (largest_size legs) (slice_index_or (row_of nodes legs i) k no_leg)
  lawful_leg i k h =
      let from : ℕ = row_start nodes legs i in
      let to : ℕ = row_start nodes legs (i + 1) in
      let long = length_from (leg_at legs) from to in
      let within : k < to - from = omega arith in
      let top = start_within (i + 1) in
      let in-legs : from + k < length legs = omega arith in
      subst (LawfulLeg (length nodes) (largest_size legs)) (sym (item_from (leg_at legs) from to k within))
      ((leg (from + k) in-legs).lawful (largest_size legs) (size_within legs (from + k) in-legs))

  -- the rows have no more legs than the table
  few_legs : length (all_legs (table_net nodes legs depot sink)) ≤ most_legs
  few_legs =
      let rows : ℕ → List Leg = row_of nodes legs in
      let a = below_most (first_leg_of nodes) (length nodes) (length legs) header.some ordered rows (λ i h. le_of_eq (length_from (leg_at legs) (row_start nodes legs i) (row_start nodes legs (i + 1)))) (length nodes) (omega arith) in
      let b = start_within (length nodes) in
      let f = header.few in
      omega arith

  -- what `Network` asks of a source
  pub table_lawful : Lawful (table_net nodes legs depot sink)
  table_lawful = record {
    some = header.some;
    many = header.many;
    depot_in = header.depot_in;
    sink_in = header.sink_in;
    near = largest_within legs most_reach (λ j h. (leg j h).near);
    few = few_legs;
    windows = λ i h. (node i h).window;
    rows = λ i h. lawful_leg i;
  }
