-- The image of a lawful network has no fault, and means that network.
use Rattle.std.proofs.Common.{◌≡◌, ℕ, ◌+◌, ◌-◌, ◌*◌, ◌/◌, ◌%◌, ◌<◌, ◌≤◌, List, [], ◌++◌, map, length, get_or, nat_abs, None, sym, refl, ap, ◌∙◌, subst, ⊎_elim, add-one, arith, length-append, w32, to_z, of_z}
use Rattle.std.specs.List.{range_with_len}
use Rattle.std.proofs.lemmas.List.FromFn.{length-map-range_with_len, get_or-map-range_with_len}
use Rattle.std.proofs.lemmas.List.{append_assoc, append-nil, take_at, ext_get_or}
use Rattle.std.proofs.lemmas.Bool.{eq-eqb, ne_eqb, le-leb, lt-ltb, le-ltb, and_from, cond-true, cond-false, cases_eq, cases_lt}
use Rattle.std.proofs.lemmas.Bool.Decides.{nat_tests}
use Rattle.network.specs.First.{unless, first_of}
use Rattle.network.specs.Limits.{most_nodes, most_legs, most_time}
use Rattle.network.specs.Meaning.{Net, Row, legs_row, unreadable_row, legs_of, fault_in, legs_at, legs_below, all_legs, no_leg}
use Rattle.network.specs.Lawful.{Lawful, LawfulLeg}
use Rattle.network.specs.Refusals.{fault}
use Rattle.network.specs.Rows.{least_first, most_first, legs_from}
use Rattle.network.specs.declared.fault.FilePart.TheVariants.{Size, Header as HeaderPart, NodeTable, LegTable}
use Rattle.network.specs.declared.leg.Leg.{Leg}
use Rattle.network.proofs.Firsts.{both, first_none}
use Rattle.network.proofs.Piles.{pile_grows, pile_item, pile_each}
use Rattle.blocks.specs.Numbers.{u16_at, u32_at, i32_at}
use Rattle.blocks.specs.Blocks.{block_of, body, finished, start_bytes, frame_fault, unused_fault}
use Rattle.blocks.specs.Tables.{blocks_for, in_block, record_of, record_at, Framed}
use Rattle.blocks.proofs.Fields.{value32, value_signed}
use Rattle.blocks.proofs.Frames.{length-finished, frame_passes, unused_passes}
use Rattle.blocks.proofs.Chunked.{chunks12, kept, table_length}
use Rattle.image_format.specs.Layout.{nodes_in, legs_in, node_record, first_leg_of, start, leg_base, leg_record, most_cost}
use Rattle.image_format.specs.Judge.{judge, header_fault, node_fault, node_fault_at, node_block_fault, block_count, leg_fault, leg_fault_in, leg_block_fault, leg_block_fault_at}
use Rattle.image_format.specs.Decode.{blocks_over, span_fault, window_in, leg_in_record, leg_at, row_by, row_span, image_net}
use Rattle.image_format.specs.declared.header.Header.{Header}
use Rattle.image_format.specs.Encode.{header_bytes, header_of, node_bytes, leg_bytes, leg_count, first_of_node, node_bytes_at, leg_bytes_at, header_block, node_table, leg_table, encoded, encoded_size}
use Rattle.image_format.specs.RoundTrip.{Holdable, WrittenIsRead}

-- the header
record HeaderIs (h : List ℕ) (x : Header) : Type 0 where
  pub n_is : u16_at h 4 ≡ x.nodes
  pub depot_is : u16_at h 6 ≡ x.depot
  pub sink_is : u16_at h 8 ≡ x.sink
  pub m_is : u32_at h 10 ≡ x.legs
  pub frame : frame_fault h 1 0 ≡ None
  pub unused : unused_fault h 14 HeaderPart 0 ≡ None
  pub long : length h ≡ 512

header_read : (x : Header) → HeaderIs (finished (start_bytes 1 0 ++ header_bytes x)) x
unfolding finished body
header_read x = record {
  n_is = omega arith;
  depot_is = omega arith;
  sink_is = omega arith;
  m_is = value32 x.legs;
  frame = frame_passes 1 0 (header_bytes x) (omega arith);
  unused = unused_passes (start_bytes 1 0 ++ header_bytes x) 14 HeaderPart 0 refl;
  long = length-finished (start_bytes 1 0 ++ header_bytes x) (omega arith);
}

header_ok : (h : List ℕ) → 1 ≤ u16_at h 4 → u16_at h 4 ≤ most_nodes → u16_at h 6 < u16_at h 4 → u16_at h 8 < u16_at h 4 → u32_at h 10 ≤ most_legs → unused_fault h 14 HeaderPart 0 ≡ None → header_fault h ≡ None
header_ok h a b c d e u = grind (arith, nat_tests)

judge_ok : (s : List ℕ) → frame_fault (block_of s 0) 1 0 ≡ None → header_fault (block_of s 0) ≡ None → length s ≡ 512 * block_count (nodes_in s) (legs_in s) → first_of (node_block_fault s (nodes_in s) (legs_in s)) (blocks_for 42 (nodes_in s)) ≡ None → judge s ≡ None
unfolding judge
judge_ok s f h l n =
    both _ _ (ap (λ z. unless z (fault Size 0 0)) (and_from _ _ (lt-ltb 0 (length s) (omega arith)) (eq-eqb (length s % 512) 0 (omega arith))))
    (both _ _ f (both _ _ h (both _ _ (ap (λ z. unless z (fault Size 0 0)) (eq-eqb _ _ l)) n)))

-- records
record NodeIs (t : List ℕ) (opens closes first : ℕ) : Type 0 where
  pub opens_is : u32_at t 0 ≡ opens
  pub closes_is : u32_at t 4 ≡ closes
  pub first_is : u32_at t 8 ≡ first

node_read : (opens closes first : ℕ) → NodeIs (node_bytes opens closes first) opens closes first
node_read opens closes first = record { opens_is = value32 opens; closes_is = value32 closes; first_is = value32 first }

node_ok : (t : List ℕ) (b byte low high : ℕ) → u32_at t 0 ≤ u32_at t 4 → u32_at t 4 ≤ most_time → low ≤ u32_at t 8 → u32_at t 8 ≤ high → node_fault t b byte low high ≡ None
unfolding node_fault
node_ok t b byte low high p q r s = grind (arith, nat_tests)

node_block_ok : (s : List ℕ) (n m k : ℕ) → Framed 12 42 2 1 NodeTable s n k → first_of (node_fault_at s m k) (in_block 42 n k) ≡ None → node_block_fault s n m k ≡ None
unfolding node_block_fault
node_block_ok s n m k f r = both _ _ f.frame (both _ _ r f.unused)

leg_ok : (t : List ℕ) (n b byte : ℕ) → u16_at t 0 < n → u16_at t 2 ≡ 0 → 1 ≤ u32_at t 4 → u32_at t 4 ≤ most_time → nat_abs (i32_at t 8) ≤ most_cost → leg_fault t n b byte ≡ None
unfolding leg_fault
leg_ok t n b byte p q r s u =
    both _ _ (ap (λ z. unless z (fault LegTable b byte)) (lt-ltb _ _ p))
    (both _ _ (ap (λ z. unless z (fault LegTable b (byte + 2))) (eq-eqb _ _ q))
    (both _ _ (ap (λ z. unless z (fault LegTable b (byte + 4))) (and_from _ _ (le-leb _ _ r) (le-leb _ _ s)))
    (ap (λ z. unless z (fault LegTable b (byte + 8))) (le-leb _ _ u))))

leg_block_ok : (t : List ℕ) (n b c : ℕ) → frame_fault t 3 b ≡ None → first_of (leg_fault_in t n b) c ≡ None → unused_fault t (4 + 12 * c) LegTable b ≡ None → leg_block_fault t n b c ≡ None
unfolding leg_block_fault
leg_block_ok t n b c f r u = both _ _ f (both _ _ r u)

leg_cost : (l : Leg) → nat_abs l.cost ≤ most_cost → i32_at (leg_bytes l) 8 ≡ l.cost
leg_cost l h = ap (to_z w32) (value32 (of_z w32 l.cost)) ∙ value_signed l.cost h

leg_duration : (l : Leg) → u32_at (leg_bytes l) 4 ≡ l.duration
leg_duration l = value32 l.duration

leg_head : (l : Leg) → u16_at (leg_bytes l) 0 ≡ l.head
leg_head l = omega arith

leg_read : (l : Leg) → nat_abs l.cost ≤ most_cost → leg_in_record (leg_bytes l) ≡ l
leg_read l h =
    ap (λ x. record { head = x; duration = u32_at (leg_bytes l) 4; cost = i32_at (leg_bytes l) 8 }) (leg_head l)
    ∙ ap (λ x. record { head = l.head; duration = x; cost = i32_at (leg_bytes l) 8 }) (leg_duration l)
    ∙ ap (λ x. record { head = l.head; duration = l.duration; cost = x }) (leg_cost l h)

leg_passes : (l : Leg) (n far b byte : ℕ) → LawfulLeg n far l → nat_abs l.cost ≤ most_cost → leg_fault (leg_bytes l) n b byte ≡ None
leg_passes l n far b byte w h =
    let hd = leg_head l in
    let d = leg_duration l in
    let x : l.head < n = w.head_in in
    let y : 1 ≤ l.duration = w.lasts in
    let z : l.duration ≤ most_time = w.ends in
    leg_ok (leg_bytes l) n b byte (rw hd x) refl (rw d y) (rw d z) (rw (leg_cost l h) h)

readable_row : (row : Row) → fault_in row ≡ None → legs_row (legs_of row) ≡ row
readable_row (legs_row ls) e = refl
readable_row (unreadable_row f) e = let z : ◌≡◌ {A = ℕ} 0 1 = cc in absurd (omega arith)

module _ (N : Net) where
  pub first_grows : (i : ℕ) → i < N.n → first_of_node N i + length (legs_at N i) ≤ leg_count N
  first_grows i h = pile_grows (legs_at N) i N.n h

  pub first_next : (i : ℕ) → first_of_node N (i + 1) ≡ first_of_node N i + length (legs_at N i)
  first_next i = ap (first_of_node N) (add-one i) ∙ length-append (legs_below N i) (legs_at N i)

  pub node_each : (i : ℕ) → length (node_bytes_at N i) ≡ 12
  node_each i = refl

  pub leg_each : (j : ℕ) → length (leg_bytes_at N j) ≡ 12
  leg_each j = refl

  header : HeaderIs (header_block N) (header_of N)
  unfolding header_block
  header = header_read (header_of N)

  pub header_long : length (header_block N) ≡ 512
  header_long = header.long

  pub nodes_long : length (node_table N) ≡ 512 * blocks_for 42 N.n
  nodes_long = table_length 12 42 chunks12 2 1 N.n (node_bytes_at N) node_each

  pub legs_long : length (leg_table N) ≡ 512 * blocks_for 42 (leg_count N)
  legs_long = table_length 12 42 chunks12 3 (1 + blocks_for 42 N.n) (leg_count N) (leg_bytes_at N) leg_each

  pub encoded_long : length (encoded N) ≡ encoded_size N
  unfolding encoded
  encoded_long = length-append (header_block N) (node_table N ++ leg_table N) ∙ omega (arith, header.long, length-append (node_table N) (leg_table N), nodes_long, legs_long)

  header_at : block_of (encoded N) 0 ≡ header_block N
  unfolding encoded block_of
  header_at = take_at (header_block N) (node_table N ++ leg_table N) 512 header.long

  nodes_in_lem : nodes_in (encoded N) ≡ N.n
  nodes_in_lem = ap (λ z. u16_at z 4) header_at ∙ header.n_is

  legs_in_lem : legs_in (encoded N) ≡ leg_count N
  legs_in_lem = ap (λ z. u32_at z 10) header_at ∙ header.m_is

  base_in : leg_base (encoded N) ≡ 1 + blocks_for 42 N.n
  base_in = ap (λ z. 1 + blocks_for 42 z) nodes_in_lem

  node_at : (i : ℕ) → i < N.n → node_record (encoded N) i ≡ node_bytes_at N i
  unfolding encoded
  node_at i h = (kept 12 42 chunks12).reads 2 1 N.n (node_bytes_at N) (header_block N) (leg_table N) header.long node_each i h

  node_framed : (k : ℕ) → k < blocks_for 42 N.n → Framed 12 42 2 1 NodeTable (encoded N) N.n k
  unfolding encoded
  node_framed k h = (kept 12 42 chunks12).passes 2 1 N.n NodeTable (node_bytes_at N) (header_block N) (leg_table N) header.long node_each k h

  legs_last : encoded N ≡ (header_block N ++ node_table N) ++ (leg_table N ++ [])
  unfolding encoded
  legs_last = sym (append_assoc (header_block N) (node_table N) (leg_table N)) ∙ ap (λ z. (header_block N ++ node_table N) ++ z) (sym (append-nil (leg_table N)))

  front_long : length (header_block N ++ node_table N) ≡ 512 * (1 + blocks_for 42 N.n)
  front_long = length-append (header_block N) (node_table N) ∙ omega (arith, header.long, nodes_long)

  leg_at_lem : (j : ℕ) → j < leg_count N → leg_record (encoded N) j ≡ leg_bytes_at N j
  leg_at_lem j h =
      ap (λ z. record_at 12 42 z (encoded N) j) base_in
      ∙ ap (λ z. record_at 12 42 (1 + blocks_for 42 N.n) z j) legs_last
      ∙ (kept 12 42 chunks12).reads 3 (1 + blocks_for 42 N.n) (leg_count N) (leg_bytes_at N) (header_block N ++ node_table N) [] front_long leg_each j h

  leg_framed : (k : ℕ) → k < blocks_for 42 (leg_count N) → Framed 12 42 3 (1 + blocks_for 42 N.n) LegTable (encoded N) (leg_count N) k
  leg_framed k h =
      subst (λ (z : List ℕ). Framed 12 42 3 (1 + blocks_for 42 N.n) LegTable z (leg_count N) k) (sym legs_last)
      ((kept 12 42 chunks12).passes 3 (1 + blocks_for 42 N.n) (leg_count N) LegTable (leg_bytes_at N) (header_block N ++ node_table N) [] front_long leg_each k h)

  fields : (i : ℕ) → i < N.n → NodeIs (node_record (encoded N) i) (N.window i).opens (N.window i).closes (first_of_node N i)
  fields i h =
      subst (λ (z : List ℕ). NodeIs z (N.window i).opens (N.window i).closes (first_of_node N i)) (sym (node_at i h))
      (node_read (N.window i).opens (N.window i).closes (first_of_node N i))

  start_at_lem : (i : ℕ) → i ≤ N.n → start (encoded N) i ≡ first_of_node N i
  start_at_lem i h =
      ⊎_elim
      (λ (q : i < N.n). let v : i < nodes_in (encoded N) = rw nodes_in_lem q in cond-true _ _ _ (lt-ltb _ _ v) ∙ (fields i q).first_is)
      (λ (q : N.n ≤ i). let v : nodes_in (encoded N) ≤ i = rw nodes_in_lem q in cond-false _ _ _ (le-ltb _ _ v) ∙ legs_in_lem ∙ ap (first_of_node N) {x = N.n} {y = i} (omega arith))
      (cases_lt i N.n)

module _ (N : Net) (v : Lawful N) (holds : Holdable N) where
  header_passes : header_fault (header_block N) ≡ None
  header_passes =
      let h = header N in
      header_ok (header_block N) (rw h.n_is v.some) (rw h.n_is v.many) (rw (h.n_is, h.depot_is) v.depot_in) (rw (h.n_is, h.sink_is) v.sink_in) (rw h.m_is v.few) h.unused

  node_passes : (i b byte : ℕ) → i < N.n → node_fault (node_record (encoded N) i) b byte (least_first (first_leg_of (encoded N)) i) (most_first (leg_count N) i) ≡ None
  node_passes i b byte h =
      let t : List ℕ = node_record (encoded N) i in
      let low : ℕ = least_first (first_leg_of (encoded N)) i in
      let high : ℕ = most_first (leg_count N) i in
      let f = fields N i h in
      let fa : u32_at t 0 ≡ (N.window i).opens = f.opens_is in
      let fb : u32_at t 4 ≡ (N.window i).closes = f.closes_is in
      let ff : u32_at t 8 ≡ first_of_node N i = f.first_is in
      let x = v.windows i h in
      let va : (N.window i).opens ≤ (N.window i).closes = x.in_order in
      let vb : (N.window i).closes ≤ most_time = x.ends in
      let g = first_grows N i h in
      let bounds : (least_first (first_leg_of (encoded N)) i ≤ first_of_node N i) × (first_of_node N i ≤ most_first (leg_count N) i) = ⊎_elim
      (λ (q : i ≡ 0).
      let e = eq-eqb i 0 q in
      let l : least_first (first_leg_of (encoded N)) i ≡ 0 = cond-true _ _ _ e in
      let y : first_of_node N i ≡ 0 = ap (first_of_node N) q in
      (omega arith, omega arith))
      (λ (q : i ≡ 0 → ⊥).
      let e = ne_eqb i 0 q in
      let l : least_first (first_leg_of (encoded N)) i ≡ first_of_node N (i - 1) = cond-false _ _ _ e ∙ (fields N (i - 1) (omega arith)).first_is in
      let y : most_first (leg_count N) i ≡ leg_count N = cond-false _ _ _ e in
      let z : first_of_node N i ≡ first_of_node N (i - 1) + length (legs_at N (i - 1)) = ap (first_of_node N) {x = i} {y = i - 1 + 1} (omega arith) ∙ first_next N (i - 1) in
      (omega arith, omega arith))
      (cases_eq i 0) in
      node_ok t b byte low high (omega arith) (omega arith) (omega (arith, bounds.0)) (omega (arith, bounds.1))

  node_block_passes : (k : ℕ) → k < blocks_for 42 N.n → node_block_fault (encoded N) N.n (leg_count N) k ≡ None
  node_block_passes k h =
      node_block_ok (encoded N) N.n (leg_count N) k (node_framed N k h)
      (first_none (node_fault_at (encoded N) (leg_count N) k) (in_block 42 N.n k) (λ r q. node_passes (42 * k + r) (1 + k) (4 + 12 * r) (chunks12.below N.n k r q)))

  written_opens : judge (encoded N) ≡ None
  written_opens =
      let s : List ℕ = encoded N in
      let n = nodes_in_lem N in
      let m = legs_in_lem N in
      judge_ok s
      (ap (λ z. frame_fault z 1 0) (header_at N) ∙ (header N).frame)
      (ap header_fault (header_at N) ∙ header_passes)
      (encoded_long N ∙ ap (λ z. 512 * block_count z (leg_count N)) (sym n) ∙ ap (λ z. 512 * block_count (nodes_in s) z) (sym m))
      (ap (λ z. first_of (node_block_fault s z (legs_in s)) (blocks_for 42 z)) n ∙ ap (λ z. first_of (node_block_fault s N.n z) (blocks_for 42 N.n)) m
      ∙ first_none (node_block_fault s N.n (leg_count N)) (blocks_for 42 N.n) node_block_passes)

  holds_each : (j : ℕ) → j < leg_count N → nat_abs (get_or (all_legs N) j no_leg).cost ≤ most_cost
  holds_each = pile_each (λ l. nat_abs l.cost ≤ most_cost) (legs_at N) N.n no_leg holds

  lawful_each : (j : ℕ) → j < leg_count N → LawfulLeg N.n N.reach (get_or (all_legs N) j no_leg)
  lawful_each = pile_each (LawfulLeg N.n N.reach) (legs_at N) N.n no_leg v.rows

  leg_block_passes : (k : ℕ) → k < blocks_for 42 (leg_count N) → leg_block_fault_at (encoded N) k ≡ None
  unfolding record_at
  leg_block_passes k h =
      let s : List ℕ = encoded N in
      let a : ℕ = 1 + blocks_for 42 N.n in
      let c : ℕ = in_block 42 (leg_count N) k in
      let g = leg_framed N k h in
      ap (λ z. leg_block_fault (block_of s (1 + blocks_for 42 z + k)) z (1 + blocks_for 42 z + k) (in_block 42 (legs_in s) k)) (nodes_in_lem N)
      ∙ ap (λ z. leg_block_fault (block_of s (a + k)) N.n (a + k) (in_block 42 z k)) (legs_in_lem N)
      ∙ leg_block_ok (block_of s (a + k)) N.n (a + k) c g.frame
      (first_none (leg_fault_in (block_of s (a + k)) N.n (a + k)) c
      (λ r q.
      let j : ℕ = 42 * k + r in
      let b : j < leg_count N = chunks12.below (leg_count N) k r q in
      let e : record_of 12 (block_of s (a + k)) r ≡ leg_bytes_at N j =
      ap (λ z. record_of 12 (block_of s (a + z)) r) (sym (chunks12.quotient (leg_count N) k r q))
      ∙ ap (λ z. record_of 12 (block_of s (a + j / 42)) z) (sym (chunks12.remainder (leg_count N) k r q))
      ∙ ap (λ z. record_at 12 42 z s j) (sym (base_in N)) ∙ leg_at_lem N j b in
      ap (λ z. leg_fault z N.n (a + k) (4 + 12 * r)) e
      ∙ leg_passes (get_or (all_legs N) j no_leg) N.n N.reach (a + k) (4 + 12 * r) (lawful_each j b) (holds_each j b)))
      g.unused

  span_passes : (from to : ℕ) → to ≤ leg_count N → span_fault (encoded N) from to ≡ None
  unfolding span_fault
  span_passes from to h =
      first_none (λ k. leg_block_fault_at (encoded N) (from / 42 + k)) (blocks_over from to)
      (λ k q.
      ⊎_elim
      (λ (l : from < to). let e : blocks_over from to ≡ blocks_for 42 to - from / 42 = cond-true _ _ _ (lt-ltb _ _ l) in leg_block_passes (from / 42 + k) (omega arith))
      (λ (l : to ≤ from). let e : blocks_over from to ≡ 0 = cond-false _ _ _ (le-ltb _ _ l) in absurd (omega arith))
      (cases_lt from to))

  legs_same : (i : ℕ) → i < N.n → legs_from (leg_at (encoded N)) (first_of_node N i) (first_of_node N (i + 1)) ≡ legs_at N i
  legs_same i h =
      let n = first_next N i in
      let g = first_grows N i h in
      let a : ℕ = first_of_node N i in
      let c : first_of_node N (i + 1) - a ≡ length (legs_at N i) = omega arith in
      let l : length (map (leg_at (encoded N)) (range_with_len a (length (legs_at N i)))) ≡ length (legs_at N i) = length-map-range_with_len (leg_at (encoded N)) a (length (legs_at N i)) in
      ap (λ z. map (leg_at (encoded N)) (range_with_len a z)) c
      ∙ ext_get_or no_leg (map (leg_at (encoded N)) (range_with_len a (length (legs_at N i)))) (legs_at N i) l
      (λ k q.
      let b : k < length (legs_at N i) = omega arith in
      get_or-map-range_with_len (leg_at (encoded N)) a (length (legs_at N i)) k (a + k) no_leg b refl
      ∙ ap leg_in_record (leg_at_lem N (a + k) (omega arith)) ∙ leg_read (get_or (all_legs N) (a + k) no_leg) (holds_each (a + k) (omega arith))
      ∙ pile_item (legs_at N) N.n i k no_leg h b)

  row_same : (i : ℕ) → i < N.n → fault_in (N.row i) ≡ None → (image_net (encoded N)).row i ≡ N.row i
  row_same i h e =
      let s : List ℕ = encoded N in
      let a : start s i ≡ first_of_node N i = start_at_lem N i (omega arith) in
      let b : start s (i + 1) ≡ first_of_node N (i + 1) = start_at_lem N (i + 1) (omega arith) in
      let n = first_next N i in
      let g = first_grows N i h in
      ap (λ z. row_span s z (start s (i + 1))) a ∙ ap (λ z. row_span s (first_of_node N i) z) b
      ∙ ap (λ z. row_by z (legs_from (leg_at s) (first_of_node N i) (first_of_node N (i + 1)))) (span_passes (first_of_node N i) (first_of_node N (i + 1)) (omega arith))
      ∙ ap legs_row (legs_same i h) ∙ readable_row (N.row i) e

window_is : (t : List ℕ) (opens closes first : ℕ) → NodeIs t opens closes first → window_in t ≡ record { opens = opens; closes = closes }
window_is t opens closes first r =
    ap (λ x. record { opens = x; closes = u32_at t 4 }) r.opens_is ∙ ap (λ x. record { opens = opens; closes = x }) r.closes_is

pub written_is_read_lem : WrittenIsRead
written_is_read_lem N v r holds = record {
  opens = written_opens N v holds;
  same = record {
    nodes_same = nodes_in_lem N;
    depot_same = ap (λ z. u16_at z 6) (header_at N) ∙ (header N).depot_is;
    sink_same = ap (λ z. u16_at z 8) (header_at N) ∙ (header N).sink_is;
    window_same = λ i h. window_is (node_record (encoded N) i) (N.window i).opens (N.window i).closes (first_of_node N i) (fields N i h);
    row_same = λ i h. row_same N v holds i h (r i h);
  };
}
