-- An image without fault whose rows can all be read is the image of its network.
use Rattle.std.proofs.Common.{◌≡◌, ℕ, ◌+◌, ◌*◌, ◌/◌, ◌%◌, ◌^◌, ◌<◌, ◌≤◌, List, ◌++◌, map, length, get_or, take, drop, Some, None, Option, sym, refl, ap, ◌∙◌, arith, length-drop, take-add, w32, of_z}
use Rattle.std.specs.List.{range_with_len}
use Rattle.std.proofs.lemmas.List.FromFn.{length-map-range_with_len, get_or-map-range_with_len}
use Rattle.std.proofs.lemmas.List.{drop-drop, take_all, length-take-le}
use Rattle.std.proofs.lemmas.Int.{of_z-to_z}
use Rattle.network.specs.Meaning.{legs_of, fault_in, legs_at, legs_below, all_legs, no_leg}
use Rattle.network.specs.Rows.{legs_from}
use Rattle.network.specs.declared.fault.FileFault.{FileFault}
use Rattle.network.specs.declared.fault.FilePart.TheVariants.{Header, NodeTable, LegTable}
use Rattle.network.specs.declared.leg.Leg.{Leg}
use Rattle.network.proofs.Piles.{holding}
use Rattle.network.proofs.Starts.{start_in_lem, start_end, start_zero, below_is}
use Rattle.blocks.specs.Numbers.{Bytes, u16_at, u32_at, i32_at, bytes16, bytes32}
use Rattle.blocks.specs.Blocks.{block_of, finished, start_bytes}
use Rattle.blocks.specs.Tables.{blocks_for, in_block, record_of, record_at, table_bytes}
use Rattle.blocks.proofs.Fields.{back16, back32}
use Rattle.blocks.proofs.Frames.{block_is}
use Rattle.blocks.proofs.Parts.{bytes_part, block_length, block_bytes, image_split}
use Rattle.blocks.proofs.Chunked.{chunks12, kept, table_same}
use Rattle.image_format.specs.Layout.{header_in, nodes_in, depot_in_image, sink_in_image, legs_in, node_record, first_leg_of, start, leg_base, leg_record}
use Rattle.image_format.specs.Judge.{leg_block_fault_at}
use Rattle.image_format.specs.Decode.{span_fault, leg_in_record, leg_at, row_by, image_net}
use Rattle.image_format.specs.Encode.{header_bytes, node_bytes, leg_bytes, leg_count, first_of_node, node_bytes_at, leg_bytes_at, header_block, node_table, leg_table, encoded}
use Rattle.image_format.specs.RoundTrip.{Readable, ReadIsWritten}
use Rattle.image_format.proofs.Sounds.{Facts, facts, block_facts, ordered, leg_block_facts, leg_facts, span_sound}

row_legs : (o : Option FileFault) (ls : List Leg) → fault_in (row_by o ls) ≡ None → (o ≡ None) × (legs_of (row_by o ls) ≡ ls)
row_legs None ls e = (refl, refl)
row_legs (Some f) ls e = let z : ◌≡◌ {A = ℕ} 0 1 = cc in absurd (omega arith)

-- records from their fields
node_record_is : (t : List ℕ) → Bytes t → length t ≡ 12 → t ≡ node_bytes (u32_at t 0) (u32_at t 4) (u32_at t 8)
node_record_is t b l =
    sym (take_all 12 t (omega arith))
    ∙ take-add 4 8 t ∙ ap (λ z. take 4 t ++ z) (take-add 4 4 (drop 4 t) ∙ ap (λ z. take 4 (drop 4 t) ++ take 4 z) (drop-drop 4 4 t))
    ∙ ap (λ z. z ++ (take 4 (drop 4 t) ++ take 4 (drop 8 t))) (back32 t 0 b (omega arith))
    ∙ ap (λ z. bytes32 (u32_at t 0) ++ (z ++ take 4 (drop 8 t))) (back32 t 4 b (omega arith))
    ∙ ap (λ z. bytes32 (u32_at t 0) ++ (bytes32 (u32_at t 4) ++ z)) (back32 t 8 b (omega arith))

bits_are : (t : List ℕ) → Bytes t → length t ≡ 12 → of_z w32 (i32_at t 8) ≡ u32_at t 8
bits_are t b l =
    let b0 = b 8 (omega arith) in
    let b1 = b 9 (omega arith) in
    let b2 = b 10 (omega arith) in
    let b3 = b 11 (omega arith) in
    let h : u32_at t 8 < 2 ^ 32 = omega arith in
    of_z-to_z w32 (u32_at t 8) h

leg_record_is : (t : List ℕ) → Bytes t → length t ≡ 12 → u16_at t 2 ≡ 0 → t ≡ leg_bytes (leg_in_record t)
leg_record_is t b l z =
    sym (take_all 12 t (omega arith)) ∙ take-add 2 10 t
    ∙ ap (λ y. take 2 t ++ y)
    (take-add 2 8 (drop 2 t) ∙ ap (λ y. take 2 (drop 2 t) ++ y)
    (ap (take 8) (drop-drop 2 2 t) ∙ take-add 4 4 (drop 4 t) ∙ ap (λ y. take 4 (drop 4 t) ++ take 4 y) (drop-drop 4 4 t)))
    ∙ ap (λ y. y ++ (take 2 (drop 2 t) ++ (take 4 (drop 4 t) ++ take 4 (drop 8 t)))) (back16 t 0 b (omega arith))
    ∙ ap (λ y. bytes16 (u16_at t 0) ++ (y ++ (take 4 (drop 4 t) ++ take 4 (drop 8 t)))) (back16 t 2 b (omega arith) ∙ ap bytes16 z)
    ∙ ap (λ y. bytes16 (u16_at t 0) ++ (bytes16 0 ++ (y ++ take 4 (drop 8 t)))) (back32 t 4 b (omega arith))
    ∙ ap (λ y. bytes16 (u16_at t 0) ++ (bytes16 0 ++ (bytes32 (u32_at t 4) ++ y))) (back32 t 8 b (omega arith) ∙ ap bytes32 (sym (bits_are t b l)))

header_is : (t : List ℕ) → Bytes t → length t ≡ 512 → take 10 (drop 4 t) ≡ header_bytes (header_in t)
header_is t b l =
    take-add 2 8 (drop 4 t)
    ∙ ap (λ y. take 2 (drop 4 t) ++ y)
    (ap (take 8) (drop-drop 2 4 t) ∙ take-add 2 6 (drop 6 t) ∙ ap (λ y. take 2 (drop 6 t) ++ y)
    (ap (take 6) (drop-drop 2 6 t) ∙ take-add 2 4 (drop 8 t) ∙ ap (λ y. take 2 (drop 8 t) ++ take 4 y) (drop-drop 2 8 t)))
    ∙ ap (λ y. y ++ (take 2 (drop 6 t) ++ (take 2 (drop 8 t) ++ take 4 (drop 10 t)))) (back16 t 4 b (omega arith))
    ∙ ap (λ y. bytes16 (u16_at t 4) ++ (y ++ (take 2 (drop 8 t) ++ take 4 (drop 10 t)))) (back16 t 6 b (omega arith))
    ∙ ap (λ y. bytes16 (u16_at t 4) ++ (bytes16 (u16_at t 6) ++ (y ++ take 4 (drop 10 t)))) (back16 t 8 b (omega arith))
    ∙ ap (λ y. bytes16 (u16_at t 4) ++ (bytes16 (u16_at t 6) ++ (bytes16 (u16_at t 8) ++ y))) (back32 t 10 b (omega arith))

module _ (s : List ℕ) (by : Bytes s) (f : Facts s) (r : Readable (image_net s)) where
  rows_are : (i : ℕ) → i < nodes_in s → legs_at (image_net s) i ≡ legs_from (leg_at s) (start s i) (start s (i + 1))
  rows_are i h = (row_legs (span_fault s (start s i) (start s (i + 1))) (legs_from (leg_at s) (start s i) (start s (i + 1))) (r i h)).1

  below : (i : ℕ) → i ≤ nodes_in s → legs_below (image_net s) i ≡ map (leg_at s) (range_with_len 0 (start s i))
  below = below_is (first_leg_of s) (nodes_in s) (legs_in s) f.some (ordered s f) (leg_at s) (legs_at (image_net s)) rows_are

  at_end : start s (nodes_in s) ≡ legs_in s
  at_end = start_end (first_leg_of s) (nodes_in s) (legs_in s) (nodes_in s) (omega arith)

  first_is : (i : ℕ) → i ≤ nodes_in s → first_of_node (image_net s) i ≡ start s i
  first_is i h = ap length (below i h) ∙ length-map-range_with_len (leg_at s) 0 (start s i)

  count_is : leg_count (image_net s) ≡ legs_in s
  count_is = first_is (nodes_in s) (omega arith) ∙ at_end

  leg_is : (j : ℕ) → j < legs_in s → get_or (all_legs (image_net s)) j no_leg ≡ leg_at s j
  leg_is j h =
      let e = at_end in
      ap (λ z. get_or z j no_leg) (below (nodes_in s) (omega arith)) ∙ get_or-map-range_with_len (leg_at s) 0 (start s (nodes_in s)) j j no_leg (omega arith) (omega arith)

  leg_block_sound : (k : ℕ) → k < blocks_for 42 (legs_in s) → leg_block_fault_at s k ≡ None
  leg_block_sound k h =
      let e = at_end in
      let v = holding (start s) (nodes_in s) (42 * k) (start_zero (first_leg_of s) (nodes_in s) (legs_in s) f.some (ordered s f)) (omega arith) in
      let o = row_legs (span_fault s (start s v.0) (start s (v.0 + 1))) (legs_from (leg_at s) (start s v.0) (start s (v.0 + 1))) (r v.0 v.1) in
      ap (leg_block_fault_at s) {x = k} {y = 42 * k / 42} (omega arith) ∙ span_sound s (start s v.0) (start s (v.0 + 1)) (42 * k) o.0 v.2 v.3

  header_same : block_of s 0 ≡ header_block (image_net s)
  unfolding header_block
  header_same =
      let t : List ℕ = block_of s 0 in
      let l : length t ≡ 512 = block_length s 0 (omega (arith, f.long)) in
      let b : Bytes t = block_bytes s 0 by (omega (arith, f.long)) in
      block_is t 1 0 10 Header l b f.header_frame (omega arith) f.header_unused
      ∙ ap (λ z. finished (start_bytes 1 0 ++ z)) (header_is t b l ∙ ap (λ m. header_bytes (record { nodes = nodes_in s; depot = depot_in_image s; sink = sink_in_image s; legs = m })) (sym count_is))

  -- a record of 12 bytes in a block that is there
  module _ (b i : ℕ) (room : 512 * (b + i / 42) + 512 ≤ length s) where
    record_bytes : Bytes (record_at 12 42 b s i)
    unfolding record_at record_of
    record_bytes = let l = block_length s (b + i / 42) room in bytes_part (block_of s (b + i / 42)) 12 (4 + 12 * (i % 42)) (block_bytes s (b + i / 42) by room) (omega arith)

    record_length : length (record_at 12 42 b s i) ≡ 12
    unfolding record_at record_of
    record_length =
        let l = block_length s (b + i / 42) room in
        length-take-le 12 (drop (4 + 12 * (i % 42)) (block_of s (b + i / 42))) (omega (arith, length-drop (4 + 12 * (i % 42)) (block_of s (b + i / 42))))

  node_at : (i : ℕ) → i < nodes_in s → node_record s i ≡ node_bytes_at (image_net s) i
  node_at i h =
      let room : 512 * (1 + i / 42) + 512 ≤ length s = omega (arith, f.long) in
      node_record_is (node_record s i) (record_bytes 1 i room) (record_length 1 i room)
      ∙ ap (λ z. node_bytes (u32_at (node_record s i) 0) (u32_at (node_record s i) 4) z) (sym (first_is i (omega arith) ∙ start_in_lem (first_leg_of s) (nodes_in s) (legs_in s) i h))

  nodes_same : take (512 * blocks_for 42 (nodes_in s)) (drop (512 * 1) s) ≡ node_table (image_net s)
  nodes_same =
      (kept 12 42 chunks12).writes 2 1 (nodes_in s) NodeTable s by (omega (arith, f.long)) (λ k h. (block_facts s (nodes_in s) (legs_in s) k (f.blocks k h)).framed)
      ∙ table_same 12 42 chunks12 2 1 (nodes_in s) (record_at 12 42 1 s) (node_bytes_at (image_net s)) node_at

  leg_at_lem : (j : ℕ) → j < legs_in s → leg_record s j ≡ leg_bytes_at (image_net s) j
  leg_at_lem j h =
      let room : 512 * (leg_base s + j / 42) + 512 ≤ length s = omega (arith, f.long) in
      let g = leg_facts s j h (leg_block_sound (j / 42) (omega arith)) in
      leg_record_is (leg_record s j) (record_bytes (leg_base s) j room) (record_length (leg_base s) j room) g.zero_is ∙ ap leg_bytes (sym (leg_is j h))

  legs_same : take (512 * blocks_for 42 (legs_in s)) (drop (512 * leg_base s) s) ≡ leg_table (image_net s)
  legs_same =
      (kept 12 42 chunks12).writes 3 (leg_base s) (legs_in s) LegTable s by (omega (arith, f.long))
      (λ k h. let q = leg_block_facts (block_of s (leg_base s + k)) (nodes_in s) (leg_base s + k) (in_block 42 (legs_in s) k) (leg_block_sound k h) in record { frame = q.frame; unused = q.unused })
      ∙ table_same 12 42 chunks12 3 (leg_base s) (legs_in s) (record_at 12 42 (leg_base s) s) (leg_bytes_at (image_net s)) leg_at_lem
      ∙ ap (λ m. table_bytes 42 3 (leg_base s) (leg_bytes_at (image_net s)) m) (sym count_is)

  image_same : encoded (image_net s) ≡ s
  unfolding encoded
  image_same =
      let a : ℕ = blocks_for 42 (nodes_in s) in
      let b : ℕ = blocks_for 42 (legs_in s) in
      sym
      (image_split s a b f.long
      ∙ ap (λ z. z ++ (take (512 * a) (drop (512 * 1) s) ++ take (512 * b) (drop (512 * (1 + a)) s))) header_same
      ∙ ap (λ z. header_block (image_net s) ++ (z ++ take (512 * b) (drop (512 * (1 + a)) s))) nodes_same
      ∙ ap (λ z. header_block (image_net s) ++ (node_table (image_net s) ++ z)) legs_same)

pub read_is_written_lem : ReadIsWritten
read_is_written_lem s by e r = image_same s by (facts s e) r
