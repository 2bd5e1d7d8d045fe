-- What an image without fault gives its readers.
use Rattle.std.proofs.Common.{◌≡◌, ℕ, ◌+◌, ◌-◌, ◌*◌, ◌/◌, ◌%◌, ◌<◌, ◌≤◌, List, length, nat_abs, None, sym, ap, ◌∙◌, subst, arith}
use Rattle.std.proofs.lemmas.Bool.{eqb-true, leb-true, ltb-true, lt-ltb, and_parts, cond-true}
use Rattle.std.proofs.lemmas.Bool.Decides.{nat_tests}
use Rattle.network.specs.First.{first_of}
use Rattle.network.specs.Limits.{most_nodes, most_legs, most_time}
use Rattle.network.specs.Rows.{least_first, most_first, InOrder}
use Rattle.network.specs.declared.fault.FilePart.TheVariants.{Header, NodeTable, LegTable}
use Rattle.network.proofs.Firsts.{front, back, passes, first_each, none_from}
use Rattle.blocks.specs.Numbers.{u16_at, u32_at, i32_at}
use Rattle.blocks.specs.Blocks.{block_of, frame_fault, unused_fault}
use Rattle.blocks.specs.Tables.{blocks_for, in_block, record_of, record_at, Framed}
use Rattle.blocks.proofs.Chunked.{chunks12}
use Rattle.image_format.specs.Layout.{nodes_in, depot_in_image, sink_in_image, legs_in, node_record, first_leg_of, leg_base, leg_record, most_cost}
use Rattle.image_format.specs.Judge.{judge, Sound, header_fault, node_fault, node_fault_at, node_block_fault, block_count, leg_fault, leg_fault_in, leg_block_fault, leg_block_fault_at}
use Rattle.image_format.specs.Decode.{blocks_over, span_fault}

pub record Facts (s : List ℕ) : Type 0 where
  pub long : length s ≡ 512 * block_count (nodes_in s) (legs_in s)
  pub some : 1 ≤ nodes_in s
  pub many : nodes_in s ≤ most_nodes
  pub depot_in : depot_in_image s < nodes_in s
  pub sink_in : sink_in_image s < nodes_in s
  pub few : legs_in s ≤ most_legs
  pub header_frame : frame_fault (block_of s 0) 1 0 ≡ None
  pub header_unused : unused_fault (block_of s 0) 14 Header 0 ≡ None
  pub blocks : (k : ℕ) → k < blocks_for 42 (nodes_in s) → node_block_fault s (nodes_in s) (legs_in s) k ≡ None

record HeaderFacts (h : List ℕ) : Type 0 where
  pub some : 1 ≤ u16_at h 4
  pub many : u16_at h 4 ≤ most_nodes
  pub depot_in : u16_at h 6 < u16_at h 4
  pub sink_in : u16_at h 8 < u16_at h 4
  pub few : u32_at h 10 ≤ most_legs
  pub unused : unused_fault h 14 Header 0 ≡ None

header_facts : (h : List ℕ) → header_fault h ≡ None → HeaderFacts h
header_facts h e = record {
  some = grind (arith, nat_tests);
  many = grind (arith, nat_tests);
  depot_in = grind (arith, nat_tests);
  sink_in = grind (arith, nat_tests);
  few = grind (arith, nat_tests);
  unused = grind (arith, nat_tests);
}

pub facts : (s : List ℕ) → judge s ≡ None → Facts s
unfolding judge
facts s e =
    let e1 = back _ _ e in
    let e2 = back _ _ e1 in
    let e3 = back _ _ e2 in
    let h : HeaderFacts (block_of s 0) = header_facts (block_of s 0) (front _ _ e2) in
    record {
      long = eqb-true _ _ (passes _ _ (front _ _ e3));
      some = h.some;
      many = h.many;
      depot_in = h.depot_in;
      sink_in = h.sink_in;
      few = h.few;
      header_frame = front _ _ e1;
      header_unused = h.unused;
      blocks = first_each (node_block_fault s (nodes_in s) (legs_in s)) (blocks_for 42 (nodes_in s)) (back _ _ e3);
    }

pub sound_facts : (s : List ℕ) → Sound s → Facts s
sound_facts s e = facts s (none_from (judge s) e)

-- a node block that passes
pub record BlockFacts (s : List ℕ) (n m k : ℕ) : Type 0 where
  pub framed : Framed 12 42 2 1 NodeTable s n k
  pub nodes : first_of (node_fault_at s m k) (in_block 42 n k) ≡ None

pub block_facts : (s : List ℕ) (n m k : ℕ) → node_block_fault s n m k ≡ None → BlockFacts s n m k
unfolding node_block_fault
block_facts s n m k e =
    let d = back _ _ e in
    record { framed = record { frame = front _ _ e; unused = back _ _ d }; nodes = front _ _ d }

record RecordFacts (t : List ℕ) (low high : ℕ) : Type 0 where
  pub in_order : u32_at t 0 ≤ u32_at t 4
  pub ends : u32_at t 4 ≤ most_time
  pub least : low ≤ u32_at t 8
  pub most : u32_at t 8 ≤ high

record_facts : (t : List ℕ) (b byte low high : ℕ) → node_fault t b byte low high ≡ None → RecordFacts t low high
unfolding node_fault
record_facts t b byte low high e = record {
  in_order = grind (arith, nat_tests);
  ends = grind (arith, nat_tests);
  least = grind (arith, nat_tests);
  most = grind (arith, nat_tests);
}

pub record NodeFacts (s : List ℕ) (i : ℕ) : Type 0 where
  pub in_order : u32_at (node_record s i) 0 ≤ u32_at (node_record s i) 4
  pub ends : u32_at (node_record s i) 4 ≤ most_time
  pub ordered : InOrder (first_leg_of s) (legs_in s) i

pub node_facts : (s : List ℕ) → Facts s → (i : ℕ) → i < nodes_in s → NodeFacts s i
node_facts s f i h =
    let k : ℕ = i / 42 in
    let r : ℕ = i % 42 in
    let e : 42 * k + r ≡ i = omega arith in
    let b = block_facts s (nodes_in s) (legs_in s) k (f.blocks k (omega arith)) in
    let p = first_each (node_fault_at s (legs_in s) k) (in_block 42 (nodes_in s) k) b.nodes r (omega arith) in
    let t = record_facts (node_record s (42 * k + r)) (1 + k) (4 + 12 * r) (least_first (first_leg_of s) (42 * k + r)) (most_first (legs_in s) (42 * k + r)) p in
    subst (λ (z : ℕ). NodeFacts s z) e (record { in_order = t.in_order; ends = t.ends; ordered = record { least = t.least; most = t.most } })

pub ordered : (s : List ℕ) → Facts s → (i : ℕ) → i < nodes_in s → InOrder (first_leg_of s) (legs_in s) i
ordered s f i h = (node_facts s f i h).ordered

-- a leg block that passes
pub record LegBlockFacts (t : List ℕ) (n b c : ℕ) : Type 0 where
  pub frame : frame_fault t 3 b ≡ None
  pub legs : first_of (leg_fault_in t n b) c ≡ None
  pub unused : unused_fault t (4 + 12 * c) LegTable b ≡ None

pub leg_block_facts : (t : List ℕ) (n b c : ℕ) → leg_block_fault t n b c ≡ None → LegBlockFacts t n b c
unfolding leg_block_fault
leg_block_facts t n b c e = let d = back _ _ e in record { frame = front _ _ e; legs = front _ _ d; unused = back _ _ d }

pub record LegFacts (t : List ℕ) (n : ℕ) : Type 0 where
  pub head_in : u16_at t 0 < n
  pub zero_is : u16_at t 2 ≡ 0
  pub lasts : 1 ≤ u32_at t 4
  pub ends : u32_at t 4 ≤ most_time
  pub cost_in : nat_abs (i32_at t 8) ≤ most_cost

leg_facts_of : (t : List ℕ) (n b byte : ℕ) → leg_fault t n b byte ≡ None → LegFacts t n
unfolding leg_fault
leg_facts_of t n b byte e =
    let e1 = back _ _ e in
    let e2 = back _ _ e1 in
    let d = and_parts _ _ (passes _ _ (front _ _ e2)) in
    record {
      head_in = ltb-true _ _ (passes _ _ (front _ _ e));
      zero_is = eqb-true _ _ (passes _ _ (front _ _ e1));
      lasts = leb-true _ _ d.0;
      ends = leb-true _ _ d.1;
      cost_in = leb-true _ _ (passes _ _ (back _ _ e2));
    }

-- the blocks of a span that passes
pub span_sound : (s : List ℕ) (from to j : ℕ) → span_fault s from to ≡ None → from ≤ j → j < to → leg_block_fault_at s (j / 42) ≡ None
unfolding span_fault
span_sound s from to j e p q =
    let c : blocks_over from to ≡ blocks_for 42 to - from / 42 = cond-true _ _ _ (lt-ltb from to (omega arith)) in
    let x : from / 42 + (j / 42 - from / 42) ≡ j / 42 = omega arith in
    let y : j / 42 - from / 42 < blocks_over from to = omega arith in
    ap (leg_block_fault_at s) (sym x) ∙ first_each (λ k. leg_block_fault_at s (from / 42 + k)) (blocks_over from to) e (j / 42 - from / 42) y

pub leg_facts : (s : List ℕ) (j : ℕ) → j < legs_in s → leg_block_fault_at s (j / 42) ≡ None → LegFacts (leg_record s j) (nodes_in s)
unfolding record_at
leg_facts s j h e =
    let t : List ℕ = block_of s (leg_base s + j / 42) in
    let b = leg_block_facts t (nodes_in s) (leg_base s + j / 42) (in_block 42 (legs_in s) (j / 42)) e in
    leg_facts_of (record_of 12 t (j % 42)) (nodes_in s) (leg_base s + j / 42) (4 + 12 * (j % 42))
    (first_each (leg_fault_in t (nodes_in s) (leg_base s + j / 42)) (in_block 42 (legs_in s) (j / 42)) b.legs (j % 42) (chunks12.inner j (legs_in s) h))
