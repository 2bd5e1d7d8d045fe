-- The network of an image without fault is lawful.
use Rattle.std.proofs.Common.{◌≡◌, ℕ, ◌+◌, ◌-◌, ◌<◌, ◌≤◌, List, length, get_or, Some, None, Option, sym, refl, ◌∙◌, subst, arith}
use Rattle.network.specs.Meaning.{legs_of, legs_at, no_leg}
use Rattle.network.specs.Lawful.{Lawful, LawfulLeg}
use Rattle.network.specs.Rows.{legs_from}
use Rattle.network.specs.declared.fault.FileFault.{FileFault}
use Rattle.network.specs.declared.leg.Leg.{Leg}
use Rattle.network.proofs.Starts.{start_most, below_most, length_from, item_from}
use Rattle.image_format.specs.Layout.{nodes_in, legs_in, first_leg_of, start, most_cost}
use Rattle.image_format.specs.Judge.{Sound}
use Rattle.image_format.specs.Decode.{span_fault, leg_at, row_by, image_net}
use Rattle.image_format.proofs.Sounds.{Facts, sound_facts, node_facts, ordered, leg_facts, span_sound}

row_length_lem : (o : Option FileFault) (ls : List Leg) → length (legs_of (row_by o ls)) ≤ length ls
row_length_lem None ls = omega arith
row_length_lem (Some f) ls = omega arith

row_item : (o : Option FileFault) (ls : List Leg) (k : ℕ) → k < length (legs_of (row_by o ls)) → (o ≡ None) × (k < length ls) × (get_or ls k no_leg ≡ get_or (legs_of (row_by o ls)) k no_leg)
row_item None ls k h = (refl, h, refl)
row_item (Some f) ls k h = absurd (omega arith)

row_lawful : (s : List ℕ) → Facts s → (i : ℕ) → i < nodes_in s → (k : ℕ) → k < length (legs_at (image_net s) i) → LawfulLeg (nodes_in s) most_cost (get_or (legs_at (image_net s) i) k no_leg)
row_lawful s f i h k q =
    let from : ℕ = start s i in
    let to : ℕ = start s (i + 1) in
    let o = row_item (span_fault s from to) (legs_from (leg_at s) from to) k q in
    let v : k < to - from = omega (arith, length_from (leg_at s) from to) in
    let m = start_most (first_leg_of s) (nodes_in s) (legs_in s) f.some (ordered s f) (i + 1) in
    let g = leg_facts s (from + k) (omega arith) (span_sound s from to (from + k) o.0 (omega arith) (omega arith)) in
    subst (λ (l : Leg). LawfulLeg (nodes_in s) most_cost l) (sym (item_from (leg_at s) from to k v) ∙ o.2)
    (record { head_in = g.head_in; lasts = g.lasts; ends = g.ends; in_reach = g.cost_in })

rows_within : (s : List ℕ) (i : ℕ) → length (legs_at (image_net s) i) ≤ start s (i + 1) - start s i
rows_within s i =
    let d = row_length_lem (span_fault s (start s i) (start s (i + 1))) (legs_from (leg_at s) (start s i) (start s (i + 1))) in
    let e = length_from (leg_at s) (start s i) (start s (i + 1)) in
    omega arith

pub image_lawful : (s : List ℕ) → Sound s → Lawful (image_net s)
image_lawful s e =
    let f : Facts s = sound_facts s e in
    record {
      some = f.some;
      many = f.many;
      depot_in = f.depot_in;
      sink_in = f.sink_in;
      near = omega arith;
      few =
          let a = below_most (first_leg_of s) (nodes_in s) (legs_in s) f.some (ordered s f) (legs_at (image_net s)) (λ i h. rows_within s i) (nodes_in s) (omega arith) in
          let b = start_most (first_leg_of s) (nodes_in s) (legs_in s) f.some (ordered s f) (nodes_in s) in
          omega (arith, f.few);
      windows = λ i h. let g = node_facts s f i h in record { in_order = g.in_order; ends = g.ends };
      rows = row_lawful s f;
    }
