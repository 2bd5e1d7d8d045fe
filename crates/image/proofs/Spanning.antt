-- Rows by their spans.
use Rattle.std.proofs.Common.{◌≡◌, ℕ, ◌+◌, ◌-◌, ◌<◌, ◌≤◌, List, None, Ok, Err, Result, sym, ap, ◌∙◌, arith}
use Rattle.std.proofs.lemmas.Bool.{le-ltb, cond-false}
use Rattle.network.specs.Answers.{if_node, length_answer, leg_answer}
use Rattle.network.specs.Refusals.{NetworkRefusal, no_node, no_such_leg}
use Rattle.network.proofs.Starts.{start_most, start_rises}
use Rattle.image_format.specs.Layout.{nodes_in, legs_in, first_leg_of, start}
use Rattle.image_format.specs.Judge.{Sound}
use Rattle.image_format.specs.Decode.{span_fault, leg_at, image_net}
use Rattle.image_format.proofs.Sounds.{Facts, sound_facts, ordered}
use Rattle.image_format.proofs.Told.{length_given, leg_given, leg_missing}
use Rattle.image.specs.Spans.{IsSpan, IsRefused}

pub row_end : (s : List ℕ) (i : ℕ) → Sound s → start s (i + 1) ≤ legs_in s
row_end s i e = let f : Facts s = sound_facts s e in start_most (first_leg_of s) (nodes_in s) (legs_in s) f.some (ordered s f) (i + 1)

pub is_span : (s : List ℕ) (i from to : ℕ) → Sound s → i < nodes_in s → from ≡ start s i → to ≡ start s (i + 1) → span_fault s from to ≡ None → IsSpan s i from to
is_span s i from to e h a b r =
    let f : Facts s = sound_facts s e in
    let rises = start_rises (first_leg_of s) (nodes_in s) (legs_in s) f.some (ordered s f) i h in
    let within = row_end s i e in
    record {
      node_in = h;
      readable = ap (λ z. span_fault s z (start s (i + 1))) (sym a) ∙ ap (span_fault s from) (sym b) ∙ r;
      starts = a;
      ends = b;
      rises = omega arith;
      within = omega arith;
      few = f.few;
    }

no_row : {X : Type 0} (s : List ℕ) (i : ℕ) (a : Result X NetworkRefusal) → nodes_in s ≤ i → Err (no_node i) ≡ if_node (image_net s) i a
no_row s i a h = sym (cond-false _ _ _ (le-ltb _ _ h))

pub no_node_refused : (s : List ℕ) (i : ℕ) → nodes_in s ≤ i → IsRefused s i (no_node i)
no_node_refused s i h = record { length = no_row s i _ h; leg = λ k. no_row s i _ h }

pub length_of : (s : List ℕ) (i from to : ℕ) → IsSpan s i from to → Ok (to - from) ≡ length_answer (image_net s) i
length_of s i from to p =
    ap (λ z. Ok (z - from)) p.ends ∙ ap (λ z. Ok (start s (i + 1) - z)) p.starts ∙ sym (length_given s i p.node_in p.readable)

pub leg_of : (s : List ℕ) (i from to k : ℕ) → IsSpan s i from to → from + k < to → Ok (leg_at s (from + k)) ≡ leg_answer (image_net s) i k
leg_of s i from to k p h =
    let a = p.starts in
    let b = p.ends in
    ap (λ z. Ok (leg_at s (z + k))) a ∙ sym (leg_given s i p.node_in p.readable k (omega arith))

pub leg_beyond : (s : List ℕ) (i from to k : ℕ) → IsSpan s i from to → to ≤ from + k → Err (no_such_leg i) ≡ leg_answer (image_net s) i k
leg_beyond s i from to k p h =
    let a = p.starts in
    let b = p.ends in
    sym (leg_missing s i p.node_in p.readable k (omega arith))
