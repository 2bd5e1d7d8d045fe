-- Tables of records, over what the numbers of a form say of division.
use Rattle.std.proofs.Common.{◌≡◌, ℕ, ◌+◌, ◌-◌, ◌*◌, ◌/◌, ◌%◌, ◌<◌, ◌≤◌, List, ◌++◌, length, take, drop, replicate, None, sym, refl, ap, ◌∙◌, arith}
use Rattle.std.proofs.lemmas.List.{append_assoc}
use Rattle.network.specs.Pile.{pile}
use Rattle.network.specs.declared.fault.FilePart.{FilePart}
use Rattle.network.proofs.Piles.{length-pile, pile_same, pile_at, pile_parts}
use Rattle.blocks.specs.Numbers.{Bytes, bytes16, plain_check, weighted_check}
use Rattle.blocks.specs.Blocks.{block_of, body, finished, start_bytes, frame_fault, unused_fault}
use Rattle.blocks.proofs.Frames.{length-finished, frame_passes, unused_passes, opened, block_is}
use Rattle.blocks.proofs.Parts.{block_length, block_bytes, blocks_are}
use Rattle.blocks.specs.Tables.{blocks_for, in_block, record_of, record_at, table_block, table_bytes, Framed, Kept}

-- what the proofs ask of the two numbers: `omega` has each at written numbers
pub record Chunks (w per : ℕ) : Type 0 where
  pub fits : (n k : ℕ) → w * in_block per n k ≤ 504
  pub whole : (i : ℕ) → per * (i / per) + i % per ≡ i
  pub outer : (i n : ℕ) → i < n → i / per < blocks_for per n
  pub inner : (i n : ℕ) → i < n → i % per < in_block per n (i / per)
  pub quotient : (n k r : ℕ) → r < in_block per n k → (per * k + r) / per ≡ k
  pub remainder : (n k r : ℕ) → r < in_block per n k → (per * k + r) % per ≡ r
  pub below : (n k r : ℕ) → r < in_block per n k → per * k + r < n

pub chunks12 : Chunks 12 42
chunks12 = record {
  fits = λ n k. omega arith;
  whole = λ i. omega arith;
  outer = λ i n h. omega arith;
  inner = λ i n h. omega arith;
  quotient = λ n k r h. omega arith;
  remainder = λ n k r h. omega arith;
  below = λ n k r h. omega arith;
}

module _ (w per : ℕ) (c : Chunks w per) where
  module _ (kind base n : ℕ) (f : ℕ → List ℕ) (each : (i : ℕ) → length (f i) ≡ w) where
    content_length : (k : ℕ) → length (pile (λ r. f (per * k + r)) (in_block per n k)) ≡ w * in_block per n k
    content_length k = length-pile (λ r. f (per * k + r)) w (in_block per n k) (λ r h. each (per * k + r))

    content_fits : (k : ℕ) → length (pile (λ r. f (per * k + r)) (in_block per n k)) ≤ 504
    content_fits k = let a = content_length k in let b = c.fits n k in omega arith

    pub table_block_length : (k : ℕ) → length (table_block per kind base f n k) ≡ 512
    unfolding table_block
    table_block_length k = let a = content_fits k in length-finished (start_bytes kind (base + k) ++ pile (λ r. f (per * k + r)) (in_block per n k)) (omega arith)

    block_record : (k r : ℕ) → r < in_block per n k → record_of w (table_block per kind base f n k) r ≡ f (per * k + r)
    unfolding table_block record_of
    block_record k r h =
        let g : ℕ → List ℕ = λ r. f (per * k + r) in
        let front : List ℕ = start_bytes kind (base + k) ++ pile g (in_block per n k) in
        let rest : List ℕ = replicate (508 - length front) 0 ++ (bytes16 (plain_check (body front)) ++ bytes16 (weighted_check (body front))) in
        ap (λ z. take w (drop (4 + w * r) z)) (opened front ∙ append_assoc (start_bytes kind (base + k)) (pile g (in_block per n k)) rest)
        ∙ pile_at g w 4 (start_bytes kind (base + k)) rest (in_block per n k) r refl (λ j q. each (per * k + j)) h

    module _ (p rest : List ℕ) (l : length p ≡ 512 * base) where
      block_at : (k : ℕ) → k < blocks_for per n → block_of (p ++ (table_bytes per kind base f n ++ rest)) (base + k) ≡ table_block per kind base f n k
      unfolding block_of
      block_at k h =
          ap (λ z. take 512 (drop z (p ++ (table_bytes per kind base f n ++ rest)))) {x = 512 * (base + k)} {y = 512 * base + 512 * k} (omega arith)
          ∙ pile_at (table_block per kind base f n) 512 (512 * base) p rest (blocks_for per n) k l (λ j q. table_block_length j) h

      table_reads : (i : ℕ) → i < n → record_at w per base (p ++ (table_bytes per kind base f n ++ rest)) i ≡ f i
      unfolding record_at
      table_reads i h =
          ap (λ z. record_of w z (i % per)) (block_at (i / per) (c.outer i n h))
          ∙ block_record (i / per) (i % per) (c.inner i n h) ∙ ap f (c.whole i)

      table_frame : (k : ℕ) → frame_fault (table_block per kind base f n k) kind (base + k) ≡ None
      unfolding table_block
      table_frame k = frame_passes kind (base + k) (pile (λ r. f (per * k + r)) (in_block per n k)) (content_fits k)

      table_unused : (part : FilePart) (k : ℕ) → unused_fault (table_block per kind base f n k) (4 + w * in_block per n k) part (base + k) ≡ None
      unfolding table_block
      table_unused part k = let a = content_length k in unused_passes (start_bytes kind (base + k) ++ pile (λ r. f (per * k + r)) (in_block per n k)) (4 + w * in_block per n k) part (base + k) (omega arith)

      table_passes : (part : FilePart) (k : ℕ) → k < blocks_for per n → Framed w per kind base part (p ++ (table_bytes per kind base f n ++ rest)) n k
      table_passes part k h = record {
        frame = ap (λ z. frame_fault z kind (base + k)) (block_at k h) ∙ table_frame k;
        unused = ap (λ z. unused_fault z (4 + w * in_block per n k) part (base + k)) (block_at k h) ∙ table_unused part k;
      }

  module _ (kind base n : ℕ) (part : FilePart) (s : List ℕ) (by : Bytes s) (long : 512 * (base + blocks_for per n) ≤ length s) where
    block_same : (k : ℕ) → k < blocks_for per n → Framed w per kind base part s n k → block_of s (base + k) ≡ table_block per kind base (record_at w per base s) n k
    unfolding table_block record_at record_of
    block_same k h g =
        let t : List ℕ = block_of s (base + k) in
        let room : 512 * (base + k) + 512 ≤ length s = omega arith in
        let m : ℕ = in_block per n k in
        block_is t kind (base + k) (w * m) part (block_length s (base + k) room) (block_bytes s (base + k) by room) g.frame (c.fits n k) g.unused
        ∙ ap (λ z. finished (start_bytes kind (base + k) ++ z))
        (pile_parts w 4 t m
        ∙ pile_same (λ r. record_of w t r) (λ r. record_at w per base s (per * k + r)) m
        (λ r q. ap (λ z. record_of w (block_of s (base + z)) r) (sym (c.quotient n k r q)) ∙ ap (λ z. record_of w (block_of s (base + (per * k + r) / per)) z) (sym (c.remainder n k r q))))

    table_writes : ((k : ℕ) → k < blocks_for per n → Framed w per kind base part s n k) → take (512 * blocks_for per n) (drop (512 * base) s) ≡ table_bytes per kind base (record_at w per base s) n
    table_writes g =
        blocks_are s base (blocks_for per n)
        ∙ pile_same (λ k. block_of s (base + k)) (table_block per kind base (record_at w per base s) n) (blocks_for per n) (λ k h. block_same k h (g k h))

  pub table_same : (kind base n : ℕ) (f g : ℕ → List ℕ) → ((i : ℕ) → i < n → f i ≡ g i) → table_bytes per kind base f n ≡ table_bytes per kind base g n
  unfolding table_block
  table_same kind base n f g e =
      pile_same (table_block per kind base f n) (table_block per kind base g n) (blocks_for per n)
      (λ k h. ap (λ z. finished (start_bytes kind (base + k) ++ z)) (pile_same (λ r. f (per * k + r)) (λ r. g (per * k + r)) (in_block per n k) (λ r q. e (per * k + r) (c.below n k r q))))

  pub table_length : (kind base n : ℕ) (f : ℕ → List ℕ) → ((i : ℕ) → length (f i) ≡ w) → length (table_bytes per kind base f n) ≡ 512 * blocks_for per n
  table_length kind base n f each = length-pile (table_block per kind base f n) 512 (blocks_for per n) (λ k h. table_block_length kind base n f each k)

  pub kept : Kept w per
  kept = record {
    reads = λ kind base n f p rest l each i h. table_reads kind base n f each p rest l i h;
    passes = λ kind base n part f p rest l each k h. table_passes kind base n f each p rest l part k h;
    writes = λ kind base n part s by long g. table_writes kind base n part s by long g;
  }
