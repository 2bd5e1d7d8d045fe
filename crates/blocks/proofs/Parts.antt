-- Blocks and records as parts of their lists.
use Rattle.std.proofs.Common.{◌≡◌, ℕ, ◌+◌, ◌*◌, ◌<◌, ◌≤◌, List, ◌++◌, length, get_or, take, drop, sym, ap, ◌∙◌, arith, length-drop}
use Rattle.std.proofs.lemmas.List.{length-take-le, get_or-take, get_or-drop, take_all, take-append-drop, drop-drop}
use Rattle.network.specs.Pile.{pile}
use Rattle.blocks.specs.Numbers.{Bytes}
use Rattle.blocks.specs.Blocks.{block_of}
use Rattle.network.proofs.Piles.{pile_parts, pile_same}

pub bytes_part : (s : List ℕ) (w at : ℕ) → Bytes s → at + w ≤ length s → Bytes (take w (drop at s))
bytes_part s w at b h i l =
    let n : length (take w (drop at s)) ≡ w = length-take-le w (drop at s) (omega (arith, length-drop at s)) in
    let q : i < w = omega arith in
    let e : get_or (take w (drop at s)) i 0 ≡ get_or s (at + i) 0 = get_or-take w (drop at s) i 0 q ∙ get_or-drop at s i 0 in
    let r = b (at + i) (omega arith) in
    omega arith

pub block_length : (s : List ℕ) (b : ℕ) → 512 * b + 512 ≤ length s → length (block_of s b) ≡ 512
unfolding block_of
block_length s b h = length-take-le 512 (drop (512 * b) s) (omega (arith, length-drop (512 * b) s))

pub block_bytes : (s : List ℕ) (b : ℕ) → Bytes s → 512 * b + 512 ≤ length s → Bytes (block_of s b)
unfolding block_of
block_bytes s b by h = bytes_part s 512 (512 * b) by h

pub blocks_are : (s : List ℕ) (a n : ℕ) → take (512 * n) (drop (512 * a) s) ≡ pile (λ k. block_of s (a + k)) n
unfolding block_of
blocks_are s a n =
    pile_parts 512 (512 * a) s n
    ∙ pile_same (λ k. take 512 (drop (512 * a + 512 * k) s)) (λ k. take 512 (drop (512 * (a + k)) s)) n (λ k l. ap (λ z. take 512 (drop z s)) (omega arith))

-- an image of a header block, a blocks and b blocks
pub image_split : (s : List ℕ) (a b : ℕ) → length s ≡ 512 * (1 + a + b) → s ≡ block_of s 0 ++ (take (512 * a) (drop (512 * 1) s) ++ take (512 * b) (drop (512 * (1 + a)) s))
unfolding block_of
image_split s a b l =
    let n : 512 + 512 * a ≡ 512 * (1 + a) = omega arith in
    let last : drop (512 * a) (drop 512 s) ≡ take (512 * b) (drop (512 * (1 + a)) s) =
    drop-drop (512 * a) 512 s ∙ ap (λ z. drop z s) n ∙ sym (take_all (512 * b) (drop (512 * (1 + a)) s) (omega (arith, length-drop (512 * (1 + a)) s))) in
    sym (take-append-drop 512 s)
    ∙ ap (λ t. take 512 s ++ t) (sym (take-append-drop (512 * a) (drop 512 s)) ∙ ap (λ t. take (512 * a) (drop 512 s) ++ t) last)
