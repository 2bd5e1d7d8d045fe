-- Lists that are written over.
use Rattle.std.proofs.Common.{◌≡◌, ℕ, ◌+◌, ◌-◌, ◌≤◌, List, [], ◌∷◌, ◌++◌, length, take, drop, set, replicate, sym, refl, ap, ◌∙◌, add-zero, arith, length-append, length-drop, length-take}
use borrow.Rule.Slice.PartMut.{put_mid, post_of}
use Rattle.std.proofs.lemmas.List.{take-append-drop, drop_all, append_assoc, append-nil, take_at, drop_at, drop-drop, length-take-le}
use Rattle.blocks.specs.Numbers.{bytes16, plain_check, weighted_check}
use Rattle.blocks.specs.Blocks.{body, finished}
use Rattle.blocks.proofs.Frames.{plain_front, weighted_front}
use Rattle.blocks.specs.Over.{over}

pub length_over : (d : List ℕ) (at : ℕ) (s : List ℕ) → at + length s ≤ length d → length (over d at s) ≡ length d
unfolding over
length_over d at s h = simp (length-append, length-take, length-drop) (omega arith)

pub over-over : (d : List ℕ) (at : ℕ) (s t : List ℕ) (n : ℕ) → n ≡ at + length s → n + length t ≤ length d → over (over d at s) n t ≡ over d at (s ++ t)
unfolding over
over-over d at s t n e h =
    let D : List ℕ = drop (at + length s) d in
    let P : List ℕ = take at d ++ s in
    let f : length (take at d) ≡ at = length-take-le at d (omega arith) in
    let a : length P ≡ n = length-append (take at d) s ∙ omega arith in
    let w : over d at s ≡ P ++ D = sym (append_assoc (take at d) s D) in
    let t1 : take n (over d at s) ≡ P = ap (take n) w ∙ take_at P D n a in
    let k : at + length s + length t ≡ at + length (s ++ t) = omega (arith, length-append s t) in
    let t2 : drop (n + length t) (over d at s) ≡ drop (at + length (s ++ t)) d =
    ap (drop (n + length t)) w ∙ sym (drop-drop (length t) n (P ++ D)) ∙ ap (drop (length t)) (drop_at P D n a)
    ∙ drop-drop (length t) (at + length s) d ∙ ap (λ (j : ℕ). drop j d) k in
    let X : List ℕ = drop (at + length (s ++ t)) d in
    ap (λ (z : List ℕ). z ++ (t ++ drop (n + length t) (over d at s))) t1 ∙ ap (λ (z : List ℕ). P ++ (t ++ z)) t2
    ∙ append_assoc (take at d) s (t ++ X) ∙ ap (λ (z : List ℕ). take at d ++ z) (sym (append_assoc s t X))

pub over-take : (d : List ℕ) (at : ℕ) (s : List ℕ) (n : ℕ) → n ≡ at + length s → n ≤ length d → take n (over d at s) ≡ take at d ++ s
unfolding over
over-take d at s n e h =
    let f : length (take at d) ≡ at = length-take-le at d (omega arith) in
    let a : length (take at d ++ s) ≡ n = length-append (take at d) s ∙ omega arith in
    ap (take n) (sym (append_assoc (take at d) s (drop (at + length s) d))) ∙ take_at (take at d ++ s) (drop (at + length s) d) n a

over_end : (d : List ℕ) (at : ℕ) (s : List ℕ) → at + length s ≡ length d → over d at s ≡ take at d ++ s
unfolding over
over_end d at s h =
    ap (λ (z : List ℕ). take at d ++ (s ++ z)) (drop_all (at + length s) d (omega arith)) ∙ ap (λ (z : List ℕ). take at d ++ z) (append-nil s)

-- the end of a block: d is cleared after its first `used` bytes, which are those of e
pub finished_is : (d e : List ℕ) (used : ℕ) → length d ≡ 512 → length e ≡ 512 → used ≤ 508 → take 508 d ≡ take used e ++ replicate (508 - used) 0 → over (over d 508 (bytes16 (plain_check d))) 510 (bytes16 (weighted_check d)) ≡ finished (take used e)
unfolding finished body
finished_is d e used ld le h c =
    let lo : List ℕ = bytes16 (plain_check d) in
    let hi : List ℕ = bytes16 (weighted_check d) in
    let u : length (take used e) ≡ used = length-take-le used e (omega arith) in
    let b : take 508 d ≡ body (take used e) = c ∙ ap (λ (n : ℕ). take used e ++ replicate (508 - n) 0) (sym u) in
    let x : over (over d 508 lo) 510 hi ≡ over d 508 (lo ++ hi) = over-over d 508 lo hi 510 (omega arith) (omega arith) in
    let y : over d 508 (lo ++ hi) ≡ take 508 d ++ (lo ++ hi) = over_end d 508 (lo ++ hi) (omega arith) in
    x ∙ y
    ∙ ap (λ (z : ℕ). take 508 d ++ (bytes16 z ++ hi)) (plain_front d)
    ∙ ap (λ (z : ℕ). take 508 d ++ (bytes16 (plain_check (take 508 d)) ++ bytes16 z)) (weighted_front d)
    ∙ ap (λ (z : List ℕ). z ++ (bytes16 (plain_check z) ++ bytes16 (weighted_check z))) b

pub first2 : (d : List ℕ) (k : ℕ) → 2 ≤ length d → take 2 (set (set d 0 k) 1 0) ≡ k ∷ 0 ∷ []
first2 [] k h = absurd (omega arith)
first2 (x ∷ []) k h = absurd (omega arith)
first2 (x ∷ y ∷ d) k h = refl

-- one more field after those that are written
pub next : (d out p : List ℕ) (at : ℕ) (s : List ℕ) (n : ℕ) → out ≡ over d at s → take at d ≡ p → n ≡ at + length s → n ≤ length d → take n out ≡ p ++ s
next d out p at s n o t e h = ap (take n) o ∙ over-take d at s n e h ∙ ap (λ (z : List ℕ). z ++ s) t

pub over_none : (d : List ℕ) (at : ℕ) → d ≡ over d at []
unfolding over
over_none d at = sym (ap (λ (n : ℕ). take at d ++ drop n d) (add-zero at) ∙ take-append-drop at d)

-- one more part after what is written over d
pub grow : (d out more : List ℕ) (at : ℕ) (s t : List ℕ) (n : ℕ) → out ≡ over d at s → more ≡ over out n t → n ≡ at + length s → n + length t ≤ length d → more ≡ over d at (s ++ t)
grow d out more at s t n o m e h = m ∙ ap (λ (z : List ℕ). over z n t) o ∙ over-over d at s t n e h

pub part_over : (d : List ℕ) (at k : ℕ) (s : List ℕ) → length s ≡ k → put_mid at k d s ≡ over d at s
unfolding over
part_over d at k s e =
    ap (λ (z : List ℕ). take at d ++ (s ++ z)) (drop-drop k at d ∙ ap (λ (n : ℕ). drop (at + n) d) (sym e))

-- a write at the front
pub top_over : (d s : List ℕ) (k : ℕ) → length s ≡ k → s ++ post_of 0 k d ≡ over d 0 s
unfolding over
top_over d s k e = ap (λ (n : ℕ). s ++ drop n d) {x = k} {y = 0 + length s} (omega arith)

pub over_front : (d s : List ℕ) → over d 0 s ≡ s ++ drop (length s) d
unfolding over
over_front d s = ap (λ (n : ℕ). s ++ drop n d) {x = 0 + length s} {y = length s} (omega arith)
