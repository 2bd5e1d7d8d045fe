-- A finished block passes, and a block that passes is a finished one.
use Rattle.std.proofs.Common.{◌≡◌, ℕ, ◌+◌, ◌-◌, ◌%◌, ◌<◌, ◌≤◌, List, [], ◌∷◌, ◌++◌, length, get_or, take, drop, replicate, None, sym, refl, ap, ◌∙◌, arith, length-append, length-drop, take-add}
use Rattle.std.proofs.lemmas.List.{append_assoc, take_at, drop-drop, length-replicate, length-take-le, take_all, take-take, take-append-drop, get_or-append-add, get_or_append_left, get_or-replicate, get_or-take, get_or-drop, ext_get_or}
use Rattle.std.proofs.lemmas.Bool.{eq-eqb, eqb-true}
use Rattle.std.proofs.lemmas.Bool.Decides.{nat_tests}
use Rattle.network.specs.First.{unless}
use Rattle.network.specs.Refusals.{fault}
use Rattle.network.specs.declared.fault.FilePart.{FilePart}
use Rattle.blocks.specs.Numbers.{Bytes, u16_at, bytes16, plain_sum, weighted_sum, plain_check, weighted_check}
use Rattle.blocks.specs.Blocks.{body, finished, start_bytes, frame_fault, unused_fault, byte_fault}
use Rattle.network.proofs.Firsts.{first_none, first_each, passes}
use Rattle.blocks.proofs.Fields.{read16, back16, cut4, two}

-- a check reads the first 508 bytes alone
pub plain_front : (s : List ℕ) → plain_check s ≡ plain_check (take 508 s)
unfolding plain_check
plain_front s = ap (λ (t : List ℕ). plain_sum t % 65521) (sym (take-take 508 508 s (omega arith)))

pub weighted_front : (s : List ℕ) → weighted_check s ≡ weighted_check (take 508 s)
unfolding weighted_check
weighted_front s = ap (λ (t : List ℕ). weighted_sum 0 t % 65521) (sym (take-take 508 508 s (omega arith)))

plain_small : (s : List ℕ) → plain_check s < 65536
unfolding plain_check
plain_small s = omega arith

weighted_small : (s : List ℕ) → weighted_check s < 65536
unfolding weighted_check
weighted_small s = omega arith

length_body : (front : List ℕ) → length front ≤ 508 → length (body front) ≡ 508
unfolding body
length_body front h = length-append front (replicate (508 - length front) 0) ∙ omega (arith, length-replicate {A = ℕ} (508 - length front) 0)

pub length-finished : (front : List ℕ) → length front ≤ 508 → length (finished front) ≡ 512
unfolding finished
length-finished front h = length-append (body front) (bytes16 (plain_check (body front)) ++ bytes16 (weighted_check (body front))) ∙ omega (arith, length_body front h)

front_of : (front : List ℕ) → length front ≤ 508 → take 508 (finished front) ≡ body front
unfolding finished
front_of front h = take_at (body front) (bytes16 (plain_check (body front)) ++ bytes16 (weighted_check (body front))) 508 (length_body front h)

plain_is : (front : List ℕ) → length front ≤ 508 → u16_at (finished front) 508 ≡ plain_check (finished front)
unfolding finished
plain_is front h =
    read16 (body front) (bytes16 (weighted_check (body front))) (plain_check (body front)) 508 (length_body front h) (plain_small (body front))
    ∙ sym (plain_front (finished front) ∙ ap plain_check (front_of front h))

weighted_is : (front : List ℕ) → length front ≤ 508 → u16_at (finished front) 510 ≡ weighted_check (finished front)
unfolding finished
weighted_is front h =
    let lo : List ℕ = bytes16 (plain_check (body front)) in
    let hi : List ℕ = bytes16 (weighted_check (body front)) in
    let e : finished front ≡ (body front ++ lo) ++ (hi ++ []) = sym (append_assoc (body front) lo hi) in
    ap (λ (s : List ℕ). u16_at s 510) e
    ∙ read16 (body front ++ lo) [] (weighted_check (body front)) 510 (length-append (body front) lo ∙ omega (arith, length_body front h)) (weighted_small (body front))
    ∙ sym (weighted_front (finished front) ∙ ap weighted_check (front_of front h))

-- what passing the frame tells, and what it takes
record FrameFacts (s : List ℕ) (kind b : ℕ) : Type 0 where
  pub plain_is : u16_at s 508 ≡ plain_check s
  pub weighted_is : u16_at s 510 ≡ weighted_check s
  pub kind_is : get_or s 0 0 ≡ kind
  pub zero_is : get_or s 1 0 ≡ 0
  pub number_is : u16_at s 2 ≡ b

frame_ok : (s : List ℕ) (kind b : ℕ) → FrameFacts s kind b → frame_fault s kind b ≡ None
frame_ok s kind b f = grind (arith, nat_tests, f.plain_is, f.weighted_is, f.kind_is, f.zero_is, f.number_is)

framed : (s : List ℕ) (kind b : ℕ) → frame_fault s kind b ≡ None → FrameFacts s kind b
framed s kind b e = record {
  plain_is = grind (arith, nat_tests);
  weighted_is = grind (arith, nat_tests);
  kind_is = grind (arith, nat_tests);
  zero_is = grind (arith, nat_tests);
  number_is = grind (arith, nat_tests);
}

pub frame_passes : (kind number : ℕ) (content : List ℕ) → length content ≤ 504 → frame_fault (finished (start_bytes kind number ++ content)) kind number ≡ None
unfolding finished body
frame_passes kind number content h =
    let front : List ℕ = start_bytes kind number ++ content in
    let l : length front ≤ 508 = omega arith in
    let n : u16_at (finished front) 2 ≡ number = omega arith in
    frame_ok (finished front) kind number (record { plain_is = plain_is front l; weighted_is = weighted_is front l; kind_is = refl; zero_is = refl; number_is = n })

-- a finished block is its front, zeros and the rest
pub opened : (front : List ℕ) → finished front ≡ front ++ (replicate (508 - length front) 0 ++ (bytes16 (plain_check (body front)) ++ bytes16 (weighted_check (body front))))
unfolding finished body
opened front = append_assoc front (replicate (508 - length front) 0) _

pub unused_passes : (front : List ℕ) (from : ℕ) (part : FilePart) (b : ℕ) → length front ≡ from → unused_fault (finished front) from part b ≡ None
unfolding unused_fault
unused_passes front from part b l = first_none (byte_fault (finished front) from part b) (508 - from) each
  where
    rest : List ℕ
    rest = bytes16 (plain_check (body front)) ++ bytes16 (weighted_check (body front))

    zero_at : (k : ℕ) → k < 508 - from → get_or (finished front) (from + k) 0 ≡ 0
    zero_at k h =
        let z : k < length (replicate {A = ℕ} (508 - length front) 0) = simp length-replicate (omega arith) in
        ap (λ t. get_or t (from + k) 0) (opened front)
        ∙ ap (λ j. get_or (front ++ (replicate (508 - length front) 0 ++ rest)) (j + k) 0) (sym l)
        ∙ get_or-append-add front (replicate (508 - length front) 0 ++ rest) k 0
        ∙ get_or_append_left (replicate (508 - length front) 0) rest 0 k z
        ∙ get_or-replicate (508 - length front) k 0 0 (omega arith)

    each : (k : ℕ) → k < 508 - from → byte_fault (finished front) from part b k ≡ None
    each k h = ap (λ t. unless t (fault part b (from + k))) (eq-eqb _ _ (zero_at k h))

-- and back
zeros : (s : List ℕ) (from n : ℕ) → from + n ≤ length s → ((k : ℕ) → k < n → get_or s (from + k) 0 ≡ 0) → take n (drop from s) ≡ replicate n 0
zeros s from n h each =
    let l : length (take n (drop from s)) ≡ n = length-take-le n (drop from s) (omega (arith, length-drop from s)) in
    ext_get_or 0 (take n (drop from s)) (replicate n 0) (l ∙ sym (length-replicate n 0))
    (λ i q.
    let lt : i < n = omega arith in
    get_or-take n (drop from s) i 0 lt ∙ get_or-drop from s i 0 ∙ each i lt ∙ sym (get_or-replicate n i 0 0 lt))

unused_zero : (s : List ℕ) (from : ℕ) (part : FilePart) (b : ℕ) → unused_fault s from part b ≡ None → (k : ℕ) → k < 508 - from → get_or s (from + k) 0 ≡ 0
unfolding unused_fault
unused_zero s from part b e k h = eqb-true _ _ (passes _ _ (first_each (byte_fault s from part b) (508 - from) e k h))

start_is : (s : List ℕ) (kind b : ℕ) → length s ≡ 512 → Bytes s → FrameFacts s kind b → take 4 s ≡ start_bytes kind b
start_is s kind b l by f =
    let e = two (get_or s 2 0) (get_or s 3 0) b (by 2 (omega arith)) (by 3 (omega arith)) (sym f.number_is) in
    cut4 s 0 (omega arith) ∙ ap (λ z. z ∷ get_or s 1 0 ∷ get_or s 2 0 ∷ get_or s 3 0 ∷ []) f.kind_is
    ∙ ap (λ z. kind ∷ z ∷ get_or s 2 0 ∷ get_or s 3 0 ∷ []) f.zero_is ∙ ap (λ z. kind ∷ 0 ∷ z) e

front_is : (s : List ℕ) (kind b c : ℕ) (part : FilePart) → length s ≡ 512 → Bytes s → FrameFacts s kind b → c ≤ 504 → unused_fault s (4 + c) part b ≡ None → take 508 s ≡ body (start_bytes kind b ++ take c (drop 4 s))
unfolding body
front_is s kind b c part l by f h u =
    let start : List ℕ = start_bytes kind b in
    let content : List ℕ = take c (drop 4 s) in
    let lc : length content ≡ c = length-take-le c (drop 4 s) (omega (arith, length-drop 4 s)) in
    let n : 508 ≡ 4 + (c + (504 - c)) = omega arith in
    let m : 504 - c ≡ 508 - length (start ++ content) = omega arith in
    let z : take (504 - c) (drop (4 + c) s) ≡ replicate (504 - c) 0 = zeros s (4 + c) (504 - c) (omega arith) (λ k q. unused_zero s (4 + c) part b u k (omega arith)) in
    ap (λ j. take j s) n ∙ take-add 4 (c + (504 - c)) s
    ∙ ap (λ t. t ++ take (c + (504 - c)) (drop 4 s)) (start_is s kind b l by f)
    ∙ ap (λ t. start ++ t) (take-add c (504 - c) (drop 4 s) ∙ ap (λ t. content ++ take (504 - c) t) (drop-drop c 4 s) ∙ ap (λ t. content ++ t) z)
    ∙ sym (append_assoc start content (replicate (504 - c) 0))
    ∙ ap (λ j. (start ++ content) ++ replicate j 0) m

pub block_is : (s : List ℕ) (kind b c : ℕ) (part : FilePart) → length s ≡ 512 → Bytes s → frame_fault s kind b ≡ None → c ≤ 504 → unused_fault s (4 + c) part b ≡ None → s ≡ finished (start_bytes kind b ++ take c (drop 4 s))
unfolding finished
block_is s kind b c part l by ff h u =
    let f : FrameFacts s kind b = framed s kind b ff in
    let front : List ℕ = start_bytes kind b ++ take c (drop 4 s) in
    let e : take 508 s ≡ body front = front_is s kind b c part l by f h u in
    let lo : take 2 (drop 508 s) ≡ bytes16 (plain_check (body front)) = back16 s 508 by (omega arith) ∙ ap bytes16 (f.plain_is ∙ plain_front s ∙ ap plain_check e) in
    let hi : take 2 (drop 510 s) ≡ bytes16 (weighted_check (body front)) = back16 s 510 by (omega arith) ∙ ap bytes16 (f.weighted_is ∙ weighted_front s ∙ ap weighted_check e) in
    let all : drop 508 s ≡ take 2 (drop 508 s) ++ take 2 (drop 510 s) =
    sym (take_all 4 (drop 508 s) (omega (arith, length-drop 508 s))) ∙ take-add 2 2 (drop 508 s) ∙ ap (λ t. take 2 (drop 508 s) ++ take 2 t) (drop-drop 2 508 s) in
    sym (take-append-drop 508 s) ∙ ap (λ t. t ++ drop 508 s) e ∙ ap (λ t. body front ++ t) (all ∙ ap (λ t. t ++ take 2 (drop 510 s)) lo ∙ ap (λ t. bytes16 (plain_check (body front)) ++ t) hi)
