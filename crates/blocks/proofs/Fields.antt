-- Numbers as bytes and back.
use Rattle.std.proofs.Common.{◌≡◌, ℕ, suc, ◌+◌, ◌*◌, ◌/◌, ◌%◌, ◌<◌, ◌≤◌, List, [], ◌∷◌, ◌++◌, length, get_or, take, drop, ℤ, pos, negsuc, nat_abs, sym, refl, ap, ◌∙◌, arith, w32, SFits, to_z, of_z}
use Rattle.std.proofs.lemmas.List.{drop_more, get_or_at, get_or-append-add}
use Rattle.std.proofs.lemmas.Int.{to_z-of_z}
use Rattle.blocks.specs.Numbers.{Bytes, u16_at, u32_at, bytes16, bytes32}

past : (p ys : List ℕ) (at k : ℕ) → length p ≡ at → get_or (p ++ ys) (at + k) 0 ≡ get_or ys k 0
past p ys at k e = ap (λ (n : ℕ). get_or (p ++ ys) (n + k) 0) (sym e) ∙ get_or-append-add p ys k 0

pub read16 : (p q : List ℕ) (x at : ℕ) → length p ≡ at → x < 65536 → u16_at (p ++ (bytes16 x ++ q)) at ≡ x
read16 p q x at e h =
    let g0 = get_or_at p (x % 256) (x / 256 ∷ q) 0 at e in
    let g1 = past p (bytes16 x ++ q) at 1 e in
    omega arith

pub value32 : (x : ℕ) → x % 256 + 256 * (x / 256 % 256) + 65536 * (x / 65536 % 256) + 16777216 * (x / 16777216) ≡ x
value32 x = omega arith

pub small_cost : (z : ℤ) → nat_abs z ≤ 10000000 → SFits w32 z
small_cost (pos n) h = record { sfits = omega arith }
small_cost (negsuc n) h = record { sfits = omega arith }

pub value_signed : (z : ℤ) → nat_abs z ≤ 10000000 → to_z w32 (of_z w32 z) ≡ z
value_signed z h = to_z-of_z w32 z (small_cost z h)

cut : (s : List ℕ) (i n : ℕ) → i < length s → take (suc n) (drop i s) ≡ get_or s i 0 ∷ take n (drop (i + 1) s)
cut s i n h = ap (take (suc n)) (drop_more s i 0 h)

pub cut2 : (s : List ℕ) (i : ℕ) → i + 2 ≤ length s → take 2 (drop i s) ≡ get_or s i 0 ∷ get_or s (i + 1) 0 ∷ []
cut2 s i h = cut s i 1 (omega arith) ∙ ap (λ z. get_or s i 0 ∷ z) (cut s (i + 1) 0 (omega arith))

pub cut4 : (s : List ℕ) (i : ℕ) → i + 4 ≤ length s → take 4 (drop i s) ≡ get_or s i 0 ∷ get_or s (i + 1) 0 ∷ get_or s (i + 2) 0 ∷ get_or s (i + 3) 0 ∷ []
cut4 s i h =
    let e2 : i + 1 + 1 ≡ i + 2 = omega arith in
    let e3 : i + 2 + 1 ≡ i + 3 = omega arith in
    cut s i 3 (omega arith) ∙ ap (λ z. get_or s i 0 ∷ z) (cut s (i + 1) 2 (omega arith))
    ∙ ap (λ k. get_or s i 0 ∷ get_or s (i + 1) 0 ∷ take 2 (drop k s)) e2
    ∙ ap (λ z. get_or s i 0 ∷ get_or s (i + 1) 0 ∷ z) (cut2 s (i + 2) (omega arith))
    ∙ ap (λ k. get_or s i 0 ∷ get_or s (i + 1) 0 ∷ get_or s (i + 2) 0 ∷ get_or s k 0 ∷ []) e3

pub two : (a b x : ℕ) → a < 256 → b < 256 → x ≡ a + 256 * b → a ∷ b ∷ [] ≡ bytes16 x
two a b x p q e =
    let ea : a ≡ x % 256 = omega arith in
    let eb : b ≡ x / 256 = omega arith in
    cc

digit : (y a b : ℕ) → a < 256 → y ≡ a + 256 * b → a ≡ y % 256
digit y a b h e = omega arith

four : (a b c d x : ℕ) → a < 256 → b < 256 → c < 256 → d < 256 → x ≡ a + 256 * b + 65536 * c + 16777216 * d → a ∷ b ∷ c ∷ d ∷ [] ≡ bytes32 x
four a b c d x p q r s e =
    let ea : a ≡ x % 256 = omega arith in
    let y : x / 256 ≡ b + 256 * c + 65536 * d = omega arith in
    let z : x / 65536 ≡ c + 256 * d = omega arith in
    let eb : b ≡ x / 256 % 256 = digit (x / 256) b (c + 256 * d) q (omega arith) in
    let ec : c ≡ x / 65536 % 256 = digit (x / 65536) c d r z in
    let ed : d ≡ x / 16777216 = omega arith in
    cc

pub back16 : (s : List ℕ) (i : ℕ) → Bytes s → i + 2 ≤ length s → take 2 (drop i s) ≡ bytes16 (u16_at s i)
back16 s i b h = cut2 s i h ∙ two (get_or s i 0) (get_or s (i + 1) 0) _ (b i (omega arith)) (b (i + 1) (omega arith)) refl

pub back32 : (s : List ℕ) (i : ℕ) → Bytes s → i + 4 ≤ length s → take 4 (drop i s) ≡ bytes32 (u32_at s i)
back32 s i b h =
    cut4 s i h ∙ four (get_or s i 0) (get_or s (i + 1) 0) (get_or s (i + 2) 0) (get_or s (i + 3) 0) _ (b i (omega arith)) (b (i + 1) (omega arith)) (b (i + 2) (omega arith)) (b (i + 3) (omega arith)) refl
