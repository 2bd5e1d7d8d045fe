-- Lists, one after another: each is found again, and a list is its parts.
use Rattle.std.proofs.Common.{◌≡◌, ℕ, zero, suc, ◌+◌, ◌-◌, ◌*◌, ◌<◌, ◌≤◌, List, ◌++◌, length, get_or, take, drop, sym, refl, ap, ◌∙◌, ⊎_elim, not-suc-le-zero, mul-zero, mul-suc, add-one, arith, length-append, take-add}
use Rattle.std.proofs.lemmas.List.{append_assoc, take_at, drop_at, drop-drop, get_or_append_left, get_or-append_right, get_or-append-add}
use Rattle.std.proofs.lemmas.Bool.{cases_eq, cases_lt}
use Rattle.network.specs.Pile.{pile}

pub length-pile : {X : Type 0} (f : ℕ → List X) (w n : ℕ) → ((k : ℕ) → k < n → length (f k) ≡ w) → length (pile f n) ≡ w * n
length-pile f w zero h = sym (mul-zero w)
length-pile f w (suc n) h =
    let a : length (pile f n) ≡ w * n = length-pile f w n (λ k l. h k (omega arith)) in
    let b : length (f n) ≡ w = h n (omega arith) in
    length-append (pile f n) (f n) ∙ omega (arith, mul-suc w n)

pub pile_same : {X : Type 0} (f g : ℕ → List X) (n : ℕ) → ((k : ℕ) → k < n → f k ≡ g k) → pile f n ≡ pile g n
pile_same f g zero h = refl
pile_same f g (suc n) h =
    ap (λ z. z ++ f n) (pile_same f g n (λ k l. h k (omega arith))) ∙ ap (λ z. pile g n ++ z) (h n (omega arith))

-- part k of a pile that stands between p and rest
pub pile_at : {X : Type 0} (f : ℕ → List X) (w base : ℕ) (p rest : List X) (n k : ℕ) → length p ≡ base → ((k : ℕ) → k < n → length (f k) ≡ w) → k < n → take w (drop (base + w * k) (p ++ (pile f n ++ rest))) ≡ f k
pile_at f w base p rest zero k e h l = absurd (not-suc-le-zero l)
pile_at {X} f w base p rest (suc n) k e h l =
    let each : (j : ℕ) → j < n → length (f j) ≡ w = λ j q. h j (omega arith) in
    let front : List X = pile f n in
    let regroup : p ++ ((front ++ f n) ++ rest) ≡ p ++ (front ++ (f n ++ rest)) = ap (λ z. p ++ z) (append_assoc front (f n) rest) in
    ap (λ z. take w (drop (base + w * k) z)) regroup
    ∙ ⊎_elim
    (λ (q : k ≡ n).
    let long : length (p ++ front) ≡ base + w * k = length-append p front ∙ ap (λ z. length p + z) (length-pile f w n each) ∙ ap (λ z. z + w * n) e ∙ ap (λ z. base + w * z) (sym q) in
    ap (λ z. take w (drop (base + w * k) z)) (sym (append_assoc p front (f n ++ rest)))
    ∙ ap (take w) (drop_at (p ++ front) (f n ++ rest) (base + w * k) long)
    ∙ take_at (f n) rest w (h n (omega arith)) ∙ ap f (sym q))
    (λ (q : k ≡ n → ⊥). pile_at f w base p (f n ++ rest) n k e each (omega arith))
    (cases_eq k n)

-- a list is the pile of its parts
pub pile_parts : {X : Type 0} (w base : ℕ) (s : List X) (n : ℕ) → take (w * n) (drop base s) ≡ pile (λ k. take w (drop (base + w * k) s)) n
pile_parts w base s zero = ap (λ j. take j (drop base s)) (mul-zero w)
pile_parts w base s (suc n) =
    ap (λ j. take j (drop base s)) (mul-suc w n)
    ∙ take-add (w * n) w (drop base s)
    ∙ ap (λ z. take (w * n) (drop base s) ++ take w z) (drop-drop (w * n) base s)
    ∙ ap (λ z. z ++ take w (drop (base + w * n) s)) (pile_parts w base s n)

-- parts of any length
pub pile_grows : {X : Type 0} (f : ℕ → List X) (i n : ℕ) → i < n → length (pile f i) + length (f i) ≤ length (pile f n)
pile_grows f i zero l = absurd (not-suc-le-zero l)
pile_grows f i (suc n) l = let g = pile_grows f i n in grind (arith, length-append (pile f n) (f n))

pub pile_item : {X : Type 0} (f : ℕ → List X) (n i k : ℕ) (d : X) → i < n → k < length (f i) → get_or (pile f n) (length (pile f i) + k) d ≡ get_or (f i) k d
pile_item f zero i k d l h = absurd (not-suc-le-zero l)
pile_item f (suc n) i k d l h =
    ⊎_elim
    (λ (q : i ≡ n). ap (λ z. get_or (pile f n ++ f n) (length (pile f z) + k) d) q ∙ get_or-append-add (pile f n) (f n) k d ∙ ap (λ z. get_or (f z) k d) (sym q))
    (λ (q : i ≡ n → ⊥).
    let g = pile_grows f i n (omega arith) in
    get_or_append_left (pile f n) (f n) d (length (pile f i) + k) (omega arith) ∙ pile_item f n i k d (omega arith) h)
    (cases_eq i n)

-- what holds of each item of each part holds of each item of the pile
pub pile_each : {X : Type 0} (P : X → Type 0) (f : ℕ → List X) (n : ℕ) (d : X) → ((i : ℕ) → i < n → (k : ℕ) → k < length (f i) → P (get_or (f i) k d)) → (j : ℕ) → j < length (pile f n) → P (get_or (pile f n) j d)
pile_each P f zero d h j l = absurd (not-suc-le-zero l)
pile_each P f (suc n) d h j l =
    let a : length (pile f n ++ f n) ≡ length (pile f n) + length (f n) = length-append (pile f n) (f n) in
    ⊎_elim
    (λ (q : j < length (pile f n)). rw (get_or_append_left (pile f n) (f n) d j q) (pile_each P f n d (λ i v. h i (omega arith)) j q))
    (λ (q : length (pile f n) ≤ j). rw (get_or-append_right (pile f n) (f n) (length (pile f n)) j d refl q) (h n (omega arith) (j - length (pile f n)) (omega arith)))
    (cases_lt j (length (pile f n)))

-- among starts that begin at 0, the row that holds j
pub holding : (g : ℕ → ℕ) (n j : ℕ) → g 0 ≡ 0 → j < g n → (i : ℕ) × (i < n) × (g i ≤ j) × (j < g (i + 1))
holding g zero j e l = absurd (omega arith)
holding g (suc n) j e l =
    ⊎_elim
    (λ (q : j < g n). let r = holding g n j e q in (r.0, omega arith, r.2, r.3))
    (λ (q : g n ≤ j). (n, omega arith, q, rw (add-one n) l))
    (cases_lt j (g n))
