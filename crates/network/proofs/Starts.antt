-- Rows by first legs: they begin at 0, follow one another and end at m.
use Rattle.std.proofs.Common.{◌≡◌, ℕ, zero, suc, ◌+◌, ◌-◌, ◌<◌, ◌≤◌, List, ◌∷◌, ◌++◌, map, length, get_or, sym, refl, ap, ◌∙◌, add-zero, zero-add, add-one, arith, length-append}
use Rattle.std.specs.List.{range_with_len}
use Rattle.std.proofs.lemmas.List.FromFn.{length-map-range_with_len, get_or-map-range_with_len}
use Rattle.std.proofs.lemmas.Bool.Decides.{nat_tests}
use Rattle.network.specs.Pile.{pile}
use Rattle.network.specs.Meaning.{no_leg}
use Rattle.network.specs.Rows.{start_of, InOrder, legs_from}
use Rattle.network.specs.declared.leg.Leg.{Leg}

pub length_from : (leg : ℕ → Leg) (from to : ℕ) → length (legs_from leg from to) ≡ to - from
length_from leg from to = length-map-range_with_len leg from (to - from)

pub item_from : (leg : ℕ → Leg) (from to k : ℕ) → k < to - from → get_or (legs_from leg from to) k no_leg ≡ leg (from + k)
item_from leg from to k h = get_or-map-range_with_len leg from (to - from) k (from + k) no_leg h refl

counting_split : {X : Type 0} (f : ℕ → X) (a m n : ℕ) → map f (range_with_len a m) ++ map f (range_with_len (a + m) n) ≡ map f (range_with_len a (m + n))
counting_split f a zero n = ap (λ z. map f (range_with_len z n)) (add-zero a) ∙ ap (λ z. map f (range_with_len a z)) (omega arith)
counting_split f a (suc m) n =
    ap (λ z. f a ∷ (map f (range_with_len (a + 1) m) ++ map f (range_with_len z n))) {y = a + 1 + m} (omega arith)
    ∙ ap (λ z. f a ∷ z) (counting_split f (a + 1) m n)
    ∙ ap (λ z. map f (range_with_len a z)) {x = suc (m + n)} (omega arith)

module _ (first : ℕ → ℕ) (n m : ℕ) where
  pub start_in_lem : (i : ℕ) → i < n → start_of first n m i ≡ first i
  start_in_lem i h = grind (arith, nat_tests)

  pub start_end : (i : ℕ) → n ≤ i → start_of first n m i ≡ m
  start_end i h = grind (arith, nat_tests)

  module _ (some : 1 ≤ n) (ordered : (i : ℕ) → i < n → InOrder first m i) where
    pub start_zero : start_of first n m 0 ≡ 0
    start_zero =
        let g = ordered 0 some in
        let e = start_in_lem 0 some in
        let z : first 0 ≤ 0 = g.most in
        omega arith

    first_most : (i : ℕ) → i < n → first i ≤ m
    first_most i h = let g = ordered i h in grind (arith, nat_tests)

    pub start_most : (i : ℕ) → start_of first n m i ≤ m
    start_most i = let a = first_most i in grind (arith, nat_tests)

    pub start_rises : (i : ℕ) → i < n → start_of first n m i ≤ start_of first n m (i + 1)
    start_rises i h =
        let t = first_most i h in
        let g = ordered (i + 1) in
        grind (arith, nat_tests)

    -- rows that are no longer than their span
    pub below_most : (rows : ℕ → List Leg) → ((i : ℕ) → i < n → length (rows i) ≤ start_of first n m (i + 1) - start_of first n m i) → (i : ℕ) → i ≤ n → length (pile rows i) ≤ start_of first n m i
    below_most rows within zero h = omega arith
    below_most rows within (suc i) h =
        let a = below_most rows within i (omega arith) in
        let b : start_of first n m i ≤ start_of first n m (i + 1) = start_rises i (omega arith) in
        let c : start_of first n m (i + 1) ≡ start_of first n m (suc i) = ap (start_of first n m) (add-one i) in
        let d = within i (omega arith) in
        let e : length (pile rows (suc i)) ≡ length (pile rows i) + length (rows i) = length-append (pile rows i) (rows i) in
        omega arith

    -- rows that are their spans are the list of legs again
    pub below_is : (leg : ℕ → Leg) (rows : ℕ → List Leg) → ((i : ℕ) → i < n → rows i ≡ legs_from leg (start_of first n m i) (start_of first n m (i + 1))) → (i : ℕ) → i ≤ n → pile rows i ≡ map leg (range_with_len 0 (start_of first n m i))
    below_is leg rows whole zero h = ap (λ z. map leg (range_with_len 0 z)) {x = 0} (sym start_zero)
    below_is leg rows whole (suc i) h =
        let start : ℕ → ℕ = start_of first n m in
        let a : start i ≤ start (i + 1) = start_rises i (omega arith) in
        let c : start i + (start (i + 1) - start i) ≡ start (suc i) = omega (arith, ap (start_of first n m) (add-one i)) in
        ap (λ z. z ++ rows i) (below_is leg rows whole i (omega arith))
        ∙ ap (λ z. map leg (range_with_len 0 (start i)) ++ z) (whole i (omega arith))
        ∙ ap (λ z. map leg (range_with_len 0 (start i)) ++ map leg (range_with_len z (start (i + 1) - start i))) (sym (zero-add (start i)))
        ∙ counting_split leg 0 (start i) (start (i + 1) - start i)
        ∙ ap (λ z. map leg (range_with_len 0 z)) c
