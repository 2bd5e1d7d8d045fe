-- One more byte in the two sums of a check.
use Rattle.std.proofs.Common.{◌≡◌, ℕ, suc, ◌+◌, ◌*◌, ◌<◌, List, [], ◌∷◌, ◌++◌, length, get_or, take, sym, ap, ◌∙◌, add-zero, arith}
use Rattle.std.proofs.lemmas.List.{take_more}
use Rattle.blocks.specs.Numbers.{plain_sum, weighted_sum}

plain_sum-push : (xs : List ℕ) (x : ℕ) → plain_sum (xs ++ x ∷ []) ≡ plain_sum xs + x
plain_sum-push [] x = omega arith
plain_sum-push (y ∷ xs) x = omega (arith, plain_sum-push xs x)

weighted_sum-push : (i : ℕ) (xs : List ℕ) (x : ℕ) → weighted_sum i (xs ++ x ∷ []) ≡ weighted_sum i xs + suc (i + length xs) * x
weighted_sum-push i [] x = ap (λ (n : ℕ). suc n * x + 0) (sym (add-zero i)) ∙ omega arith
weighted_sum-push i (y ∷ xs) x =
    let h : weighted_sum (suc i) (xs ++ x ∷ []) ≡ weighted_sum (suc i) xs + suc (suc i + length xs) * x = weighted_sum-push (suc i) xs x in
    let e : suc (suc i + length xs) * x ≡ suc (i + suc (length xs)) * x = ap (λ (n : ℕ). suc n * x) (omega arith) in
    omega (arith, h, e)

pub plain_sum_more : (xs : List ℕ) (i : ℕ) → i < length xs → plain_sum (take (i + 1) xs) ≡ plain_sum (take i xs) + get_or xs i 0
plain_sum_more xs i h = ap plain_sum (take_more xs i 0 h) ∙ plain_sum-push (take i xs) (get_or xs i 0)

length_take_lt : (xs : List ℕ) (i : ℕ) → i < length xs → length (take i xs) ≡ i
length_take_lt xs i h = search (arith, lib.ListN.length-take)

pub weighted_sum_more : (xs : List ℕ) (i : ℕ) → i < length xs → weighted_sum 0 (take (i + 1) xs) ≡ weighted_sum 0 (take i xs) + (i + 1) * get_or xs i 0
weighted_sum_more xs i h =
    ap (weighted_sum 0) (take_more xs i 0 h) ∙ weighted_sum-push 0 (take i xs) (get_or xs i 0)
    ∙ ap (λ (n : ℕ). weighted_sum 0 (take i xs) + n * get_or xs i 0) (let e = length_take_lt xs i h in omega arith)
