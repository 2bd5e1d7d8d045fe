-- What a ring holds after a put and a take.
use Rattle.std.proofs.Common.{◌≡◌, ℕ, zero, suc, ◌+◌, ◌-◌, ◌<◌, ◌≤◌, List, [], ◌∷◌, ◌++◌, length, get_or, take, set, arith}
use Rattle.std.proofs.lemmas.Grind.{common_steps}
use Rattle.std.proofs.lemmas.List.{take_more_set, drop-set-add, drop-set-lt}
use Rattle.agendas.specs.Queues.{ring, place}

take_past : (n : ℕ) (xs ys : List ℕ) → length xs ≤ n → take n (xs ++ ys) ≡ xs ++ take (n - length xs) ys
take_past n [] ys h = grind arith
take_past zero (x ∷ xs) ys h = grind arith
take_past (suc n) (x ∷ xs) ys h = grind (arith, take_past n xs ys)

pub ring_put : (t : List ℕ) (first k x : ℕ) → first ≤ length t → k < length t → ring (set t (place (length t) first k) x) first (k + 1) ≡ ring t first k ++ (x ∷ [])
ring_put t first k x within room = grind (arith, common_steps, drop-set-add, drop-set-lt, take_more_set, take_past)

pub ring_take : (t : List ℕ) (first n : ℕ) → first ≤ length t → n < length t → ring t first (n + 1) ≡ get_or t (place (length t) first 0) 0 ∷ ring t (place (length t) first 0 + 1) n
ring_take t first n within some = grind (arith, common_steps)

pub ruleset rings = (common_steps, ring_put, ring_take)
