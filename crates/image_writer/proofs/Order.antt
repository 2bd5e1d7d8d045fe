-- Iterators that give the records of a table: one more, and those whose state shows what is left.
use Rattle.std.proofs.Common.{◌≡◌, ℕ, suc, ◌+◌, ◌-◌, ◌<◌, ◌≤◌, List, [], ◌∷◌, length, Some, None, Option, IfSome, is_some, true, refl, ap, subst, arith}
use Rattle.std.specs.Prelude.{map}
use Rattle.std.specs.List.{range_with_len}
use Rattle.std.specs.Option.{IsSomeAnd}
use Rattle.std.specs.Iterator.{AlwaysYields, YieldsFirst}
use Rattle.std.proofs.lemmas.Iterator.Consumers.{YieldsList-from_first}
use Rattle.image_writer.specs.Order.{records_from, GivesFrom}

pub one_more : (f : ℕ → List ℕ) (n i j : ℕ) → i < n → j ≡ i + 1 → records_from f n i ≡ f i ∷ records_from f n j
one_more f n i j h e = rw e (let d : n - i ≡ suc (n - (i + 1)) = omega arith in ap (λ k. map f (range_with_len i k)) d)

pub no_more : (f : ℕ → List ℕ) (n i : ℕ) → n ≤ i → records_from f n i ≡ []
no_more f n i h = let d : n - i ≡ 0 = omega arith in ap (λ k. map f (range_with_len i k)) d

module _ {S : Type 0} (steps : S → Option (List ℕ) → S → Type 0) (s t : S) where
  head : (r : Option (List ℕ)) (x : List ℕ) (xs : List (List ℕ)) → AlwaysYields steps (λ y. y) s (x ∷ xs) → steps s r t → IsSomeAnd r (λ y. (y ≡ x) × AlwaysYields steps (λ z. z) t xs)
  head None x xs a q = a.0 t q
  head (Some y) x xs a q = a.1 y t q

  rest : (can : S → Type 0) (f : ℕ → List ℕ) (n i j : ℕ) (r : Option (List ℕ)) → IsSomeAnd r (λ y. (y ≡ f i) × AlwaysYields steps (λ z. z) t (records_from f n j)) → IfSome r (λ _. can t) → ((i : ℕ) → length (f i) ≡ 12) → IsSomeAnd r (λ y. (y ≡ f i) × GivesFrom can steps f n j t)
  rest can f n i j None a k w = a
  rest can f n i j (Some y) a k w = (a.0, record { callable = k; wide = w; gives = a.1 })

-- a call gives record i, and then record j is to come
pub next_given : {S : Type 0} {can : S → Type 0} {steps : S → Option (List ℕ) → S → Type 0} {f : ℕ → List ℕ} {n i : ℕ} {s t : S} (j : ℕ) (r : Option (List ℕ)) → GivesFrom can steps f n i s → i < n → j ≡ i + 1 → steps s r t → IfSome r (λ _. can t) → IsSomeAnd r (λ y. (y ≡ f i) × GivesFrom can steps f n j t)
next_given {steps = steps} {f = f} {n = n} {i = i} {s = s} {t = t} j r w h e q k =
    rest steps s t _ f n i j r (head steps s t r (f i) _ (subst (AlwaysYields steps (λ z. z) s) (one_more f n i j h e) w.gives) q) k w.wide

pub some_from : {X : Type 0} (P : X → Type 0) (r : Option X) → IsSomeAnd r P → is_some r ≡ true
some_from P None a = absurd a
some_from P (Some x) a = refl

-- an iterator whose state shows what is left gives it
pub shown_given : {S : Type 0} {can : S → Type 0} {f : ℕ → List ℕ} {n j : ℕ} {s : S} (left : S → List (List ℕ)) → can s → ((i : ℕ) → length (f i) ≡ 12) → left s ≡ records_from f n j → GivesFrom can (YieldsFirst left) f n j s
shown_given left k w e = record { callable = k; wide = w; gives = (YieldsList-from_first (λ x. x) left _ e).runs }
