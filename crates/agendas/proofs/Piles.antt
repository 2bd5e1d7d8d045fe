-- What waits in a table's front.
use Rattle.std.proofs.Common.{◌≡◌, ℕ, ◌+◌, ◌<◌, cond, List, [], ◌∷◌, length, get_or, take, set, sum_by, refl, arith, IsPermutation, ◌==◌}
use Rattle.std.specs.Cmp.{IsStrictWeakOrder}
use Rattle.std.proofs.lemmas.Grind.{common_steps}
use Rattle.std.proofs.lemmas.List.{take_more_set}
use Rattle.std.proofs.lemmas.List.Sorted.{sum_by-IsPermutation}
use Rattle.std.proofs.lemmas.List.Sums.{sum_by_more, sum_by_push}
use Rattle.std.proofs.lemmas.Bool.Decides.{nat_tests}
use Rattle.std.proofs.lemmas.Int.{ints}
use Rattle.agendas.specs.declared.timed.Timed.{Timed}
use Rattle.agendas.specs.Bags.{OneMore}
use Rattle.agendas.specs.Timeds.{sooner, JoinedBy}
use Rattle.agendas.specs.TimeFirsts.{entries}

pub sooner_ranks : IsStrictWeakOrder sooner
sooner_ranks = record {
  one_way = λ x y e. grind (arith, nat_tests, ints);
  chain = λ x y z p q. grind (arith, nat_tests, ints);
}

module _ {X : Type 0} where
  sum_by_ones : (xs : List X) → sum_by (λ _. 1) xs ≡ length xs
  sum_by_ones [] = refl
  sum_by_ones (x ∷ xs) = grind (arith, common_steps, sum_by_ones xs)

  -- the last, and those before it
  pub last_joins : (xs : List X) (n : ℕ) (d : X) → n + 1 ≡ length xs → JoinedBy (take n xs) xs (get_or xs n d)
  last_joins xs n d e f = grind (arith, common_steps, sum_by_more)

  -- one that is put behind the front
  pub next_joins : (t xs : List X) (n : ℕ) (x : X) → n < length t → IsPermutation (take (n + 1) (set t n x)) xs → JoinedBy (take n t) xs x
  next_joins t xs n x h p f = let e = sum_by-IsPermutation f _ _ p in grind (arith, take_more_set, sum_by_push)

-- the general form gives the counts and the length of the numbers
pub one_more_entries : (less more : List Timed) (x : Timed) → JoinedBy less more x → OneMore (entries less) (entries more) x.entry
one_more_entries less more x h = record {
  counts = λ y. let e = h (λ t. cond (y == t.entry) 1 0) in grind (arith, common_steps);
  len = let e = h (λ _. 1) in grind (arith, common_steps, sum_by_ones);
}
