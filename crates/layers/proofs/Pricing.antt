-- Accepted prices: none is too large, and no cost is cut.
use Rattle.std.proofs.Common.{◌≡◌, ℕ, ◌+◌, ◌≤◌, true, List, [], ◌∷◌, map, set, replicate, ℤ, pos, negsuc, ◌-ℤ◌, nat_abs, refl, ap, ◌∙◌, arith}
use Rattle.std.specs.List.{AllByRecursion}
use Rattle.std.proofs.ByRecursion.{All-from_get_or, All-weaker}
use Rattle.std.proofs.lemmas.List.{get_or_past, get_or-set_same, get_or-set_other}
use Rattle.std.proofs.lemmas.Int.{ints}
use Rattle.std.proofs.lemmas.Bool.Decides.{nat_tests}
use Rattle.std.proofs.lemmas.Grind.{elements}
use Rattle.network.specs.Lawful.{Lawful, LawfulLeg}
use Rattle.network.specs.Meaning.{Net, Row, legs_row, unreadable_row, legs_of, legs_at, no_leg}
use Rattle.network.specs.declared.leg.Leg.{Leg}
use Rattle.layers.specs.Layer.{on_legs}
use Rattle.layers.specs.Prices.{priced_reach, cut, with_cost, priced_leg, cheaper, price_of, acceptable, Accepted}

cut_none : (reach : ℕ) (z : ℤ) → nat_abs z ≤ reach → cut reach z ≡ z
unfolding cut
cut_none reach (pos n) h = grind (arith, ints)
cut_none reach (negsuc n) h = grind (arith, ints)

difference_size : (a b : ℤ) → nat_abs (a -ℤ b) ≤ nat_abs a + nat_abs b
difference_size a b = omega (arith, ints)

-- an accepted price leaves every cost within the reach
leg_exact : (n reach : ℕ) (price : ℤ) (l : Leg) → acceptable reach price ≡ true → LawfulLeg n reach l → priced_leg (priced_reach reach) price l ≡ cheaper price l
leg_exact n reach price l a h =
    ap (λ z. with_cost z l) (cut_none (priced_reach reach) (l.cost -ℤ price) (grind (arith, nat_tests, difference_size l.cost price)))

map_same : (f g : Leg → Leg) (ls : List Leg) → AllByRecursion (λ l. f l ≡ g l) ls → map f ls ≡ map g ls
map_same f g [] h = refl
map_same f g (l ∷ ls) h = ap (λ x. x ∷ map f ls) h.0 ∙ ap (λ x. g l ∷ x) (map_same f g ls h.1)

row_exact : (f g : Leg → Leg) (row : Row) → AllByRecursion (λ l. f l ≡ g l) (legs_of row) → on_legs (map f) row ≡ on_legs (map g) row
row_exact f g (legs_row ls) h = ap legs_row (map_same f g ls h)
row_exact f g (unreadable_row e) h = refl

module _ (m : Net) (law : Lawful m) where
  each_accepted : (prices : List ℤ) → ((i : ℕ) → acceptable m.reach (price_of prices i) ≡ true) → Accepted prices m
  each_accepted prices h = record {
    each = h;
    exact = λ i w.
        row_exact (priced_leg (priced_reach m.reach) (price_of prices i)) (cheaper (price_of prices i)) (m.row i)
        (All-weaker (LawfulLeg m.n m.reach) (λ l. priced_leg (priced_reach m.reach) (price_of prices i) l ≡ cheaper (price_of prices i) l)
        (λ l. leg_exact m.n m.reach (price_of prices i) l (h i)) (legs_at m i)
        (All-from_get_or (LawfulLeg m.n m.reach) (legs_at m i) no_leg (law.rows i w)));
  }

  zero_accepted : acceptable m.reach (pos 0) ≡ true
  zero_accepted = grind (arith, nat_tests, law.near)

  -- at first, and after a price that was accepted
  pub accepted_first : (k : ℕ) → Accepted (replicate k (pos 0)) m
  accepted_first k =
      each_accepted (replicate k (pos 0)) (λ i. let z = zero_accepted in grind (arith, elements, get_or_past {X = ℤ}))

  pub accepted_more : (prices : List ℤ) (i : ℕ) (price : ℤ) → acceptable m.reach price ≡ true → Accepted prices m → Accepted (set prices i price) m
  accepted_more prices i price a h =
      each_accepted (set prices i price)
      (λ j. let e = h.each j in grind (arith, elements, get_or_past {X = ℤ}, get_or-set_same {A = ℤ}, get_or-set_other {A = ℤ}))
