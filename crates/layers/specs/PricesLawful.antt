-- A network with prices is lawful, whatever the prices.
use Rattle.std.specs.Prelude.{ℕ, ◌≤◌, List, map, ℤ, pos, negsuc, ◌-ℤ◌, neg_ℤ, ◌≤ℤ◌, unsigned_abs}
use Rattle.std.proofs.Common.{arith}
use Rattle.std.proofs.lemmas.List.{length-map}
use Rattle.std.specs.Int.{int_max, int_min}
use Rattle.std.proofs.ByRecursion.{All-weaker, All-map}
use Rattle.std.proofs.lemmas.Int.{ints, clamps}
use Rattle.network.specs.Lawful.{Lawful, LawfulLeg}
use Rattle.network.specs.Meaning.{Net}
use Rattle.network.specs.declared.leg.Leg.{Leg}
use Rattle.layers.specs.LayerLawful.{layered_lawful}
use Rattle.layers.specs.Prices.{priced_reach, cut, priced_leg, price_of, priced}

between : (reach : ℕ) (z : ℤ) → neg_ℤ (pos reach) ≤ℤ z → z ≤ℤ pos reach → unsigned_abs z ≤ reach
between reach (pos n) l h = omega (arith, ints)
between reach (negsuc n) l h = omega (arith, ints)

cut_within : (reach : ℕ) (z : ℤ) → unsigned_abs (cut reach z) ≤ reach
unfolding cut
cut_within reach z =
    between reach (int_max (neg_ℤ (pos reach)) (int_min z (pos reach))) (omega (arith, ints, clamps)) (omega (arith, ints, clamps))

leg_lawful : (n near far : ℕ) (price : ℤ) (l : Leg) → LawfulLeg n near l → LawfulLeg n far (priced_leg far price l)
leg_lawful n near far price l h = record {
  head_in = h.head_in;
  lasts = h.lasts;
  ends = h.ends;
  in_reach = cut_within far (l.cost -ℤ price);
}

pub priced_lawful : (prices : List ℤ) (m : Net) → Lawful m → Lawful (priced prices m)
priced_lawful prices m h =
    let far : ℕ = priced_reach m.reach in
    let leg : ℕ → Leg → Leg = λ i. priced_leg far (price_of prices i) in
    layered_lawful (λ i. map (leg i)) far m (omega arith) (λ i ls. let e = length-map ls (leg i) in omega arith)
    (λ i ls all.
    All-map (LawfulLeg m.n far) (leg i) ls
    (All-weaker (LawfulLeg m.n m.reach) (λ l. LawfulLeg m.n far (leg i l)) (leg_lawful m.n m.reach far (price_of prices i)) ls all))
    h
