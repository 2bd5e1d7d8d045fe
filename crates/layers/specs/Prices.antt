-- A network with a price at each node, which every leg that leaves the node is cheaper by.
use Rattle.std.specs.Prelude.{◌≡◌, ℕ, ◌+◌, ◌<◌, min, Bool, true, cond, ◌&&◌, List, map, ℤ, pos, ◌-ℤ◌, neg_ℤ, Ok, Err, Result, nat_le, nat_lt, slice_index_or, slice_set, unsigned_abs}
use Rattle.std.specs.Int.{int_max, int_min}
use Rattle.network.specs.Limits.{most_reach}
use Rattle.network.specs.Meaning.{Net}
use Rattle.network.specs.Refusals.{NetworkRefusal, no_node}
use Rattle.network.specs.declared.leg.Leg.{Leg}
use Rattle.layers.specs.Layer.{on_legs, layered}
use Rattle.layers.specs.Refusals.{price_too_large}

-- the largest size of a price
abbrev pub most_price : ℕ
most_price = 10000000

-- the reach of a layer of prices, from the reach below
abbrev pub priced_reach : ℕ → ℕ
priced_reach reach = min (reach + most_price) most_reach

-- a cost, cut to a reach
unfoldable pub cut : ℕ → ℤ → ℤ
cut reach z = int_max (neg_ℤ (pos reach)) (int_min z (pos reach))

-- a leg with another cost
abbrev pub with_cost : ℤ → Leg → Leg
with_cost z l = record { head = l.head; duration = l.duration; cost = z }

-- a leg that is cheaper by a price, its cost cut to a reach
abbrev pub priced_leg : ℕ → ℤ → Leg → Leg
priced_leg reach price l = with_cost (cut reach (l.cost -ℤ price)) l

-- the price of node i
abbrev pub price_of : List ℤ → ℕ → ℤ
price_of prices i = slice_index_or prices i (pos 0)

-- the network in which every leg is cheaper by the price of the node that it leaves
abbrev pub priced : List ℤ → Net → Net
priced prices m = layered (λ i. map (priced_leg (priced_reach m.reach) (price_of prices i))) (priced_reach m.reach) m

-- whether a price is small enough, alone and together with the reach below
abbrev pub acceptable : ℕ → ℤ → Bool
acceptable reach price = nat_le (unsigned_abs price) most_price && nat_le (unsigned_abs price + reach) most_reach

-- what setting a price tells, and the prices after it
abbrev pub set_price : Net → List ℤ → ℕ → ℤ → Result (Unit {0}) NetworkRefusal × List ℤ
set_price m prices i price =
    cond (nat_lt i m.n)
    (cond (acceptable m.reach price) (Ok tt, slice_set prices i price) (Err (price_too_large i), prices))
    (Err (no_node i), prices)

-- a leg that is cheaper by the whole price
abbrev pub cheaper : ℤ → Leg → Leg
cheaper price l = with_cost (l.cost -ℤ price) l

-- prices over a network that were each accepted; with them nothing is cut: every cost is exactly the difference
pub record Accepted (prices : List ℤ) (m : Net) : Type 0 where
  pub each : (i : ℕ) → acceptable m.reach (price_of prices i) ≡ true
  pub exact : (i : ℕ) → i < m.n → (priced prices m).row i ≡ on_legs (map (cheaper (price_of prices i))) (m.row i)
