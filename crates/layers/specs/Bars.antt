-- A network without the legs between barred pairs of nodes.
use Rattle.std.specs.Prelude.{ℕ, Bool, cond, not, ◌&&◌, List, [], ◌∷◌, ◌++◌, length, Ok, Err, filter, Result, ◌==◌, nat_eq, nat_lt}
use Rattle.std.specs.List.{list_any}
use Rattle.network.specs.Meaning.{Net}
use Rattle.network.specs.Refusals.{NetworkRefusal, no_node}
use Rattle.network.specs.declared.leg.Leg.{Leg}
use Rattle.layers.specs.Layer.{layered}
use Rattle.layers.specs.Refusals.{too_many_bars}

-- pairs of nodes, each the node that a leg leaves and the node that it leads to
abbrev pub Pairs : Type 0
Pairs = List (ℕ × ℕ)

-- the most pairs
abbrev pub most_pairs : ℕ
most_pairs = 256

-- whether a pair is i and j
abbrev pub is_pair : ℕ × ℕ → ℕ → ℕ → Bool
is_pair p i j = p.0 == i && p.1 == j

-- whether one of the pairs is i and j
abbrev pub is_barred : Pairs → ℕ → ℕ → Bool
is_barred ps i j = list_any (λ p. is_pair p i j) ps

-- whether one of the pairs leaves node i
abbrev pub bars_from : Pairs → ℕ → Bool
bars_from ps i = list_any (λ p. nat_eq p.0 i) ps

-- whether a leg of node i stays
abbrev pub stays : Pairs → ℕ → Leg → Bool
stays ps i l = not (is_barred ps i l.head)

-- the network in which every leg between a barred pair is left out
abbrev pub barred : Pairs → Net → Net
barred ps m = layered (λ i. filter (stays ps i)) m.reach m

-- one pair more, where it is new and there is room
abbrev pub add_pair : Pairs → ℕ → ℕ → Result (Unit {0}) NetworkRefusal × Pairs
add_pair ps i j =
    cond (is_barred ps i j) (Ok tt, ps)
    (cond (nat_lt (length ps) most_pairs) (Ok tt, ps ++ (i, j) ∷ []) (Err (too_many_bars i), ps))

-- what barring a pair tells, and the pairs after it
abbrev pub bar_pair : Net → Pairs → ℕ → ℕ → Result (Unit {0}) NetworkRefusal × Pairs
bar_pair m ps i j =
    cond (nat_lt i m.n) (cond (nat_lt j m.n) (add_pair ps i j) (Err (no_node j), ps)) (Err (no_node i), ps)
