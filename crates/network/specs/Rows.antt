-- Rows that stand one after another in one list of m legs: each runs from its node's first leg up to the next node's,
-- the last up to m.
use Rattle.std.specs.Prelude.{ℕ, ◌-◌, ◌≤◌, cond, List, map, ◌==◌, nat_lt}
use Rattle.std.specs.List.{range_with_len}
use Rattle.network.specs.declared.leg.Leg.{Leg}

-- where the row of node i starts, of n nodes
abbrev pub start_of : (ℕ → ℕ) → ℕ → ℕ → ℕ → ℕ
start_of first n m i = cond (nat_lt i n) (first i) m

-- first legs begin at 0, never fall and are at most m: the least and the most that node i may have
abbrev pub least_first : (ℕ → ℕ) → ℕ → ℕ
least_first first i = cond (i == 0) 0 (first (i - 1))

abbrev pub most_first : ℕ → ℕ → ℕ
most_first m i = cond (i == 0) 0 m

pub record InOrder (first : ℕ → ℕ) (m i : ℕ) : Type 0 where
  pub least : least_first first i ≤ first i
  pub most : first i ≤ most_first m i

-- the legs numbered `from` to before `to`
abbrev pub legs_from : (ℕ → Leg) → ℕ → ℕ → List Leg
legs_from leg from to = map leg (range_with_len from (to - from))
