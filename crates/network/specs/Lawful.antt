-- What every source and layer proves of its meaning, and everything above may use.
use Rattle.std.specs.Prelude.{ℕ, ◌<◌, ◌≤◌, length, slice_index_or, unsigned_abs}
use Rattle.network.specs.Limits.{most_nodes, most_legs, most_time, most_reach}
use Rattle.network.specs.Meaning.{Net, legs_at, all_legs, no_leg}
use Rattle.network.specs.declared.leg.Leg.{Leg}
use Rattle.network.specs.declared.leg.Window.{Window}

pub record LawfulWindow (w : Window) : Type 0 where
  pub in_order : w.opens ≤ w.closes
  pub ends : w.closes ≤ most_time

-- a leg in a network of n nodes
pub record LawfulLeg (n reach : ℕ) (l : Leg) : Type 0 where
  pub head_in : l.head < n
  pub lasts : 1 ≤ l.duration
  pub ends : l.duration ≤ most_time
  pub in_reach : unsigned_abs l.cost ≤ reach

pub record Lawful (N : Net) : Type 0 where
  pub some : 1 ≤ N.n
  pub many : N.n ≤ most_nodes
  pub depot_in : N.depot < N.n
  pub sink_in : N.sink < N.n
  pub near : N.reach ≤ most_reach
  pub few : length (all_legs N) ≤ most_legs
  pub windows : (i : ℕ) → i < N.n → LawfulWindow (N.window i)
  pub rows : (i : ℕ) → i < N.n → (k : ℕ) → k < length (legs_at N i) → LawfulLeg N.n N.reach (slice_index_or (legs_at N i) k no_leg)
