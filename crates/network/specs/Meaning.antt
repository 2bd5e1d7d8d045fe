-- What a network means.
use Rattle.std.specs.Prelude.{◌≡◌, ℕ, ◌<◌, List, [], cond, drop, nat_lt, pos, Some, None, Option}
use Rattle.network.specs.Limits.{most_time}
use Rattle.network.specs.Pile.{pile}
use Rattle.network.specs.declared.fault.FileFault.{FileFault}
use Rattle.network.specs.declared.leg.Leg.{Leg}
use Rattle.network.specs.declared.leg.Window.{Window}

-- a row: a list of legs, or unreadable with the fault of the file
pub data Row : Type 0 where
  legs_row : List Leg → Row
  unreadable_row : FileFault → Row

-- n nodes numbered from 0, the depot and the sink among them; for each node its window and its row;
-- and a size that no cost exceeds
pub record Net : Type 0 where
  pub n : ℕ
  pub depot : ℕ
  pub sink : ℕ
  pub window : ℕ → Window
  pub row : ℕ → Row
  pub reach : ℕ

-- the legs that a row gives: an unreadable one gives none
abbrev pub legs_of : Row → List Leg
legs_of (legs_row ls) = ls
legs_of (unreadable_row f) = []

-- the fault for which a row cannot be read
abbrev pub fault_in : Row → Option FileFault
fault_in (legs_row ls) = None
fault_in (unreadable_row f) = Some f

-- the legs of node i, those of the nodes below i in order, and those of a whole network
abbrev pub legs_at : Net → ℕ → List Leg
legs_at N i = legs_of (N.row i)

-- those of node i from leg k on; none where there is no such node
abbrev pub legs_left : Net → ℕ → ℕ → List Leg
legs_left N i k = cond (nat_lt i N.n) (drop k (legs_at N i)) []

abbrev pub legs_below : Net → ℕ → List Leg
legs_below N i = pile (legs_at N) i

abbrev pub all_legs : Net → List Leg
all_legs N = legs_below N N.n

-- one node that is always open, without legs: what a source holds before it is opened
abbrev pub lone_node : Net
lone_node = record { n = 1; depot = 0; sink = 0; window = λ i. record { opens = 0; closes = most_time }; row = λ i. legs_row []; reach = 0 }

-- two networks that differ in their reach at most
pub record Same (M N : Net) : Type 0 where
  pub nodes_same : M.n ≡ N.n
  pub depot_same : M.depot ≡ N.depot
  pub sink_same : M.sink ≡ N.sink
  pub window_same : (i : ℕ) → i < N.n → M.window i ≡ N.window i
  pub row_same : (i : ℕ) → i < N.n → M.row i ≡ N.row i

-- what stands where no leg is
abbrev pub no_leg : Leg
no_leg = record { head = 0; duration = 0; cost = pos 0 }
