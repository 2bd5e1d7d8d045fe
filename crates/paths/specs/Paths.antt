-- Feasible paths, and which of their labels are efficient.
use Rattle.std.specs.Prelude.{◌≡◌, ℕ, List, [], ◌∷◌, ◌++◌, Some}
use Rattle.std.specs.List.{slice_get}
use Rattle.network.specs.Meaning.{Net, legs_at}
use Rattle.network.specs.declared.leg.Leg.{Leg}
use Rattle.labels.specs.Kinds.{Kind, Covers}
use Rattle.labels.specs.Steps.{step_along}
use Rattle.labels.specs.declared.step.Step.{Step}
use Rattle.paths.specs.declared.stop.Stop.{Stop}

-- the label at the start of every path: at the depot, when it opens
abbrev pub origin : {L : Type 0} → Net → Kind L → L
origin N K = K.start (N.window N.depot).opens N.depot

-- the step along a leg: the leg, and the window of its head
abbrev pub step_of : Net → Leg → Step
step_of N g = step_along g (N.window g.head)

abbrev pub stop_at : ℕ → ℕ → ℕ → Stop
stop_at j k t = record { node = j; leg = k; time = t }

-- the leg number of the stop at the depot, to which no leg led
abbrev pub no_leg_taken : ℕ
no_leg_taken = 65535

-- a path with these stops ends at a node, and the start extends along its legs in turn to a label
pub data Path {L : Type 0} (N : Net) (K : Kind L) : List Stop → ℕ → L → Type 0 where
  -- without legs: at the depot
  stay : Path N K (stop_at N.depot no_leg_taken (K.time (origin N K)) ∷ []) N.depot (origin N K)
  -- by one leg more: leg k of the node where the path was
  go : {stops : List Stop} {i : ℕ} {l l' : L} {g : Leg} (k : ℕ) → Path N K stops i l → slice_get (legs_at N i) k ≡ Some g → K.extend l (step_of N g) ≡ Some l' → Path N K (stops ++ (stop_at g.head k (K.time l') ∷ [])) g.head l'

-- l is feasible at j: some path ends there with it
pub record Feasible {L : Type 0} (N : Net) (K : Kind L) (j : ℕ) (l : L) : Type 0 where
  pub stops : List Stop
  pub path : Path N K stops j l

-- l is efficient at j: it is feasible there, and no different feasible label there covers it
pub record Efficient {L : Type 0} (N : Net) (K : Kind L) (j : ℕ) (l : L) : Type 0 where
  pub feasible : Feasible N K j l
  pub uncovered : (x : L) → Feasible N K j x → Covers K x l → x ≡ l
