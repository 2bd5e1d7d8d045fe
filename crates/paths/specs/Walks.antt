-- Paths by the numbers of their legs.
use Rattle.std.specs.Prelude.{◌≡◌, ℕ, List, map, drop}
use Rattle.network.specs.Meaning.{Net}
use Rattle.labels.specs.Kinds.{Kind}
use Rattle.paths.specs.Paths.{Path}
use Rattle.paths.specs.declared.stop.Stop.{Stop}

-- the numbers of the legs that lead from stop to stop
abbrev pub legs_taken : List Stop → List ℕ
legs_taken stops = map (λ s. s.leg) (drop 1 stops)

-- a path by these legs ends at a node with a label
pub record PathBy {L : Type 0} (N : Net) (K : Kind L) (legs : List ℕ) (j : ℕ) (l : L) : Type 0 where
  pub stops : List Stop
  pub path : Path N K stops j l
  pub by : legs_taken stops ≡ legs

-- no path goes by these legs
abbrev pub NoPathBy : {L : Type 0} → Net → Kind L → List ℕ → Type 0
NoPathBy {L} N K legs = (j : ℕ) (l : L) → PathBy N K legs j l → ⊥
