-- The rows of the label table.
use Rattle.std.specs.Prelude.{ℕ, Bool, true, false, not, ◌&&◌, List, ◌++◌, map, take, drop, ◌==◌, slice_set}
use Rattle.labels.specs.Kinds.{Kind}
use Rattle.label_table.specs.declared.row.Row.{Row}

module _ {L : Type 0} (K : Kind L) where
  -- r stands at j and covers l
  abbrev pub stands_over : ℕ → L → Row L → Bool
  stands_over j l r = r.stands && (r.node == j && K.covers r.label l)

  -- r is at j, and l covers it
  abbrev pub beaten : ℕ → L → Row L → Bool
  beaten j l r = r.node == j && K.covers l r.label

  -- what becomes of r as l enters at j
  abbrev pub lowered : ℕ → L → Row L → Row L
  lowered j l r = record r { stands = r.stands && not (beaten j l r) }

  -- the row enters as number e: the standing entries at its node that it covers cease to stand
  abbrev pub entering : ℕ → Row L → List (Row L) → List (Row L)
  entering e row rows = slice_set (map (lowered row.node row.label) (take e rows) ++ drop e rows) e row

-- a new row at j, which entry p came to by its leg k: standing, untreated
abbrev pub fresh : {L : Type 0} → ℕ → ℕ → ℕ → L → Row L
fresh j p k l = record { node = j; parent = p; leg = k; label = l; stands = true; treated = false }

abbrev pub marked : {L : Type 0} → Row L → Row L
marked r = record r { treated = true }
