-- What every layer does: it changes legs and reach, and nothing else.
use Rattle.std.specs.Prelude.{ℕ, List}
use Rattle.network.specs.Meaning.{Net, Row, legs_row, unreadable_row}
use Rattle.network.specs.declared.leg.Leg.{Leg}

-- a row with other legs: one that cannot be read stays so, with its fault
abbrev pub on_legs : (List Leg → List Leg) → Row → Row
on_legs f (legs_row ls) = legs_row (f ls)
on_legs f (unreadable_row e) = unreadable_row e

-- a network with other legs at each node and another reach, and all else as below
abbrev pub layered : (ℕ → List Leg → List Leg) → ℕ → Net → Net
layered f reach m = record {
  n = m.n;
  depot = m.depot;
  sink = m.sink;
  window = m.window;
  row = λ i. on_legs (f i) (m.row i);
  reach = reach;
}
