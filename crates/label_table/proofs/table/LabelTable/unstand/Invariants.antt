use Rattle.std.proofs.Common.{◌≡◌, ◌++◌, map, take, drop}
use Rattle.label_table.specs.Rows.{lowered}
use Rattle.label_table.proofs.table.LabelTable.unstand.Given as goal

abbrev pub invariant-loop-i : goal.invariant-loop-i
invariant-loop-i g l = l.rows ≡ map (lowered g.L.Label.kind l.node l.label) (take l.i l.initial.rows) ++ drop l.i l.initial.rows
