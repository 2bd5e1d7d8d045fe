use Rattle.std.proofs.Common.{arith}
use Rattle.std.proofs.lemmas.Grind.{common_steps}
use Rattle.std.proofs.lemmas.List.Edits.{map_over_more}
use Rattle.label_table.specs.Rows.{lowered}
use Rattle.label_table.proofs.table.LabelTable.unstand.Goals as goal

pub loop-i-preserved : goal.loop-i-preserved
loop-i-preserved g c = grind (arith, common_steps, map_over_more (lowered g.L.Label.kind c.args.node c.args.label.now))
