use Rattle.std.proofs.Common.{sym, ◌∙◌, arith, rules}
use Rattle.std.proofs.lemmas.Grind.{common_steps}
use Rattle.label_table.proofs.Weighing.{put_joined}
use Rattle.label_table.proofs.table.LabelTable.enter.Goals as goal

pub returns-clause-more : goal.returns-clause-more
returns-clause-more g c = record {
  same_reference = search rules;
  len = grind (arith, common_steps);
  least = omega arith;
  puts = put_joined _ _ _ (sym c.met_at.ensures ∙ c.in_ok-met_at.was) c.put-put.ensures.says (omega arith);
}
