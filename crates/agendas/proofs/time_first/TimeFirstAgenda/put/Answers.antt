use Rattle.std.proofs.Common.{arith}
use Rattle.std.proofs.lemmas.Grind.{common_steps}
use Rattle.std.proofs.lemmas.Int.{to_z-of_z}
use Rattle.agendas.specs.Timeds.{timed}
use Rattle.agendas.proofs.Piles.{one_more_entries, next_joins}
use Rattle.agendas.proofs.time_first.TimeFirstAgenda.put.Goals as goal

pub returns-clause-order : goal.returns-clause-order
returns-clause-order c =
    let more = next_joins c.args.self.now.table.now c.rise.new.heap c.args.self.now.count _ (omega arith) c.rise.ensures.same in
    grind (arith, common_steps, to_z-of_z, more)

pub returns-clause-says : goal.returns-clause-says
returns-clause-says c = (grind (arith, common_steps), one_more_entries _ _ (timed c.args.time c.args.cost c.args.entry) (returns-clause-order c))
