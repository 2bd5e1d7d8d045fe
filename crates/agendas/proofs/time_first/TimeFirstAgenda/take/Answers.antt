use Rattle.std.proofs.Common.{arith}
use Rattle.std.proofs.lemmas.Grind.{common_steps}
use Rattle.agendas.proofs.Piles.{one_more_entries}
use Rattle.agendas.proofs.time_first.TimeFirstAgenda.take.Goals as goal

pub returns-clause-says : goal.returns-clause-says
returns-clause-says c = one_more_entries _ _ c.pop-soonest.result (grind (arith, common_steps))
