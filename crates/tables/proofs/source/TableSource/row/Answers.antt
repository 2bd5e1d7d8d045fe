use Rattle.std.proofs.Common.{arith, length-take}
use Rattle.std.proofs.lemmas.Bool.Decides.{nat_tests}
use Rattle.tables.proofs.Spans.{row_part}
use Rattle.tables.proofs.source.TableSource.row.Goals as goal

pub returns : goal.returns
returns c =
    record {
      node_in = grind (arith, nat_tests);
      legs_are = row_part c.args.self.now c.args.i _ _ c.span.ensures;
      few = simp length-take (omega arith);
    }
