use Rattle.tables.proofs.Spans.{is_span}
use Rattle.tables.proofs.source.TableSource.span.Goals as goal

pub returns : goal.returns
returns c =
    is_span c.args.self.now c.args.i c.row_start.result c.row_start-2.result c.requires c.row_start.ensures c.row_start-2.ensures
