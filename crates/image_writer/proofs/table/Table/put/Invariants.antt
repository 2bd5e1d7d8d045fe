use Rattle.std.proofs.Common.{◌≡◌, ◌-◌, ◌*◌, min}
use Rattle.network.specs.Pile.{pile}
use Rattle.blocks.specs.Over.{over}
use Rattle.blocks.specs.Tables.{table_block}
use Rattle.image_format.specs.Layout.{kind_number}
use Rattle.image_writer.specs.Order.{GivesFrom}
use Rattle.image_writer.proofs.table.Table.put.Given as goal

abbrev pub ghost-block : goal.ghost-block
ghost-block g a = g.f

abbrev pub invariant-loop-k : goal.invariant-loop-k
invariant-loop-k g l = record {
  written : l.out ≡ over l.initial.out (512 * l.self.base) (pile (table_block 42 (kind_number l.self.kind) l.self.base g.f l.self.records) l.k);
  next : GivesFrom g.I.Iterator.can_next g.I.Iterator.next_gives g.f l.self.records (min (42 * l.k) l.self.records) l.records;
}

abbrev pub decreases-loop-k : goal.decreases-loop-k
decreases-loop-k g l = l.k-end - l.k
