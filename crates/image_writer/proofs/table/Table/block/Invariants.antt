use Rattle.std.proofs.Common.{◌≡◌, ◌+◌, ◌*◌, ◌-◌, ◌++◌, take}
use Rattle.network.specs.Pile.{pile}
use Rattle.blocks.specs.Blocks.{start_bytes}
use Rattle.image_format.specs.Layout.{kind_number}
use Rattle.image_writer.specs.Order.{GivesFrom}
use Rattle.image_writer.proofs.table.Table.block.Given as goal

abbrev pub invariant-loop-r : goal.invariant-loop-r
invariant-loop-r g l = record {
  written : take (4 + 12 * l.r) l.block ≡ start_bytes (kind_number l.self.kind) (l.self.base + l.fn.k) ++ pile (λ r. g.f (42 * l.fn.k + r)) l.r;
  next : GivesFrom g.I.Iterator.can_next g.I.Iterator.next_gives g.f l.self.records (42 * l.fn.k + l.r) l.records;
}

abbrev pub decreases-loop-r : goal.decreases-loop-r
decreases-loop-r g l = l.count - l.r
