use Rattle.std.proofs.Common.{◌≡◌, ℕ, ◌+◌, ◌*◌, min, ◌∙◌, subst, arith}
use Rattle.blocks.specs.Tables.{in_block}
use Rattle.blocks.proofs.Overs.{over_none}
use Rattle.image_format.specs.Layout.{kind_number}
use Rattle.image_writer.specs.Order.{GivesFrom}
use Rattle.image_writer.proofs.Steps.{block_more}
use Rattle.image_writer.proofs.table.Table.put.Goals as goal

pub loop-k-init : goal.loop-k-init
loop-k-init g c =
    let e : 0 ≡ min 0 c.args.self.now.records = omega arith in
    record {
      written = over_none c.args.out.now _;
      next = subst (λ (j : ℕ). GivesFrom g.I.Iterator.can_next g.I.Iterator.next_gives g.f c.args.self.now.records j c.args.records) e c.requires.1.0;
    }

pub loop-k-preserved : goal.loop-k-preserved
loop-k-preserved g c =
    let n : ℕ = c.args.self.now.records in
    let k : ℕ = c.loop-k.k in
    let e : 42 * k + in_block 42 n k ≡ min (42 * (k + 1)) n = omega arith in
    record {
      written = block_more (kind_number c.args.self.now.kind) c.args.self.now.base n g.f c.args.out.now c.loop-k.out _ k _ c.requires.1.0.wide (omega arith) (omega arith) (c.copy_from_slice.ensures.after ∙ c.block.ensures.bytes) c.loop-k.invariant.written;
      next = subst (λ (j : ℕ). GivesFrom g.I.Iterator.can_next g.I.Iterator.next_gives g.f n j c.block.new.records) e c.block.ensures.next;
    }
