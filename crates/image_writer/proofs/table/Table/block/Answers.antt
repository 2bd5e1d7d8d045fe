use Rattle.std.proofs.Common.{◌≡◌, ℕ, ◌+◌, ◌*◌, refl, ◌∙◌, arith, rules}
use Rattle.blocks.specs.Blocks.{start_bytes}
use Rattle.image_format.specs.Layout.{kind_number}
use Rattle.image_writer.proofs.Order.{next_given}
use Rattle.image_writer.proofs.Steps.{record_more, record_block}
use Rattle.image_writer.proofs.table.Table.block.Goals as goal

pub loop-r-preserved : goal.loop-r-preserved
loop-r-preserved g c =
    let k : ℕ = c.args.k in
    let r : ℕ = c.loop-r.r in
    let w = rw c.unwrap.ensures at (next_given (42 * k + (r + 1)) _ c.loop-r.invariant.next (omega arith) (omega arith) c.next.ensures.steps c.next.ensures.goes.keeps) in
    record {
      written = rw c.record_start-at.ensures (record_more (start_bytes (kind_number c.args.self.now.kind) (c.args.self.now.base + k)) c.loop-r.block _ (λ r. g.f (42 * k + r)) r _ (omega arith) (omega arith) (search rules) (omega arith) (c.copy_from_slice.ensures.after ∙ w.0) c.loop-r.invariant.written);
      next = w.1;
    }

pub returns-clause-bytes : goal.returns-clause-bytes
returns-clause-bytes g c =
    let e : c.loop-r.r ≡ c.in_block-count.result = omega arith in
    record_block _ _ _ _ _ _ _ g.f c.loop-r.block _ (rw c.record_start.ensures at c.finish.ensures) refl c.in_block-count.ensures e c.loop-r.invariant.written
