use Rattle.std.proofs.Common.{◌+◌, ◌-◌, ◌*◌, drop, ◌∙◌, arith}
use Rattle.std.proofs.lemmas.List.{take-take}
use Rattle.blocks.specs.Blocks.{block_of}
use Rattle.blocks.proofs.block.block_of.Goals as goal

pub returns : goal.returns
unfolding block_of
returns c =
    let h = rw c.unwrap.ensures at c.first_chunk.ensures.cases in
    h.same ∙ take-take 512 (512 * c.args.b + 512 - 512 * c.args.b) (drop (512 * c.args.b) c.args.image.now) (omega arith)
