use Rattle.std.proofs.Common.{◌+◌, ◌-◌, ap, ◌∙◌, arith}
use Rattle.blocks.specs.Over.{over}
use Rattle.blocks.proofs.Overs.{part_over}
use Rattle.blocks.proofs.bytes.put.Goals as goal

pub returns : goal.returns
returns g c =
    part_over c.args.out.now c.args.at (c.args.at + g.row.N - c.args.at) c.copy_from_slice.new.self (omega (arith, c.copy_from_slice.ensures.len))
    ∙ ap (over c.args.out.now c.args.at) c.copy_from_slice.ensures.after
