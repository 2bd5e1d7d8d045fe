use Rattle.std.proofs.Common.{refl, arith, length-set}
use Rattle.blocks.specs.Numbers.{bytes16}
use Rattle.blocks.proofs.Overs.{first2, next}
use Rattle.blocks.proofs.block.start.Goals as goal

pub returns : goal.returns
returns c =
    next _ _ _ 2 (bytes16 c.args.number) 4 c.put16.ensures (first2 c.args.block.now c.args.kind (omega arith)) refl
    (simp length-set (omega arith))
