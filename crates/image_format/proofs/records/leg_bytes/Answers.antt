use Rattle.std.proofs.Common.{w32, SFits, rules}
use Rattle.std.proofs.lemmas.Int.{to_z-of_z}
use Rattle.blocks.specs.Over.{over}
use Rattle.image_format.proofs.records.leg_bytes.Goals as goal

pub returns : goal.returns
unfolding over
returns c =
    let fits : SFits w32 c.args.leg.cost = search rules in
    rw (c.put_signed32.ensures, c.put32.ensures, c.put16.ensures, to_z-of_z w32 c.args.leg.cost fits)
