use Rattle.std.proofs.Common.{arith}
use Rattle.image_format.proofs.Sounds.{sound_facts}
use Rattle.image.proofs.source.ImageSource.leg_block.Goals as goal

pub bounds-self-k : goal.bounds-self-k
bounds-self-k c = let f = sound_facts _ c.args.self.now.sound in omega arith
