use Rattle.std.proofs.Common.{arith}
use Rattle.image_format.proofs.Sounds.{sound_facts}
use Rattle.image.proofs.source.ImageSource.header.Goals as goal

pub block_of-requires : goal.block_of-requires
block_of-requires c = let f = sound_facts _ c.args.self.now.sound in omega arith
