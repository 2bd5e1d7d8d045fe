use Rattle.std.proofs.Common.{arith}
use Rattle.image_format.proofs.Sounds.{sound_facts}
use Rattle.image.proofs.source.ImageSource.readable.Goals as goal

pub blocks_over-requires : goal.blocks_over-requires
blocks_over-requires c = let f = sound_facts _ c.args.self.now.sound in omega arith
