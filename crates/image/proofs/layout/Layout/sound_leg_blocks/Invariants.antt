use Rattle.image.specs.Marks.{Marked}
use Rattle.image.proofs.layout.Layout.sound_leg_blocks.Given as goal

abbrev pub invariant-loop-k : goal.invariant-loop-k
invariant-loop-k l = Marked l.mark-items l.self.image.now
