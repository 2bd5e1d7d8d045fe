use Rattle.image.proofs.Marking.{unmarked}
use Rattle.image.proofs.layout.Layout.sound_leg_blocks.Goals as goal

pub loop-k-init : goal.loop-k-init
loop-k-init c = λ k e. unmarked 477 k e
