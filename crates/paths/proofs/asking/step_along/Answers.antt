use Rattle.paths.proofs.Legs.{told_lawful}
use Rattle.paths.proofs.asking.step_along.Goals as goal

pub window_at-window-requires : goal.window_at-window-requires
window_at-window-requires g c =
    record { node = (told_lawful (g.N.Network.meaning c.args.net.now) (g.N.Network.lawful c.args.net.now) c.args.i c.args.k c.in_ok-leg.leg c.in_ok-leg.ensures).head_in }
