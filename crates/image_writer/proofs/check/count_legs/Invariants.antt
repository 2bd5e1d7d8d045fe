use Rattle.std.proofs.Common.{◌≡◌, None}
use Rattle.network.specs.First.{first_of}
use Rattle.image_format.specs.Encode.{first_of_node}
use Rattle.image_writer.specs.Write.{unread_at}
use Rattle.image_writer.proofs.check.count_legs.Given as goal

abbrev pub invariant-loop-i : goal.invariant-loop-i
invariant-loop-i g l =
    let N = g.N.Network.meaning l.net in
    (first_of (unread_at N) l.i ≡ None) × (l.total ≡ first_of_node N l.i)
