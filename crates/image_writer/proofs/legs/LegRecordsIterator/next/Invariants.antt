use Rattle.std.proofs.Common.{◌≡◌, ◌-◌, ◌≤◌, length}
use Rattle.network.specs.Meaning.{legs_at}
use Rattle.image_writer.specs.Write.{leg_records_from}
use Rattle.image_writer.proofs.legs.LegRecordsIterator.next.Given as goal

abbrev pub invariant-loop-self : goal.invariant-loop-self
invariant-loop-self g l =
    let M = g.N.Network.meaning in
    record {
      in_row : l.self.leg ≤ length (legs_at (M l.self.net.now) l.self.node);
      left : leg_records_from (M l.initial.self.net.now) l.initial.self.node l.initial.self.leg ≡ leg_records_from (M l.self.net.now) l.self.node l.self.leg;
    }

abbrev pub decreases-loop-self : goal.decreases-loop-self
decreases-loop-self g l = (g.N.Network.meaning l.self.net.now).n - l.self.node
