use Rattle.std.proofs.Common.{◌≡◌, ◌+◌, ◌<◌, rules, arith}
use Rattle.image_format.specs.Encode.{first_of_node}
use Rattle.image_format.proofs.Back.{first_next}
use Rattle.image_writer.proofs.Steps.{total_fits, row_count}
use Rattle.image_writer.proofs.nodes.NodeRecordsIterator.next.Goals as goal

pub overflow_add-self : goal.overflow_add-self
overflow_add-self g c =
    let s = c.args.self.now in
    let N = g.N.Network.meaning s.net.now in
    let h : s.node < N.n = search rules in
    let e : s.first ≡ first_of_node N s.node = s.first_leg in
    let l = row_count N s.node c.row_len.result h c.row_len.ensures in
    let t = total_fits N s.node (g.N.Network.lawful s.net.now) h in
    record { fits = omega (arith, l) }

pub invariant_of-self : goal.invariant_of-self
invariant_of-self g c =
    let s = c.args.self.now in
    let N = g.N.Network.meaning s.net.now in
    let h : s.node < N.n = search rules in
    let e : s.first ≡ first_of_node N s.node = s.first_leg in
    let l = row_count N s.node c.row_len.result h c.row_len.ensures in
    let n = first_next N s.node in
    let k : s.first + c.from.result ≡ first_of_node N (s.node + 1) = omega (arith, l) in
    record { first_leg = k }
