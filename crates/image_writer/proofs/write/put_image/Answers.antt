use Rattle.std.proofs.Common.{◌≡◌, ℕ, ◌+◌, sym, ap, ◌∙◌, rules, arith}
use Rattle.image_format.specs.Encode.{node_bytes_at, leg_bytes_at, leg_count, first_of_node}
use Rattle.image_format.proofs.Back.{node_each, leg_each}
use Rattle.image_writer.specs.Order.{records_from}
use Rattle.image_writer.specs.declared.nodes.NodeRecords.{NodeRecords}
use Rattle.image_writer.specs.declared.legs.LegRecords.{LegRecords}
use Rattle.image_writer.proofs.Order.{shown_given}
use Rattle.image_writer.proofs.Steps.{top_put, tables_put}
use Rattle.image_writer.specs.Write.{node_records_from, leg_records_from}
use Rattle.image_writer.proofs.write.put_image.Goals as goal

pub put-requires : goal.put-requires
put-requires g c κs within =
    let M = g.N.Network.meaning in
    let N = M c.args.net.now in
    let s = c.of.result in
    let t = top_put N c.args.header c.store_in.new.block c.args.out.now c.requires.header c.store_in.ensures (omega arith) in
    let n : (M s.net.now).n ≡ c.args.header.nodes = ap (λ (z : g.row.N.Denot). (M z).n) c.of.ensures.net ∙ sym t.nodes in
    let e = ap (λ (k : ℕ). records_from (node_bytes_at (M s.net.now)) k s.node) n ∙ ap (records_from (node_bytes_at (M s.net.now)) c.args.header.nodes) c.of.ensures.node in
    (search rules, (shown_given (λ (s : NodeRecords g.row.N.Denot g.N.Network). node_records_from (M s.net.now) s.node) tt (node_each (M s.net.now)) e, omega (arith, t.nodes, t.legs, t.long)))

pub invariant_of-legs : goal.invariant_of-legs
invariant_of-legs g c =
    let N = g.N.Network.meaning c.args.net.now in
    let w = g.N.Network.lawful c.args.net.now in
    let t = top_put N c.args.header c.store_in.new.block c.args.out.now c.requires.header c.store_in.ensures (omega arith) in
    record { numbered = omega (arith, t.nodes, t.legs, w.many, w.few) }

pub put-requires-2 : goal.put-requires-2
put-requires-2 g c κs within =
    let M = g.N.Network.meaning in
    let N = M c.args.net.now in
    let s = c.of-2.result in
    let t = top_put N c.args.header c.store_in.new.block c.args.out.now c.requires.header c.store_in.ensures (omega arith) in
    let m : leg_count (M s.net.now) ≡ c.args.header.legs = ap (λ (z : g.row.N.Denot). leg_count (M z)) c.of-2.ensures.net ∙ sym t.legs in
    let z : first_of_node (M s.net.now) s.node ≡ 0 = ap (first_of_node (M s.net.now)) c.of-2.ensures.node in
    let j : first_of_node (M s.net.now) s.node + s.leg ≡ 0 = omega (arith, c.of-2.ensures.leg) in
    let e = ap (λ (k : ℕ). records_from (leg_bytes_at (M s.net.now)) k (first_of_node (M s.net.now) s.node + s.leg)) m ∙ ap (records_from (leg_bytes_at (M s.net.now)) c.args.header.legs) j in
    (search rules, (shown_given (λ (s : LegRecords g.row.N.Denot g.N.Network). leg_records_from (M s.net.now) s.node s.leg) tt (leg_each (M s.net.now)) e, omega (arith, t.nodes, t.legs, t.long)))

pub returns : goal.returns
returns g c =
    let N = g.N.Network.meaning c.args.net.now in
    let t = top_put N c.args.header c.store_in.new.block c.args.out.now c.requires.header c.store_in.ensures (omega arith) in
    tables_put N c.args.out.now _ c.put.new.out c.put-2.new.out t.over (rw (c.of.ensures.net, c.requires.header) at c.put.ensures) (rw (c.leg_base.ensures, c.of-2.ensures.net, c.requires.header) at c.put-2.ensures) (omega arith)
