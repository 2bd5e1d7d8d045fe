use Rattle.std.proofs.Common.{◌≡◌, ◌<◌, arith}
use Rattle.std.proofs.lemmas.Result.{err_from_is_err_and}
use Rattle.network.proofs.Facts.{length_tells, refusal_tells}
use Rattle.image_format.specs.Encode.{first_of_node}
use Rattle.image_writer.proofs.Steps.{total_fits, row_unread}
use Rattle.image_writer.proofs.check.count_legs.Goals as goal

pub returns-in_err-row_len : goal.returns-in_err-row_len
returns-in_err-row_len g c =
    let N = g.N.Network.meaning c.args.net.now in
    let p = err_from_is_err_and c.from_residual.result c.from_residual.ensures.1 in
    let h : c.loop-i.i < N.n = omega arith in
    let e = refusal_tells N c.loop-i.i _ h c.in_err-row_len.ensures in
    rw (p.1, p.2) (row_unread N c.loop-i.i _ h e c.loop-i.invariant.0)

pub overflow_add-total : goal.overflow_add-total
overflow_add-total g c =
    let N = g.N.Network.meaning c.args.net.now in
    let h : c.loop-i.i < N.n = omega arith in
    let t = length_tells N c.loop-i.i c.in_ok-row_len.field-0 h c.in_ok-row_len.ensures in
    let f = total_fits N c.loop-i.i (g.N.Network.lawful c.args.net.now) h in
    let e : c.loop-i.total ≡ first_of_node N c.loop-i.i = c.loop-i.invariant.1 in
    record { fits = omega (arith, t.1) }
