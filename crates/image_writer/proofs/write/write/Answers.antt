use Rattle.std.proofs.Common.{Err, ap, ◌∙◌, arith}
use Rattle.std.proofs.lemmas.Result.{err_from_is_err_and}
use Rattle.network.specs.First.{first_of}
use Rattle.image_format.specs.Encode.{leg_count}
use Rattle.image_writer.specs.Write.{unread_at, told_write, write_refusal}
use Rattle.image_writer.proofs.Steps.{answer_tells}
use Rattle.image_writer.proofs.Sure.{unread, dear, short, done}
use Rattle.image_writer.proofs.write.write.Goals as goal

pub returns-in_err-count_legs : goal.returns-in_err-count_legs
returns-in_err-count_legs g c =
    let N = g.N.Network.meaning c.args.net.now in
    let p = err_from_is_err_and c.from_residual.result c.from_residual.ensures.1 in
    let o = unread N c.args.out.now (g.N.Network.lawful c.args.net.now) c.from_residual.result _ (ap told_write p.1 ∙ ap (λ f. Err (write_refusal f)) p.2) c.in_err-count_legs.ensures in
    record { answer = o.answer; bytes = o.bytes; copy = o.copy; when = o.when }

pub returns-in_err-check_costs : goal.returns-in_err-check_costs
returns-in_err-check_costs g c =
    let N = g.N.Network.meaning c.args.net.now in
    let t = answer_tells (first_of (unread_at N) N.n) _ (leg_count N) c.in_ok-count_legs.ensures in
    let p = err_from_is_err_and c.from_residual-in_err-check_costs.result c.from_residual-in_err-check_costs.ensures.1 in
    let o = dear N c.args.out.now (g.N.Network.lawful c.args.net.now) t.0 c.from_residual-in_err-check_costs.result _ (ap told_write p.1 ∙ ap (λ f. Err (write_refusal f)) p.2) c.in_err-check_costs.ensures in
    record { answer = o.answer; bytes = o.bytes; copy = o.copy; when = o.when }

pub returns-then-out-size : goal.returns-then-out-size
returns-then-out-size g c =
    let N = g.N.Network.meaning c.args.net.now in
    let t = answer_tells (first_of (unread_at N) N.n) _ (leg_count N) c.in_ok-count_legs.ensures in
    let o = short N c.args.out.now (g.N.Network.lawful c.args.net.now) t.0 c.in_ok-check_costs.ensures (omega (arith, t.1)) in
    record { answer = o.answer; bytes = o.bytes; copy = o.copy; when = o.when }

pub returns : goal.returns
returns g c =
    let N = g.N.Network.meaning c.args.net.now in
    let t = answer_tells (first_of (unread_at N) N.n) _ (leg_count N) c.in_ok-count_legs.ensures in
    let o = done N c.args.out.now (g.N.Network.lawful c.args.net.now) t.0 c.in_ok-check_costs.ensures c.put_image.new.out _ (omega (arith, t.1)) (omega (arith, t.1)) c.put_image.ensures in
    record { answer = o.answer; bytes = o.bytes; copy = o.copy; when = o.when }
