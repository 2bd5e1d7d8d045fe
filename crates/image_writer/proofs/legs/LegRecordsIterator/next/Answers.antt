use Rattle.std.proofs.Common.{List, ℕ, ◌∷◌, ◌+◌, length, ap, sym, ◌∙◌, arith}
use Rattle.image_writer.specs.Write.{leg_records_from}
use Rattle.image_writer.proofs.Steps.{total_fits, leg_given, row_ended, legs_ended}
use Rattle.image_writer.proofs.legs.LegRecordsIterator.next.Goals as goal

pub overflow_add-self : goal.overflow_add-self
overflow_add-self g c =
    let s = c.loop-self.self in
    let N = g.N.Network.meaning s.net.now in
    let w = leg_given N s.node s.leg _ (omega arith) c.in-Ok.ensures in
    let t = total_fits N s.node (g.N.Network.lawful s.net.now) (omega arith) in
    record { fits = omega (arith, w.0, t) }

pub returns-in-Ok-clause-steps : goal.returns-in-Ok-clause-steps
returns-in-Ok-clause-steps g c =
    let s = c.loop-self.self in
    let N = g.N.Network.meaning s.net.now in
    let w = leg_given N s.node s.leg _ (omega arith) c.in-Ok.ensures in
    c.loop-self.invariant.left ∙ w.1 ∙ ap (λ (z : List ℕ). z ∷ leg_records_from N s.node (s.leg + 1)) (sym c.leg_bytes.ensures)

pub returns-in-Ok-clause-goes : goal.returns-in-Ok-clause-goes
returns-in-Ok-clause-goes g c =
    let s = c.loop-self.self in
    let w = leg_given (g.N.Network.meaning s.net.now) s.node s.leg _ (omega arith) c.in-Ok.ensures in
    let e = returns-in-Ok-clause-steps g c in
    record { on = λ _. (omega (arith, w.0), tt, omega (arith, ap length e)); keeps = omega (arith, w.0); rests = λ _. tt }

pub loop-self-preserved : goal.loop-self-preserved
loop-self-preserved g c =
    let s = c.loop-self.self in
    let N = g.N.Network.meaning s.net.now in
    record {
      in_row = omega arith;
      left = c.loop-self.invariant.left ∙ row_ended N s.node s.leg _ (omega arith) c.loop-self.invariant.in_row c.in_default.ensures;
    }

pub returns-clause-steps : goal.returns-clause-steps
returns-clause-steps g c =
    let s = c.loop-self.self in
    let e = legs_ended (g.N.Network.meaning s.net.now) s.node s.leg (omega arith) in
    (c.loop-self.invariant.left ∙ e, e)
