use Rattle.std.proofs.Common.{List, Some, None, Ok, Err, refl, sym, ap, ◌∙◌, filter, length, take, arith, rules}
use Rattle.std.specs.List.{slice_get}
use Rattle.std.proofs.lemmas.Iterator.{YieldsList-from_take}
use Rattle.std.proofs.lemmas.Iterator.Consumers.{YieldsList-at, YieldsList-from_first, YieldsList-so_far, YieldsList-turn, YieldsList-end}
use Rattle.std.proofs.lemmas.List.{map-id}
use Rattle.network.specs.Meaning.{legs_left}
use Rattle.network.specs.declared.fault.NetworkFault.TheVariants.{NoLeg}
use Rattle.network.specs.declared.leg.Leg.{Leg}
use Rattle.layers.specs.Bars.{stays}
use Rattle.layers.proofs.Barring.{leg_picked, row_taken, one_stays, one_goes, picked, none_left}
use Rattle.layers.proofs.bars.Bars.leg_left.Goals as goal

pub loop-leg-init : goal.loop-leg-init
loop-leg-init g c = omega arith

pub returns-then-left-eq0 : goal.returns-then-left-eq0
returns-then-left-eq0 g c =
    let s = c.args.self.now in
    let m = g.N.Network.meaning s.below in
    let i = c.args.i in
    let test = stays s.pairs.items i in
    let all = take c.in_ok-len.len (legs_left m i 0) in
    let x = c.in-Some.leg in
    let chain = YieldsList-at c.into_iter-leg-iterator.ensures.into_iter_gives (YieldsList-from_take c.in_ok-len.len (YieldsList-at c.take-leg-items.ensures.source (YieldsList-from_first (λ l. l) (λ s. legs_left (g.N.Network.meaning s.net.now) s.node s.next) (legs_left m i 0) cc)) c.take-leg-items.ensures.count) in
    let so_far = sym (map-id c.loop-leg.yielded) ∙ YieldsList-so_far chain c.loop-leg.yielded c.loop-leg.leg-iterator c.loop-leg.yielded_by in
    let turn = YieldsList-turn chain c.loop-leg.yielded c.loop-leg.leg-iterator c.loop-leg.yielded_by c.next.result c.next.new.self x c.in-Some.is c.next.ensures.steps in
    leg_picked m s.pairs.items i c.args.k c.in_ok-len.len (Some x) (Ok x) c.in_ok-len.ensures refl
    (picked test all (length c.loop-leg.yielded) x turn.0 turn.1 (search rules)
    ∙ ap (λ k. slice_get (filter test all) k) (ap (λ (ls : List Leg). length (filter test ls)) (sym so_far) ∙ omega (arith, c.loop-leg.invariant))
    ∙ ap (λ (ls : List Leg). slice_get (filter test ls) c.args.k) (row_taken m i c.in_ok-len.len c.in_ok-len.ensures))

pub loop-leg-preserved-then-stays : goal.loop-leg-preserved-then-stays
loop-leg-preserved-then-stays g c =
    let e = one_stays (stays c.args.self.now.pairs.items c.args.i) c.loop-leg.yielded c.in-Some.leg (search rules) in
    omega (arith, e, c.loop-leg.invariant)

pub loop-leg-preserved : goal.loop-leg-preserved
loop-leg-preserved g c =
    let e = one_goes (stays c.args.self.now.pairs.items c.args.i) c.loop-leg.yielded c.in-Some.leg (search rules) in
    omega (arith, e, c.loop-leg.invariant)

pub returns : goal.returns
returns g c =
    let s = c.args.self.now in
    let m = g.N.Network.meaning s.below in
    let i = c.args.i in
    let test = stays s.pairs.items i in
    let all = take c.in_ok-len.len (legs_left m i 0) in
    let chain = YieldsList-at c.into_iter-leg-iterator.ensures.into_iter_gives (YieldsList-from_take c.in_ok-len.len (YieldsList-at c.take-leg-items.ensures.source (YieldsList-from_first (λ l. l) (λ s. legs_left (g.N.Network.meaning s.net.now) s.node s.next) (legs_left m i 0) cc)) c.take-leg-items.ensures.count) in
    let over = YieldsList-end chain c.loop-leg.yielded c.loop-leg.leg-iterator c.loop-leg.yielded_by c.next.result c.next.new.self c.in-None.is c.next.ensures.steps in
    leg_picked m s.pairs.items i c.args.k c.in_ok-len.len None (Err (NoLeg i)) c.in_ok-len.ensures refl
    (none_left (filter test c.loop-leg.yielded) c.args.k c.loop-leg.left c.loop-leg.invariant
    ∙ ap (λ (ls : List Leg). slice_get (filter test ls) c.args.k) (sym (map-id c.loop-leg.yielded) ∙ over.0 ∙ row_taken m i c.in_ok-len.len c.in_ok-len.ensures))
