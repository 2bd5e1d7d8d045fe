use Rattle.std.proofs.Common.{List, length, ap, ◌∙◌, filter, rules, tests}
use Rattle.std.proofs.lemmas.Iterator.{YieldsList-from_take}
use Rattle.std.proofs.lemmas.Iterator.Consumers.{YieldsList-at, YieldsList-from_first, YieldsList-from_filter, count_from_yields_List}
use Rattle.network.specs.Meaning.{legs_left}
use Rattle.network.specs.declared.leg.Leg.{Leg}
use Rattle.layers.specs.Bars.{stays}
use Rattle.layers.proofs.Barring.{length_counted, row_taken}
use Rattle.layers.proofs.bars.Bars.len_left.Goals as goal

pub returns : goal.returns
returns g c =
    let s = c.args.self.now in
    let m = g.N.Network.meaning s.below in
    let i = c.args.i in
    let test = stays s.pairs.items i in
    length_counted m s.pairs.items i c.in_ok-len.len c.count-left.result c.in_ok-len.ensures
    (count_from_yields_List c.filter.result c.count-left.result c.count-left.ensures.ran
    (YieldsList-from_filter _ test (YieldsList-at c.filter.ensures.source (YieldsList-from_take c.in_ok-len.len (YieldsList-at c.take.ensures.source (YieldsList-from_first (λ l. l) (λ s. legs_left (g.N.Network.meaning s.net.now) s.node s.next) (legs_left m i 0) cc)) c.take.ensures.count))
    c.filter.ensures.closure (λ x r q k. search (rules, tests)))
    ∙ ap (λ (ls : List Leg). length (filter test ls)) (row_taken m i c.in_ok-len.len c.in_ok-len.ensures))
