use Rattle.std.proofs.Common.{◌≡◌, rules}
use Rattle.std.proofs.lemmas.Iterator.Search.{all_from_yields_List}
use Rattle.std.proofs.lemmas.Iterator.Consumers.{YieldsList-from_first}
use Rattle.network.specs.Meaning.{legs_left}
use Rattle.image_writer.specs.Write.{holds_leg}
use Rattle.image_writer.proofs.check.holds_row.Goals as goal

pub returns : goal.returns
returns g c =
    let M = g.N.Network.meaning in
    let l = c.legs_from.result in
    let e : legs_left (M l.net.now) l.node l.next ≡ legs_left (M c.args.net.now) c.args.node 0 = cc in
    all_from_yields_List holds_leg c.all.new.self _ _ c.all.ensures.ran (YieldsList-from_first (λ x. x) (λ s. legs_left (M s.net.now) s.node s.next) {s = l} _ e) (λ x b q k. search rules)
