-- A network without barred legs is lawful, whatever the pairs.
use Rattle.std.specs.Prelude.{not, filter, refl}
use Rattle.std.proofs.Common.{arith}
use Rattle.std.proofs.ByRecursion.{all_kept_by}
use Rattle.std.proofs.lemmas.List.Filters.{length-filter_both}
use Rattle.network.specs.Lawful.{Lawful, LawfulLeg}
use Rattle.network.specs.Meaning.{Net}
use Rattle.layers.specs.LayerLawful.{layered_lawful}
use Rattle.layers.specs.Bars.{Pairs, stays, barred}

pub barred_lawful : (ps : Pairs) (m : Net) → Lawful m → Lawful (barred ps m)
barred_lawful ps m h =
    layered_lawful (λ i. filter (stays ps i)) m.reach m h.near
    (λ i ls. let e = length-filter_both (stays ps i) (λ l. not (stays ps i l)) (λ _. refl) ls in omega arith)
    (λ i ls all. all_kept_by (stays ps i) (LawfulLeg m.n m.reach) ls all) h
