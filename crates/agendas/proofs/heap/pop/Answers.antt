use Rattle.std.proofs.Common.{◌≡◌, ◌-◌, ◌++◌, drop, length, sym, ◌∙◌, rules}
use Rattle.std.proofs.lemmas.List.Sorted.{IsPermutation-put_mid, IsPermutation-trans, sum_by-IsPermutation}
use Rattle.std.proofs.lemmas.List.{get_or_default, places}
use Rattle.agendas.specs.Timeds.{no_entry}
use Rattle.agendas.specs.Heaps.{at}
use Rattle.agendas.proofs.Steps.{root_least}
use Rattle.agendas.proofs.Piles.{sooner_ranks, last_joins}
use Rattle.agendas.proofs.heap.pop.Goals as goal

pub returns-clause-less : goal.returns-clause-less
returns-clause-less c =
    let n = length c.args.heap.now - 1 in
    let moved = IsPermutation-trans _ _ _ c.swap.ensures.permutation (IsPermutation-put_mid 0 n c.swap.new.self c.sink.new.heap c.sink.ensures.same) in
    λ f. sym (sum_by-IsPermutation f _ _ moved) ∙ last_joins (c.sink.new.heap ++ drop n c.swap.new.self) n no_entry (search rules) f

pub returns-clause-least : goal.returns-clause-least
returns-clause-least c =
    let t = c.args.heap.now in
    let n = length t - 1 in
    let e : at (c.sink.new.heap ++ drop n c.swap.new.self) n ≡ at t 0 = search (rules, places) ∙ c.swap.ensures.by_index.1 no_entry in
    λ k d h. rw (get_or_default t k d no_entry h, e) (root_least sooner_ranks t (length t) k h h c.requires.heap)
