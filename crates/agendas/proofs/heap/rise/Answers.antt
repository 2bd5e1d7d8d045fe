use Rattle.std.proofs.Common.{rules, arith}
use Rattle.std.proofs.lemmas.List.Sorted.{IsPermutation-trans}
use Rattle.agendas.proofs.Steps.{rise_step, rise_ends}
use Rattle.agendas.proofs.Piles.{sooner_ranks}
use Rattle.agendas.proofs.heap.rise.Goals as goal

pub loop-p-preserved : goal.loop-p-preserved
loop-p-preserved c =
    let l = c.loop-p in
    let s = c.swap.ensures in
    let up = c.in-Some in
    record {
      within = omega arith;
      below = rise_step sooner_ranks l.heap c.swap.new.self l.i up.p s.len s.by_index l.invariant.within up.ensures (search rules) l.invariant.below;
      same = IsPermutation-trans _ _ _ l.invariant.same s.permutation;
      len = omega arith;
    }

pub returns-else-lt-clause-heap : goal.returns-else-lt-clause-heap
returns-else-lt-clause-heap c =
    let l = c.loop-p in
    let up = c.in-Some in
    rise_ends sooner_ranks l.heap l.i up.p up.ensures (search rules) l.invariant.below
