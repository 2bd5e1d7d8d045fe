use Rattle.std.proofs.Common.{rules, arith}
use Rattle.std.proofs.lemmas.List.Sorted.{IsPermutation-trans}
use Rattle.agendas.proofs.Steps.{sink_step, sink_ends}
use Rattle.agendas.proofs.Piles.{sooner_ranks}
use Rattle.agendas.proofs.heap.sink.Goals as goal

pub loop-c-preserved : goal.loop-c-preserved
loop-c-preserved c =
    let l = c.loop-c in
    let s = c.swap.ensures in
    let best = c.in-Some in
    record {
      within = omega (arith, best.ensures.1);
      above = sink_step sooner_ranks l.heap c.swap.new.self l.i best.c s.len s.by_index best.ensures (search rules) l.invariant.above;
      same = IsPermutation-trans _ _ _ l.invariant.same s.permutation;
      len = omega arith;
    }

pub returns-else-lt-clause-heap : goal.returns-else-lt-clause-heap
returns-else-lt-clause-heap c =
    let l = c.loop-c in
    let best = c.in-Some in
    sink_ends sooner_ranks l.heap l.i best.c best.ensures (search rules) l.invariant.above
