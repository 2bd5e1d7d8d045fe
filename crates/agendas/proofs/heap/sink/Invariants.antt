use Rattle.std.proofs.Common.{◌≡◌, ◌-◌, ◌≤◌, length, IsPermutation}
use Rattle.agendas.specs.Timeds.{sooner}
use Rattle.agendas.specs.Heaps.{at, HeapDown}
use Rattle.agendas.proofs.heap.sink.Given as goal

abbrev pub invariant-loop-c : goal.invariant-loop-c
invariant-loop-c l = record {
  within : l.i ≤ length l.heap;
  above : HeapDown sooner (at l.heap) (length l.heap) l.i;
  same : IsPermutation l.initial.heap l.heap;
  len : length l.heap ≡ length l.initial.heap;
}

abbrev pub decreases-loop-c : goal.decreases-loop-c
decreases-loop-c l = length l.heap - l.i
