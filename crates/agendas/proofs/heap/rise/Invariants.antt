use Rattle.std.proofs.Common.{◌≡◌, ◌<◌, length, IsPermutation}
use Rattle.agendas.specs.Timeds.{sooner}
use Rattle.agendas.specs.Heaps.{at, HeapUp}
use Rattle.agendas.proofs.heap.rise.Given as goal

abbrev pub invariant-loop-p : goal.invariant-loop-p
invariant-loop-p l = record {
  within : l.i < length l.heap;
  below : HeapUp sooner (at l.heap) (length l.heap) l.i;
  same : IsPermutation l.initial.heap l.heap;
  len : length l.heap ≡ length l.initial.heap;
}

abbrev pub decreases-loop-p : goal.decreases-loop-p
decreases-loop-p l = l.i
