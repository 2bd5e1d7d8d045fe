-- One step up or down a heap.
use Rattle.std.proofs.Common.{◌≡◌, ℕ, zero, suc, ◌<◌, Bool, true, false, List, length, arith}
use Rattle.std.specs.Cmp.{IsStrictWeakOrder}
use Rattle.std.specs.List.{SwappedAt}
use Rattle.agendas.specs.declared.timed.Timed.{Timed}
use Rattle.agendas.specs.Heaps.{at, up, Heap, HeapUp, HeapDown, Child}

module _ {sooner : Timed → Timed → Bool} (order : IsStrictWeakOrder sooner) (t : List Timed) where
  pub rise_step : (u : List Timed) (i p : ℕ) → length u ≡ length t → SwappedAt t u i p → i < length t → (0 < i) × (p ≡ up i) → sooner (at t i) (at t p) ≡ true → HeapUp sooner (at t) (length t) i → HeapUp sooner (at u) (length u) p
  rise_step u i p len s within is e h = grind (arith, order, h, s)

  pub rise_ends : (i p : ℕ) → (0 < i) × (p ≡ up i) → sooner (at t i) (at t p) ≡ false → HeapUp sooner (at t) (length t) i → Heap sooner (at t) (length t)
  rise_ends i p is e h = grind (arith, h)

  pub sink_step : (u : List Timed) (i c : ℕ) → length u ≡ length t → SwappedAt t u i c → Child sooner (at t) (length t) i c → sooner (at t c) (at t i) ≡ true → HeapDown sooner (at t) (length t) i → HeapDown sooner (at u) (length u) c
  sink_step u i c len s best e h = grind (arith, order, h, best, s)

  pub sink_ends : (i c : ℕ) → Child sooner (at t) (length t) i c → sooner (at t c) (at t i) ≡ false → HeapDown sooner (at t) (length t) i → Heap sooner (at t) (length t)
  sink_ends i c best e h = grind (arith, order, h, best)

  -- the root is the soonest
  pub root_least : (b k : ℕ) → k < b → k < length t → Heap sooner (at t) (length t) → sooner (at t k) (at t 0) ≡ false
  root_least zero k below within h = grind arith
  root_least (suc b) k below within h = grind (arith, order, h, root_least b (up k))
