-- A ring within the limits is a lawful network.
use Rattle.std.specs.Prelude.{◌≡◌, ℕ, zero, suc, ◌+◌, ◌*◌, ◌<◌, [], ◌∷◌, length, ℤ, slice_index_or, unsigned_abs, refl}
use Rattle.std.proofs.Common.{le_refl, mod-lt, arith}
use Rattle.network.specs.Lawful.{Lawful, LawfulLeg}
use Rattle.network.specs.Meaning.{no_leg, legs_at, all_legs}
use Rattle.network.proofs.Piles.{length-pile}
use Rattle.ring.specs.Ring.{WithinLimits, leg_from, ring_net}

-- a row has one leg, which is lawful
leg_lawful : (stops minutes : ℕ) (cost : ℤ) → WithinLimits stops minutes cost → (i k : ℕ) → k < 1 → LawfulLeg stops (unsigned_abs cost) (slice_index_or (leg_from stops minutes cost i ∷ []) k no_leg)
leg_lawful stops minutes cost w i zero h = record { head_in = mod-lt (i + 1) w.0; lasts = w.2; ends = w.3; in_reach = le_refl _ }
leg_lawful stops minutes cost w i (suc k) h = absurd (omega arith)

-- there are as many legs as stops
legs_are : (stops minutes : ℕ) (cost : ℤ) → length (all_legs (ring_net stops minutes cost)) ≡ 1 * stops
legs_are stops minutes cost = length-pile (legs_at (ring_net stops minutes cost)) 1 stops (λ i h. refl)

-- what `Network` asks of a source
pub ring_lawful : (stops minutes : ℕ) (cost : ℤ) → WithinLimits stops minutes cost → Lawful (ring_net stops minutes cost)
ring_lawful stops minutes cost w = record {
  some = w.0;
  many = w.1;
  depot_in = w.0;
  sink_in = w.0;
  near = w.4;
  few = omega (arith, legs_are stops minutes cost, w.1);
  windows = λ i h. record { in_order = omega arith; ends = omega arith };
  rows = λ i h. leg_lawful stops minutes cost w i;
}
