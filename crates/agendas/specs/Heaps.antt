-- A heap in a table.
use Rattle.std.specs.Prelude.{◌≡◌, ℕ, ◌-◌, ◌/◌, ◌<◌, Bool, false, List, ◌≢◌, slice_index_or}
use Rattle.agendas.specs.declared.timed.Timed.{Timed}
use Rattle.agendas.specs.Timeds.{no_entry}

-- what stands at place k
abbrev pub at : List Timed → ℕ → Timed
at t k = slice_index_or t k no_entry

-- the place above k
abbrev pub up : ℕ → ℕ
up k = (k - 1) / 2

-- of what stands at the first n places of f, by an order
module _ {X : Type 0} (sooner : X → X → Bool) (f : ℕ → X) (n : ℕ) where
  -- none is sooner than the one above it
  abbrev pub Heap : Type 0
  Heap = (k : ℕ) → 0 < k → k < n → sooner (f k) (f (up k)) ≡ false

  -- the same but between i and what is above it, and what is below i is not sooner than what is above i
  abbrev pub HeapUp : ℕ → Type 0
  HeapUp i =
      ((k : ℕ) → 0 < k → k < n → (k ≢ i) → sooner (f k) (f (up k)) ≡ false)
      × ((k : ℕ) → 0 < k → k < n → up k ≡ i → 0 < i → sooner (f k) (f (up i)) ≡ false)

  -- the same but between i and what is below it, and what is below i is not sooner than what is above i
  abbrev pub HeapDown : ℕ → Type 0
  HeapDown i =
      ((k : ℕ) → 0 < k → k < n → (up k ≢ i) → sooner (f k) (f (up k)) ≡ false)
      × ((k : ℕ) → 0 < k → k < n → up k ≡ i → 0 < i → sooner (f k) (f (up i)) ≡ false)

  -- c is the soonest below i
  abbrev pub Child : ℕ → ℕ → Type 0
  Child i c =
      (0 < c) × (c < n) × (up c ≡ i) × ((k : ℕ) → 0 < k → k < n → up k ≡ i → sooner (f k) (f c) ≡ false)
