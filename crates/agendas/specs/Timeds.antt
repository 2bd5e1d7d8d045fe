-- Entries that wait with a time and a cost.
use Rattle.std.specs.Prelude.{◌≡◌, ℕ, ◌+◌, ◌<◌, Bool, false, ◌&&◌, ◌||◌, List, [], length, ℤ, pos, Some, None, Ok, Err, sum_by, Option, Result, ◌==◌, int_le, int_lt, nat_lt, slice_index_or}
use Rattle.agendas.specs.declared.fault.AgendaFault.{AgendaFault}
use Rattle.agendas.specs.declared.timed.Timed.{Timed}

abbrev pub timed : ℕ → ℤ → ℕ → Timed
timed t c i = record { time = t; cost = c; entry = i }

-- what stands where no entry is
abbrev pub no_entry : Timed
no_entry = timed 0 (pos 0) 0

-- by time, then cost, then number
abbrev pub sooner : Timed → Timed → Bool
sooner x y =
    nat_lt x.time y.time
    || (x.time == y.time
    && (int_lt x.cost y.cost || (int_le x.cost y.cost && nat_lt x.entry y.entry)))

-- of xs, none is sooner than x
abbrev pub Least : List Timed → Timed → Type 0
Least xs x = (k : ℕ) (d : Timed) → k < length xs → sooner (slice_index_or xs k d) x ≡ false

-- `more` is `less` with one x more, in any order: so it is with whatever is counted or summed over both
abbrev pub JoinedBy : {X : Type 0} → List X → List X → X → Type 0
JoinedBy {X} less more x = (f : X → ℕ) → sum_by f more ≡ sum_by f less + f x

-- after a put x waits too, and a take gives one that is least
abbrev pub TimedPut : {U : Type 0} → Result U AgendaFault → List Timed → List Timed → Timed → Type 0
TimedPut (Ok u) before after x = JoinedBy before after x
TimedPut (Err e) before after x = after ≡ before

abbrev pub TimedTake : Option ℕ → List Timed → List Timed → Type 0
TimedTake None before after = before ≡ []
TimedTake (Some i) before after = (x : Timed) × (x.entry ≡ i) × Least before x × JoinedBy after before x
