-- First in, first out.
use Rattle.std.specs.Prelude.{◌≡◌, ℕ, List, [], ◌∷◌, ◌++◌, ◌+◌, ◌-◌, cond, nat_lt, length, take, drop, Some, None, Ok, Err, Option, Result}
use Rattle.agendas.specs.Bags.{room_for}
use Rattle.agendas.specs.declared.fault.AgendaFault.{AgendaFault}
use Rattle.agendas.specs.declared.first_in.FirstIn.{FirstIn}

-- what waits in a ring: `count` numbers from `first` on, going on at the table's start
abbrev pub ring : List ℕ → ℕ → ℕ → List ℕ
ring table first count = take count (drop first table ++ table)

-- the place that comes k after `first`, of n
abbrev pub place : ℕ → ℕ → ℕ → ℕ
place n first k = cond (nat_lt (first + k) n) (first + k) (first + k - n)

-- what waits, the oldest first, and how much can wait
abbrev pub queue : FirstIn → List ℕ
queue s = ring s.table.now s.first s.count

abbrev pub queue_room : FirstIn → ℕ
queue_room s = room_for (length s.table.now)

-- a put makes i the last, and a take gives the first
abbrev pub QueuePut : {U : Type 0} → Result U AgendaFault → List ℕ → List ℕ → ℕ → Type 0
QueuePut (Ok u) before after i = after ≡ before ++ (i ∷ [])
QueuePut (Err e) before after i = after ≡ before

abbrev pub QueueTake : Option ℕ → List ℕ → List ℕ → Type 0
QueueTake None before after = before ≡ []
QueueTake (Some i) before after = before ≡ i ∷ after
