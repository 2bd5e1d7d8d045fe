-- What waits where the least time is first.
use Rattle.std.specs.Prelude.{ℕ, List, map, length, take}
use Rattle.agendas.specs.Bags.{room_for}
use Rattle.agendas.specs.declared.time_first.TimeFirst.{TimeFirst}
use Rattle.agendas.specs.declared.timed.Timed.{Timed}

-- what waits, in the order of the heap
abbrev pub held : TimeFirst → List Timed
held s = take s.count s.table.now

-- the numbers of what waits, and how much can wait
abbrev pub entries : List Timed → List ℕ
entries xs = map (λ x. x.entry) xs

abbrev pub numbers : TimeFirst → List ℕ
numbers s = entries (held s)

abbrev pub held_room : TimeFirst → ℕ
held_room s = room_for (length s.table.now)
