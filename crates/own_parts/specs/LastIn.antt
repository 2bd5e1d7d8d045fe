-- Last in, first out.
use Rattle.std.specs.Prelude.{◌≡◌, ℕ, List, [], ◌∷◌, ◌++◌, length, take, Some, None, Ok, Err, Option, Result}
use Rattle.agendas.specs.Bags.{room_for}
use Rattle.agendas.specs.declared.fault.AgendaFault.{AgendaFault}
use Rattle.own_parts.specs.declared.last_in.LastIn.{LastIn}

-- what waits, the oldest first, and how much can wait
abbrev pub pile : LastIn → List ℕ
pile s = take s.count s.table.now

abbrev pub pile_room : LastIn → ℕ
pile_room s = room_for (length s.table.now)

-- a put makes i the last, and a take gives the last
abbrev pub PilePut : {U : Type 0} → Result U AgendaFault → List ℕ → List ℕ → ℕ → Type 0
PilePut (Ok u) before after i = after ≡ before ++ (i ∷ [])
PilePut (Err e) before after i = after ≡ before

abbrev pub PileTake : Option ℕ → List ℕ → List ℕ → Type 0
PileTake None before after = before ≡ []
PileTake (Some i) before after = before ≡ after ++ (i ∷ [])
