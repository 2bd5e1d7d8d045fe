-- What an agenda holds: entry numbers, of which only the counts matter.
use Rattle.std.specs.Prelude.{◌≡◌, ℕ, ◌+◌, ◌<◌, ◌≤◌, min, cond, List, [], length, Some, None, Ok, Err, count_by, Option, Result, ◌==◌, nat_eq}
use Rattle.agendas.specs.declared.fault.AgendaFault.{AgendaFault}
use Rattle.agendas.specs.declared.fault.AgendaFault.TheVariants.{Full}

-- how often x waits
abbrev pub times : ℕ → List ℕ → ℕ
times x xs = count_by (λ y. nat_eq x y) xs

-- `more` is `less` with one i more, in any order
pub record OneMore (less more : List ℕ) (i : ℕ) : Type 0 where
  pub counts : (x : ℕ) → times x more ≡ times x less + cond (x == i) 1 0
  pub len : length more ≡ length less + 1

-- 12: at capacity
abbrev pub fault_number : AgendaFault → ℕ
fault_number Full = 12

-- what a put tells and does: i waits once more; at capacity, nothing changes
abbrev pub PutSays : {U : Type 0} → Result U AgendaFault → List ℕ → List ℕ → ℕ → ℕ → Type 0
PutSays (Ok u) before after limit i = (length before < limit) × OneMore before after i
PutSays (Err e) before after limit i = (fault_number e ≡ 12) × (limit ≤ length before) × (after ≡ before)

-- what a take tells and does: the answer waits once less; nothing where nothing waits
abbrev pub TakeSays : Option ℕ → List ℕ → List ℕ → Type 0
TakeSays None before after = (before ≡ []) × (after ≡ [])
TakeSays (Some i) before after = OneMore after before i

-- how many entries can wait in any table, and in one of n places
abbrev pub most_waiting : ℕ
most_waiting = 65535

abbrev pub room_for : ℕ → ℕ
room_for n = min n most_waiting
