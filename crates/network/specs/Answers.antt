-- What each question to a network answers: 7 comes first, then 9, then 8.
use Rattle.std.specs.Prelude.{ℕ, cond, length, Ok, Err, Result, nat_lt, slice_index_or}
use Rattle.network.specs.Meaning.{Net, Row, legs_row, unreadable_row, no_leg}
use Rattle.network.specs.Refusals.{NetworkRefusal, no_node, no_such_leg, unreadable}
use Rattle.network.specs.declared.leg.Leg.{Leg}
use Rattle.network.specs.declared.leg.Window.{Window}

-- the answer about node i, where there is such a node
abbrev pub if_node : {X : Type 0} → Net → ℕ → Result X NetworkRefusal → Result X NetworkRefusal
if_node N i answer = cond (nat_lt i N.n) answer (Err (no_node i))

abbrev pub window_answer : Net → ℕ → Result Window NetworkRefusal
window_answer N i = if_node N i (Ok (N.window i))

abbrev pub row_length : ℕ → Row → Result ℕ NetworkRefusal
row_length i (legs_row ls) = Ok (length ls)
row_length i (unreadable_row f) = Err (unreadable i f)

abbrev pub length_answer : Net → ℕ → Result ℕ NetworkRefusal
length_answer N i = if_node N i (row_length i (N.row i))

abbrev pub row_leg : ℕ → ℕ → Row → Result Leg NetworkRefusal
row_leg i k (legs_row ls) = cond (nat_lt k (length ls)) (Ok (slice_index_or ls k no_leg)) (Err (no_such_leg i))
row_leg i k (unreadable_row f) = Err (unreadable i f)

abbrev pub leg_answer : Net → ℕ → ℕ → Result Leg NetworkRefusal
leg_answer N i k = if_node N i (row_leg i k (N.row i))
