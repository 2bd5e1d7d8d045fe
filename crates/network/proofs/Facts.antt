-- What an answer tells of a network.
use Rattle.std.proofs.Common.{◌≡◌, ℕ, ◌<◌, length, get_or, Some, None, Ok, Err, Result, refl, ◌∙◌, arith}
use Rattle.std.specs.Option.{option_map}
use Rattle.std.proofs.lemmas.Bool.Decides.{nat_tests}
use Rattle.network.specs.Meaning.{Net, Row, legs_row, unreadable_row, legs_of, legs_at, fault_in, no_leg}
use Rattle.network.specs.Refusals.{NetworkRefusal, unreadable}
use Rattle.network.specs.Answers.{if_node, leg_answer, row_leg, length_answer, row_length}

pub at_node_lem : {X : Type 0} (N : Net) (i : ℕ) (a : Result X NetworkRefusal) → i < N.n → if_node N i a ≡ a
at_node_lem N i a h = grind (arith, nat_tests)

in_row : (i k : ℕ) (row : Row) → k < length (legs_of row) → row_leg i k row ≡ Ok (get_or (legs_of row) k no_leg)
in_row i k (legs_row ls) h = grind (arith, nat_tests)
in_row i k (unreadable_row f) h = absurd (omega arith)

-- a leg within the row is given
pub leg_found : (N : Net) (i k : ℕ) → i < N.n → k < length (legs_at N i) → leg_answer N i k ≡ Ok (get_or (legs_at N i) k no_leg)
leg_found N i k h w = at_node_lem N i (row_leg i k (N.row i)) h ∙ in_row i k (N.row i) w

readable_length : (i : ℕ) (row : Row) → fault_in row ≡ None → row_length i row ≡ Ok (length (legs_of row))
readable_length i (legs_row ls) e = refl
readable_length i (unreadable_row f) e = cc

-- the length of a row that can be read is given
pub length_found : (N : Net) (i : ℕ) → i < N.n → fault_in (N.row i) ≡ None → length_answer N i ≡ Ok (length (legs_at N i))
length_found N i h e = at_node_lem N i (row_length i (N.row i)) h ∙ readable_length i (N.row i) e

is_legs : (i len : ℕ) (row : Row) → Ok len ≡ row_length i row → (fault_in row ≡ None) × (len ≡ length (legs_of row))
is_legs i len (legs_row ls) e = (refl, cc e)
is_legs i len (unreadable_row f) e = cc

-- what a length tells, and what a refusal of one
pub length_tells : (N : Net) (i len : ℕ) → i < N.n → Ok len ≡ length_answer N i → (fault_in (N.row i) ≡ None) × (len ≡ length (legs_at N i))
length_tells N i len h e = is_legs i len (N.row i) (e ∙ at_node_lem N i (row_length i (N.row i)) h)

no_legs : (i : ℕ) (r : NetworkRefusal) (row : Row) → Err r ≡ row_length i row → option_map (unreadable i) (fault_in row) ≡ Some r
no_legs i r (legs_row ls) e = cc
no_legs i r (unreadable_row f) e = cc e

pub refusal_tells : (N : Net) (i : ℕ) (r : NetworkRefusal) → i < N.n → Err r ≡ length_answer N i → option_map (unreadable i) (fault_in (N.row i)) ≡ Some r
refusal_tells N i r h e = no_legs i r (N.row i) (e ∙ at_node_lem N i (row_length i (N.row i)) h)
