-- What the network of an image answers.
use Rattle.std.proofs.Common.{◌≡◌, ℕ, ◌+◌, ◌-◌, ◌<◌, ◌≤◌, cond, ltb, List, length, get_or, Some, None, Ok, Err, Result, refl, ap, ◌∙◌, arith}
use Rattle.std.specs.Result.{result_map_both, result_err}
use Rattle.std.proofs.lemmas.Bool.{lt-ltb, le-ltb, cond-true, cond-false}
use Rattle.network.specs.Meaning.{no_leg}
use Rattle.network.specs.Refusals.{no_such_leg, unreadable}
use Rattle.network.specs.Answers.{length_answer, row_length, leg_answer, row_leg}
use Rattle.network.specs.Rows.{legs_from}
use Rattle.network.specs.declared.fault.FileFault.{FileFault}
use Rattle.network.proofs.Facts.{at_node_lem}
use Rattle.network.proofs.Starts.{length_from, item_from}
use Rattle.image_format.specs.Layout.{nodes_in, start}
use Rattle.image_format.specs.Decode.{span_fault, leg_at, row_by, image_net}

-- a result that is handed up as it was made
pub fine : {T E D : Type 0} (r : Result T E) (a : Result T D) (g : E → D) (x : T) → a ≡ result_map_both (λ y. y) g r → a ≡ Ok x → result_err r ≡ None
fine (Ok y) a g x e f = refl
fine (Err y) a g x e f = let z : ◌≡◌ {A = ℕ} 0 1 = cc in absurd (omega arith)

module _ (s : List ℕ) (i : ℕ) (h : i < nodes_in s) where
  pub length_refused : (f : FileFault) → span_fault s (start s i) (start s (i + 1)) ≡ Some f → length_answer (image_net s) i ≡ Err (unreadable i f)
  length_refused f e = at_node_lem (image_net s) i _ h ∙ ap (λ o. row_length i (row_by o (legs_from (leg_at s) (start s i) (start s (i + 1))))) e

  pub leg_refused : (k : ℕ) (f : FileFault) → span_fault s (start s i) (start s (i + 1)) ≡ Some f → leg_answer (image_net s) i k ≡ Err (unreadable i f)
  leg_refused k f e = at_node_lem (image_net s) i _ h ∙ ap (λ o. row_leg i k (row_by o (legs_from (leg_at s) (start s i) (start s (i + 1))))) e

  module _ (e : span_fault s (start s i) (start s (i + 1)) ≡ None) where
    pub length_given : length_answer (image_net s) i ≡ Ok (start s (i + 1) - start s i)
    length_given =
        at_node_lem (image_net s) i _ h ∙ ap (λ o. row_length i (row_by o (legs_from (leg_at s) (start s i) (start s (i + 1))))) e
        ∙ ap Ok (length_from (leg_at s) (start s i) (start s (i + 1)))

    leg_open : (k : ℕ) → leg_answer (image_net s) i k ≡ cond (ltb k (length (legs_from (leg_at s) (start s i) (start s (i + 1))))) (Ok (get_or (legs_from (leg_at s) (start s i) (start s (i + 1))) k no_leg)) (Err (no_such_leg i))
    leg_open k = at_node_lem (image_net s) i _ h ∙ ap (λ o. row_leg i k (row_by o (legs_from (leg_at s) (start s i) (start s (i + 1))))) e

    pub leg_given : (k : ℕ) → start s i + k < start s (i + 1) → leg_answer (image_net s) i k ≡ Ok (leg_at s (start s i + k))
    leg_given k l =
        let n = length_from (leg_at s) (start s i) (start s (i + 1)) in
        leg_open k ∙ cond-true _ _ _ (lt-ltb k (length (legs_from (leg_at s) (start s i) (start s (i + 1)))) (omega arith))
        ∙ ap Ok (item_from (leg_at s) (start s i) (start s (i + 1)) k (omega arith))

    pub leg_missing : (k : ℕ) → start s (i + 1) ≤ start s i + k → leg_answer (image_net s) i k ≡ Err (no_such_leg i)
    leg_missing k l =
        let n = length_from (leg_at s) (start s i) (start s (i + 1)) in
        leg_open k ∙ cond-false _ _ _ (le-ltb k (length (legs_from (leg_at s) (start s i) (start s (i + 1)))) (omega arith))
