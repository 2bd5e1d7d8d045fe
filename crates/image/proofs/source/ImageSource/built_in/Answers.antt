use Rattle.std.proofs.Common.{◌≡◌, ℕ, zero, suc, ◌<◌, List, true, nat_lt, refl, arith}
use Rattle.std.specs.List.{list_all}
use Rattle.std.proofs.lemmas.Bool.{ltb-true}
use Rattle.std.proofs.lemmas.List.Sums.{AllPass-from_list_all}
use Rattle.blocks.specs.Numbers.{Bytes, plain_check, weighted_check}
use Rattle.blocks.specs.Blocks.{block_of, unused_fault}
use Rattle.blocks.specs.Tables.{record_of, record_at}
use Rattle.image_format.specs.Judge.{judge, node_block_fault, node_fault}
use Rattle.image_format.specs.Decode.{span_fault}
use Rattle.image.specs.declared.built_in.TheConstants.{BUILT_IN}
use Rattle.image.proofs.Marking.{unmarked}
use Rattle.image.proofs.source.ImageSource.built_in.Goals as goal

all_bytes : (s : List ℕ) → list_all (λ x. nat_lt x 256) s ≡ true → Bytes s
all_bytes s e i l = ltb-true _ _ (AllPass-from_list_all (λ x. nat_lt x 256) s e i 0 l)

pub invariant_of-result : goal.invariant_of-result
unfolding judge block_of record_of record_at unused_fault node_block_fault node_fault plain_check weighted_check
invariant_of-result c = record { sound = refl; bytes = all_bytes BUILT_IN refl; marked = λ k e. unmarked 477 k e }

at_zero : (P : ℕ → Type 0) → P 0 → (i : ℕ) → i < 1 → P i
at_zero P p zero h = p
at_zero P p (suc i) h = absurd (omega arith)

pub returns : goal.returns
unfolding block_of record_of record_at span_fault
returns c = record {
  nodes_same = refl;
  depot_same = refl;
  sink_same = refl;
  window_same = at_zero _ refl;
  row_same = at_zero _ refl;
}
