-- A layer is lawful where no row grows and each leg stays lawful.
use Rattle.std.specs.Prelude.{ℕ, zero, suc, ◌≤◌, List, length}
use Rattle.std.proofs.Common.{arith, length-append}
use Rattle.std.specs.List.{AllByRecursion}
use Rattle.std.proofs.ByRecursion.{All-get_or, All-from_get_or}
use Rattle.network.specs.Lawful.{Lawful, LawfulLeg}
use Rattle.network.specs.Limits.{most_reach}
use Rattle.network.specs.Meaning.{Net, Row, legs_row, unreadable_row, legs_of, legs_at, no_leg}
use Rattle.network.specs.Pile.{pile}
use Rattle.network.specs.declared.leg.Leg.{Leg}
use Rattle.layers.specs.Layer.{on_legs, layered}

pile_shrinks : (f g : ℕ → List Leg) (n : ℕ) → ((i : ℕ) → length (f i) ≤ length (g i)) → length (pile f n) ≤ length (pile g n)
pile_shrinks f g zero h = omega arith
pile_shrinks f g (suc n) h =
    let a = pile_shrinks f g n h in
    let b = h n in
    let p = length-append (pile f n) (f n) in
    let q = length-append (pile g n) (g n) in
    omega arith

row_shrinks : (f : List Leg → List Leg) (row : Row) → ((ls : List Leg) → length (f ls) ≤ length ls) → length (legs_of (on_legs f row)) ≤ length (legs_of row)
row_shrinks f (legs_row ls) h = h ls
row_shrinks f (unreadable_row e) h = omega arith

row_keeps : (f : List Leg → List Leg) (row : Row) (P Q : Leg → Type 0) → ((ls : List Leg) → AllByRecursion P ls → AllByRecursion Q (f ls)) → AllByRecursion P (legs_of row) → AllByRecursion Q (legs_of (on_legs f row))
row_keeps f (legs_row ls) P Q h all = h ls all
row_keeps f (unreadable_row e) P Q h all = tt

pub layered_lawful : (f : ℕ → List Leg → List Leg) (reach : ℕ) (m : Net) → reach ≤ most_reach → ((i : ℕ) (ls : List Leg) → length (f i ls) ≤ length ls) → ((i : ℕ) (ls : List Leg) → AllByRecursion (LawfulLeg m.n m.reach) ls → AllByRecursion (LawfulLeg m.n reach) (f i ls)) → Lawful m → Lawful (layered f reach m)
layered_lawful f reach m near shrinks keeps h = record {
  some = h.some;
  many = h.many;
  depot_in = h.depot_in;
  sink_in = h.sink_in;
  near = near;
  few =
      let a = h.few in
      let b = pile_shrinks (legs_at (layered f reach m)) (legs_at m) m.n (λ i. row_shrinks (f i) (m.row i) (shrinks i)) in
      omega arith;
  windows = h.windows;
  rows = λ i w k l.
      All-get_or (LawfulLeg m.n reach) (legs_at (layered f reach m) i) k no_leg l
      (row_keeps (f i) (m.row i) (LawfulLeg m.n m.reach) (LawfulLeg m.n reach) (keeps i) (All-from_get_or (LawfulLeg m.n m.reach) (legs_at m i) no_leg (h.rows i w)));
}
