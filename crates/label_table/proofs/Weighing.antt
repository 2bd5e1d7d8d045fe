-- What comes of going along one leg more.
use Rattle.std.proofs.Common.{◌≡◌, ℕ, ◌+◌, ◌<◌, ◌≤◌, List, ◌∷◌, length, get_or, take, drop, Some, Ok, Err, Option, Result, sym, ◌∙◌, add-one, arith}
use Rattle.std.proofs.lemmas.Bool.Decides.{nat_tests}
use Rattle.std.proofs.Math.Seq.{drop-cons}
use Rattle.std.proofs.lemmas.List.{get_or-take, length-take}
use Rattle.std.specs.Result.{result_map_both}
use Rattle.agendas.specs.Bags.{PutSays}
use Rattle.agendas.specs.declared.fault.AgendaFault.{AgendaFault}
use Rattle.network.specs.Meaning.{Net, legs_at, no_leg}
use Rattle.network.specs.declared.leg.Leg.{Leg}
use Rattle.labels.specs.Kinds.{Kind}
use Rattle.label_table.specs.declared.table.Departure.{Departure}
use Rattle.label_table.specs.declared.table.LabelTable.{LabelTable}
use Rattle.label_table.specs.declared.row.Row.{Row}
use Rattle.label_table.specs.Refusals.{RunRefusal}
use Rattle.label_table.specs.Considering.{Joined, EntersMore, Verdict, added, considered, row_along, along, along_row}

-- an entry that was put waits
pub put_joined : {F : Type 0} {less more : List ℕ} {e e' : ℕ} {u : Unit {0}} (f : AgendaFault → F) (limit : ℕ) (r : Result (Unit {0}) AgendaFault) → result_map_both (λ x. x) f r ≡ Ok u → PutSays r less more limit e → e' ≡ e + 1 → Joined less more e e'
put_joined f limit (Ok u) q (room, o) h = record {
  counts = λ x. let one = o.counts x in grind (arith, nat_tests);
  len = omega arith;
}
put_joined f limit (Err a) q says h = cc

-- one after the other
pub more_still : {L : Type 0} {x y z : LabelTable L} {xs ys zs : List ℕ} → EntersMore x y xs ys → EntersMore y z ys zs → EntersMore x z xs zs
more_still p q = record {
  same_reference = q.same_reference ∙ p.same_reference;
  len = q.len ∙ p.len;
  least = omega arith;
  puts = record {
    counts = λ n. let u = p.puts.counts n in let v = q.puts.counts n in grind (arith, nat_tests);
    len = omega arith;
  };
}

-- the first of the legs that are left
next_of : (legs : List Leg) (k end : ℕ) → k < end → end ≤ length legs → drop k (take end legs) ≡ get_or legs k no_leg ∷ drop (k + 1) (take end legs)
next_of legs k end h n =
    let q : k < length (take end legs) = omega (arith, length-take end legs) in
    rw (add-one, drop-cons (take end legs) k no_leg, get_or-take)

-- t comes of the legs that are left, from the k-th up to before end
pub record Left {L : Type 0} (N : Net) (K : Kind L) (room : ℕ) (d : Departure L) (end k e held : ℕ) (rows : List (Row L)) (t : ℕ × Option RunRefusal × List (Row L)) : Type 0 where
  pub is : t ≡ along_row N K room d k end e held rows

-- along one leg more
module _ {L : Type 0} {N : Net} {K : Kind L} {room : ℕ} {d : Departure L} {k end : ℕ} {e held : ℕ} {row : Row L} {rows rows' : List (Row L)} {t : ℕ × Option RunRefusal × List (Row L)} where
  pub next_leg : Left N K room d end k e held rows t → k < end → end ≤ length (legs_at N d.node) → Some row ≡ row_along N K d k (get_or (legs_at N d.node) k no_leg) → {k' e' held' : ℕ} (v : Verdict) → considered K room e held row rows ≡ (Ok v, rows') → k + 1 ≡ k' → e + added v ≡ e' → held + added v ≡ held' → Left N K room d end k' e' held' rows' t
  next_leg r h n x v w o p q = record { is = r.is ∙ rw (next_of (legs_at N d.node) k end h n, along, ← x, w, ← x, w, o, p, q) }

  pub last_leg : Left N K room d end k e held rows t → k < end → end ≤ length (legs_at N d.node) → Some row ≡ row_along N K d k (get_or (legs_at N d.node) k no_leg) → (f : RunRefusal) → considered K room e held row rows ≡ (Err f, rows') → (e, Some f, rows') ≡ t
  last_leg r h n x f w = sym (r.is ∙ rw (next_of (legs_at N d.node) k end h n, along, ← x, w, ← x, w))
