-- What a write tells in the words of networks.
use Rattle.std.proofs.Common.{◌≡◌, ℕ, ◌<◌, ◌≤◌, true, leb, List, length, get_or, take, drop, nat_abs, is_ok, IfOk, Some, None, Ok, Err, Option, Result, sym, refl, ap, ◌∙◌, subst, arith}
use Rattle.std.specs.Option.{option_map, option_or}
use Rattle.std.proofs.lemmas.List.{take_at}
use Rattle.std.proofs.lemmas.List.Elements.{All-from_get_or}
use Rattle.std.proofs.lemmas.List.Sums.{AllPass-from_list_all, list_all-from_AllPass}
use Rattle.std.proofs.lemmas.Bool.{leb-true, le-leb, lt-leb, true≢false}
use Rattle.network.specs.First.{unless, first_of}
use Rattle.network.specs.Meaning.{Net, Same, fault_in, legs_at, no_leg}
use Rattle.network.specs.Lawful.{Lawful}
use Rattle.network.specs.Refusals.{NetworkRefusal, unreadable}
use Rattle.network.specs.declared.leg.Leg.{Leg}
use Rattle.network.proofs.Firsts.{front, back, both, passes, first_each, first_none}
use Rattle.image_format.specs.Layout.{most_cost}
use Rattle.image_format.specs.Judge.{judge}
use Rattle.image_format.specs.Decode.{image_net}
use Rattle.image_format.specs.Encode.{encoded, encoded_size, leg_count}
use Rattle.image_format.specs.RoundTrip.{Readable, Holdable, ReadBack}
use Rattle.image_format.proofs.Back.{written_is_read_lem, encoded_long}
use Rattle.image_writer.specs.Write.{cost_too_large, no_room, holds_leg, holds_legs, unread_at, dear_at, write_fault, answer_by, bytes_by, count_answer, write_answer, written, told_write}
use Rattle.image_writer.specs.Promise.{CopyOf, WrittenWhen}
use Rattle.image_writer.specs.declared.fault.WriteFault.{WriteFault}
use Rattle.image_writer.specs.declared.fault.WriteFault.TheVariants.{NoRoom}
use Rattle.blocks.specs.Over.{over}
use Rattle.blocks.proofs.Overs.{over_front}
use Rattle.image_writer.proofs.Steps.{unmapped, answer_tells, refusal_is}

holds_each : (ls : List Leg) → holds_legs ls ≡ true → (k : ℕ) → k < length ls → nat_abs (get_or ls k no_leg).cost ≤ most_cost
holds_each ls e k h = leb-true _ _ (AllPass-from_list_all holds_leg ls e k no_leg h)

pub readable : (N : Net) (room : ℕ) → write_fault N room ≡ None → Readable N
unfolding write_fault
readable N room e i h = unmapped (unreadable i) (fault_in (N.row i)) (first_each (unread_at N) N.n (front _ _ e) i h)

pub holdable : (N : Net) (room : ℕ) → write_fault N room ≡ None → Holdable N
unfolding write_fault
holdable N room e i h =
    let d = back _ _ e in
    holds_each (legs_at N i) (passes _ _ (first_each (dear_at N) N.n (front _ _ d) i h))

-- the bytes of a write that gave k
pub sure : (N : Net) (d out : List ℕ) (k : ℕ) → Ok k ≡ write_answer N d → out ≡ written N d → (write_fault N (length d) ≡ None) × (take k out ≡ encoded N)
sure N d out k a o =
    let t = answer_tells (write_fault N (length d)) k (encoded_size N) a in
    let l : length (encoded N) ≡ k = encoded_long N ∙ sym t.1 in
    (t.0, ap (take k) (o ∙ ap (λ z. bytes_by z (encoded N) d) t.0) ∙ take_at (encoded N) (drop (length (encoded N)) d) k l)

pub back_sure : (N : Net) (d out : List ℕ) (k : ℕ) → Lawful N → Ok k ≡ write_answer N d → out ≡ written N d → CopyOf N (take k out)
back_sure N d out k w a o =
    let t = sure N d out k a o in
    let r : ReadBack N = written_is_read_lem N w (readable N (length d) t.0) (holdable N (length d) t.0) in
    record { opens = ap judge t.1 ∙ r.opens; same = subst (λ (z : List ℕ). Same (image_net z) N) (sym t.1) r.same }

-- over the result of a call
pub copy_made : (N : Net) (d out : List ℕ) (r : Result ℕ WriteFault) → Lawful N → told_write r ≡ write_answer N d → out ≡ written N d → IfOk r (λ k. CopyOf N (take k out))
copy_made N d out (Ok k) w a o = back_sure N d out k w a o
copy_made N d out (Err e) w a o = tt

-- and when it is not refused
pub holds_all : (ls : List Leg) → ((k : ℕ) → k < length ls → nat_abs (get_or ls k no_leg).cost ≤ most_cost) → holds_legs ls ≡ true
holds_all ls h = list_all-from_AllPass holds_leg ls (All-from_get_or (λ l. holds_leg l ≡ true) ls no_leg (λ k q. le-leb _ _ (h k q)))

pub accepts : (N : Net) (room : ℕ) → Readable N → Holdable N → encoded_size N ≤ room → write_fault N room ≡ None
unfolding write_fault
accepts N room r c h =
    both _ _ (first_none (unread_at N) N.n (λ i l. ap (option_map (unreadable i)) (r i l)))
    (both _ _ (first_none (dear_at N) N.n (λ i l. ap (λ b. unless b (cost_too_large i)) (holds_all (legs_at N i) (c i l))))
    (ap (λ b. unless b no_room) (le-leb (encoded_size N) room h)))

room_enough : (N : Net) (room : ℕ) → write_fault N room ≡ None → encoded_size N ≤ room
unfolding write_fault
room_enough N room e =
    let last : Option NetworkRefusal = unless (leb (encoded_size N) room) no_room in
    let a = back (first_of (unread_at N) N.n) (option_or (first_of (dear_at N) N.n) last) e in
    leb-true (encoded_size N) room (passes (leb (encoded_size N) room) no_room (back (first_of (dear_at N) N.n) last a))

granted : (N : Net) (d : List ℕ) (r : Result ℕ WriteFault) → told_write r ≡ write_answer N d → is_ok r ≡ true → write_fault N (length d) ≡ None
granted N d (Ok k) a t = (answer_tells (write_fault N (length d)) k (encoded_size N) a).0
granted N d (Err e) a t = absurd (true≢false (sym t))

ok_of : (N : Net) (d : List ℕ) (r : Result ℕ WriteFault) → told_write r ≡ write_answer N d → write_fault N (length d) ≡ None → is_ok r ≡ true
ok_of N d (Ok k) a e = refl
ok_of N d (Err x) a e = let q = a ∙ ap (λ o. answer_by o (encoded_size N)) e in let z : ◌≡◌ {A = ℕ} 0 1 = cc in absurd (omega arith)

pub when : (N : Net) (d : List ℕ) (r : Result ℕ WriteFault) → told_write r ≡ write_answer N d → WrittenWhen N (length d) (is_ok r)
when N d r a = record {
  only = λ t. let e = granted N d r a t in (readable N (length d) e, holdable N (length d) e, room_enough N (length d) e);
  always = λ p q h. ok_of N d r a (accepts N (length d) p q h);
}

-- ---- the outcomes of a write
pub record Outcome (N : Net) (d : List ℕ) (r : Result ℕ WriteFault) (out : List ℕ) : Type 0 where
  pub answer : told_write r ≡ write_answer N d
  pub bytes : out ≡ written N d
  pub copy : IfOk r (λ k. CopyOf N (take k out))
  pub when : WrittenWhen N (length d) (is_ok r)

-- the fault once a row is not read, once all are, and once every cost holds too
module _ (N : Net) (room : ℕ) where
  pub unread_first : (x : NetworkRefusal) → first_of (unread_at N) N.n ≡ Some x → write_fault N room ≡ Some x
  unfolding write_fault
  unread_first x u = ap (λ o. option_or o (option_or (first_of (dear_at N) N.n) (unless (leb (encoded_size N) room) no_room))) u

  pub costs_next : first_of (unread_at N) N.n ≡ None → write_fault N room ≡ option_or (first_of (dear_at N) N.n) (unless (leb (encoded_size N) room) no_room)
  unfolding write_fault
  costs_next u = ap (λ o. option_or o (option_or (first_of (dear_at N) N.n) (unless (leb (encoded_size N) room) no_room))) u

  pub room_next : first_of (unread_at N) N.n ≡ None → first_of (dear_at N) N.n ≡ None → write_fault N room ≡ unless (leb (encoded_size N) room) no_room
  room_next u e = costs_next u ∙ ap (λ o. option_or o (unless (leb (encoded_size N) room) no_room)) e

module _ (N : Net) (d : List ℕ) (w : Lawful N) where
  promised : (r : Result ℕ WriteFault) (out : List ℕ) → told_write r ≡ write_answer N d → out ≡ written N d → Outcome N d r out
  promised r out a o = record { answer = a; bytes = o; copy = copy_made N d out r w a o; when = when N d r a }

  refused : (r : Result ℕ WriteFault) (x : NetworkRefusal) → told_write r ≡ Err x → write_fault N (length d) ≡ Some x → Outcome N d r d
  refused r x t e = promised r d (t ∙ sym (ap (λ o. answer_by o (encoded_size N)) e)) (sym (ap (λ o. bytes_by o (encoded N) d) e))

  pub unread : (r : Result ℕ WriteFault) (x : NetworkRefusal) → told_write r ≡ Err x → Err x ≡ count_answer N → Outcome N d r d
  unread r x t e = refused r x t (unread_first N (length d) x (refusal_is (first_of (unread_at N) N.n) x (leg_count N) e))

  module _ (u : first_of (unread_at N) N.n ≡ None) where
    pub dear : (r : Result ℕ WriteFault) (x : NetworkRefusal) → told_write r ≡ Err x → Some x ≡ first_of (dear_at N) N.n → Outcome N d r d
    dear r x t e = refused r x t (costs_next N (length d) u ∙ ap (λ o. option_or o (unless (leb (encoded_size N) (length d)) no_room)) (sym e))

    module _ (e : None ≡ first_of (dear_at N) N.n) where
      pub short : length d < encoded_size N → Outcome N d (Err NoRoom) d
      short h = refused (Err NoRoom) no_room refl (room_next N (length d) u (sym e) ∙ ap (λ b. unless b no_room) (lt-leb (encoded_size N) (length d) h))

      pub done : (out : List ℕ) (size : ℕ) → encoded_size N ≤ length d → size ≡ encoded_size N → out ≡ over d 0 (encoded N) → Outcome N d (Ok size) out
      done out size h s o =
          let f : write_fault N (length d) ≡ None = room_next N (length d) u (sym e) ∙ ap (λ b. unless b no_room) (le-leb (encoded_size N) (length d) h) in
          promised (Ok size) out (ap Ok s ∙ sym (ap (λ z. answer_by z (encoded_size N)) f))
          (o ∙ over_front d (encoded N) ∙ sym (ap (λ z. bytes_by z (encoded N) d) f))
