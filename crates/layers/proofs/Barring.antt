-- What a row answers without its barred legs.
use Rattle.std.proofs.Common.{◌≡◌, ℕ, zero, suc, ◌+◌, ◌<◌, Bool, true, false, cond, not, eqb, ltb, List, [], ◌∷◌, ◌++◌, length, take, drop, get_or, Some, None, Ok, Err, filter, Option, Result, sym, refl, ap, ◌∙◌, arith}
use Rattle.std.specs.List.{slice_get}
use Rattle.std.specs.Option.{ok_or}
use Rattle.std.proofs.lemmas.Bool.Decides.{nat_tests}
use Rattle.std.proofs.lemmas.Bool.{cond-true, cond-false, or_parts, or_from, and_left}
use Rattle.std.proofs.lemmas.List.{take_all, length-append, append-nil}
use Rattle.std.proofs.lemmas.List.Elements.{filter-append}
use Rattle.std.proofs.lemmas.Option.{gets}
use Rattle.network.specs.Answers.{if_node, length_answer, leg_answer, row_length, row_leg}
use Rattle.network.specs.Meaning.{Net, Row, legs_row, unreadable_row, legs_of, legs_left}
use Rattle.network.specs.Refusals.{NetworkRefusal, no_node, no_such_leg, told}
use Rattle.network.specs.declared.fault.NetworkFault.{NetworkFault}
use Rattle.network.specs.declared.fault.NetworkFault.TheVariants.{NoLeg}
use Rattle.network.specs.declared.leg.Leg.{Leg}
use Rattle.layers.specs.Bars.{Pairs, is_pair, is_barred, bars_from, stays, barred}
use Rattle.layers.specs.Layer.{on_legs}

-- a row that no pair leaves is as below
not_barred : (ps : Pairs) (i j : ℕ) → bars_from ps i ≡ false → is_barred ps i j ≡ false
not_barred [] i j e = refl
not_barred (p ∷ ps) i j e =
    let h = or_parts (eqb p.0 i) (bars_from ps i) e in
    or_from (is_pair p i j) (is_barred ps i j) (and_left (eqb p.0 i) (eqb p.1 j) h.0) (not_barred ps i j h.1)

kept_all : (test : Leg → Bool) (ls : List Leg) → ((l : Leg) → test l ≡ true) → filter test ls ≡ ls
kept_all test [] h = refl
kept_all test (l ∷ ls) h = cond-true (test l) _ _ (h l) ∙ ap (λ (x : List Leg). l ∷ x) (kept_all test ls h)

row_unbarred : (test : Leg → Bool) (row : Row) → ((l : Leg) → test l ≡ true) → on_legs (filter test) row ≡ row
row_unbarred test (legs_row ls) h = ap legs_row (kept_all test ls h)
row_unbarred test (unreadable_row e) h = refl

unbarred : (m : Net) (ps : Pairs) (i : ℕ) → false ≡ bars_from ps i → m.row i ≡ (barred ps m).row i
unbarred m ps i e = sym (row_unbarred (stays ps i) (m.row i) (λ l. ap not (not_barred ps i l.head (sym e))))

pub length_below : (m : Net) (ps : Pairs) (i : ℕ) (a : Result ℕ NetworkRefusal) → false ≡ bars_from ps i → a ≡ length_answer m i → a ≡ length_answer (barred ps m) i
length_below m ps i a h e = e ∙ ap (λ (row : Row). if_node m i (row_length i row)) (unbarred m ps i h)

pub leg_below : (m : Net) (ps : Pairs) (i k : ℕ) (a : Result Leg NetworkRefusal) → false ≡ bars_from ps i → a ≡ leg_answer m i k → a ≡ leg_answer (barred ps m) i k
leg_below m ps i k a h e = e ∙ ap (λ (row : Row). if_node m i (row_leg i k row)) (unbarred m ps i h)

-- as many legs as a row has are all of them
all_taken : (i len : ℕ) (b : Bool) (row : Row) → Ok len ≡ cond b (row_length i row) (Err (no_node i)) → take len (cond b (drop 0 (legs_of row)) []) ≡ cond b (drop 0 (legs_of row)) []
all_taken i len true (legs_row ls) e = grind (arith, take_all)
all_taken i len true (unreadable_row x) e = grind (arith, take_all)
all_taken i len false row e = grind (arith, take_all)

pub row_taken : (m : Net) (i len : ℕ) → Ok len ≡ length_answer m i → take len (legs_left m i 0) ≡ legs_left m i 0
row_taken m i len e = all_taken i len (ltb i m.n) (m.row i) e

-- the leg at a place of a row that can be read, or that there is none
leg_got : (i k : ℕ) (ls : List Leg) → ok_or (slice_get ls k) (no_such_leg i) ≡ row_leg i k (legs_row ls)
leg_got i k ls = grind (arith, nat_tests, gets)

-- the same of a node whose row was measured
node_got : (f : List Leg → List Leg) (i k len : ℕ) (b : Bool) (row : Row) → Ok len ≡ cond b (row_length i row) (Err (no_node i)) → ok_or (slice_get (f (cond b (drop 0 (legs_of row)) [])) k) (no_such_leg i) ≡ cond b (row_leg i k (on_legs f row)) (Err (no_node i))
node_got f i k len true (legs_row ls) e = leg_got i k (f ls)
node_got f i k len true (unreadable_row x) e = cc
node_got f i k len false row e = cc

told_leg : (i : ℕ) (o : Option Leg) → told (ok_or o (NoLeg i)) ≡ ok_or o (no_such_leg i)
told_leg i None = refl
told_leg i (Some l) = refl

pub leg_picked : (m : Net) (ps : Pairs) (i k len : ℕ) (o : Option Leg) (r : Result Leg NetworkFault) → Ok len ≡ length_answer m i → r ≡ ok_or o (NoLeg i) → o ≡ slice_get (filter (stays ps i) (legs_left m i 0)) k → told r ≡ leg_answer (barred ps m) i k
leg_picked m ps i k len o r e t h =
    ap told t ∙ told_leg i o ∙ ap (λ (o : Option Leg). ok_or o (no_such_leg i)) h ∙ node_got (filter (stays ps i)) i k len (ltb i m.n) (m.row i) e

-- how many legs stay of a node whose row was measured
node_counted : (f : List Leg → List Leg) (i len n : ℕ) (b : Bool) (row : Row) → Ok len ≡ cond b (row_length i row) (Err (no_node i)) → n ≡ length (f (cond b (drop 0 (legs_of row)) [])) → Ok n ≡ cond b (row_length i (on_legs f row)) (Err (no_node i))
node_counted f i len n true (legs_row ls) e h = ap Ok h
node_counted f i len n true (unreadable_row x) e h = cc
node_counted f i len n false row e h = cc

pub length_counted : (m : Net) (ps : Pairs) (i len n : ℕ) → Ok len ≡ length_answer m i → n ≡ length (filter (stays ps i) (legs_left m i 0)) → Ok n ≡ length_answer (barred ps m) i
length_counted m ps i len n e h = node_counted (filter (stays ps i)) i len n (ltb i m.n) (m.row i) e h

-- one leg more that stays, and one that doesn't
pub one_stays : (test : Leg → Bool) (xs : List Leg) (x : Leg) → test x ≡ true → length (filter test (xs ++ x ∷ [])) ≡ length (filter test xs) + 1
one_stays test xs x h = ap length (filter-append test xs (x ∷ []) ∙ ap (λ (ys : List Leg). filter test xs ++ ys) (cond-true (test x) (x ∷ []) [] h)) ∙ length-append (filter test xs) (x ∷ [])

pub one_goes : (test : Leg → Bool) (xs : List Leg) (x : Leg) → test x ≡ false → length (filter test (xs ++ x ∷ [])) ≡ length (filter test xs)
one_goes test xs x h = ap length (filter-append test xs (x ∷ []) ∙ ap (λ (ys : List Leg). filter test xs ++ ys) (cond-false (test x) (x ∷ []) [] h) ∙ append-nil (filter test xs))

-- a leg that stays stands behind those that stay before it
pub picked : (test : Leg → Bool) (all : List Leg) (n : ℕ) (x : Leg) → n < length all → x ≡ get_or all n x → test x ≡ true → Some x ≡ slice_get (filter test all) (length (filter test (take n all)))
picked test [] n x h e t = absurd (omega arith)
picked test (a ∷ rest) zero x h e t = ap Some e ∙ ap (λ (ls : List Leg). slice_get ls 0) (sym (cond-true (test a) (a ∷ filter test rest) (filter test rest) (ap test (sym e) ∙ t)))
picked test (a ∷ rest) (suc n) x h e t = by_head (test a) (picked test rest n x (omega arith) e t)
  where
    by_head : (b : Bool) → Some x ≡ slice_get (filter test rest) (length (filter test (take n rest))) → Some x ≡ slice_get (cond b (a ∷ filter test rest) (filter test rest)) (length (cond b (a ∷ filter test (take n rest)) (filter test (take n rest))))
    by_head true r = r
    by_head false r = r

pub none_left : (fs : List Leg) (k left : ℕ) → length fs + left ≡ k → None ≡ slice_get fs k
none_left fs k left e = grind (arith, nat_tests, gets)
