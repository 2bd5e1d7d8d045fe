-- Walking along legs by their numbers, and paths.
use Rattle.std.proofs.Common.{◌≡◌, ℕ, ◌+◌, ◌<◌, ◌≤◌, List, [], ◌∷◌, ◌++◌, length, take, drop, get_or, Some, None, Ok, Err, Option, Result, refl, sym, ap, ◌∙◌, ⊎_elim, arith, length-append}
use Rattle.std.specs.List.{slice_get}
use Rattle.std.specs.Option.{option_and_then, option_map}
use Rattle.std.specs.Result.{result_ok}
use Rattle.std.proofs.lemmas.Bool.{cases_lt}
use Rattle.std.proofs.lemmas.List.{take-append-drop, drop_more, take_more, take_all, map-append}
use Rattle.std.proofs.lemmas.Option.{slice_get-get_or, slice_get_past}
use Rattle.network.specs.Meaning.{Net, legs_at, no_leg}
use Rattle.network.specs.Lawful.{Lawful}
use Rattle.network.specs.declared.leg.Leg.{Leg}
use Rattle.network.specs.declared.fault.NetworkFault.{NetworkFault}
use Rattle.network.specs.Answers.{leg_answer}
use Rattle.network.specs.Refusals.{NetworkRefusal, told}
use Rattle.network.proofs.Facts.{leg_found}
use Rattle.network.proofs.Legs.{leg_tells}
use Rattle.labels.specs.Kinds.{Kind}
use Rattle.labels.specs.declared.step.Step.{Step}
use Rattle.std.specs.Result.{result_map_both}
use Rattle.paths.specs.Asking.{step_answer}
use Rattle.paths.specs.Paths.{Path, stay, go, origin, step_of, stop_at}
use Rattle.paths.specs.Walks.{legs_taken, PathBy, NoPathBy}
use Rattle.paths.specs.declared.stop.Stop.{Stop}
use Rattle.paths.proofs.Legs.{leg_lawful}

step_given : (N : Net) (a : Result Leg NetworkRefusal) (s : Step) → Ok s ≡ result_map_both (step_of N) (λ f. f) a → (g : Leg) × (Ok g ≡ a) × (s ≡ step_of N g)
step_given N (Ok g) s e = (g, refl, cc e)
step_given N (Err f) s e = cc

-- a step that was given is that along a leg of the row
step_tells : (N : Net) (i k : ℕ) (s : Step) → Ok s ≡ step_answer N i k → (g : Leg) × (slice_get (legs_at N i) k ≡ Some g) × (s ≡ step_of N g)
step_tells N i k s e =
    let t = step_given N (leg_answer N i k) s e in
    let u = leg_tells N i k t.0 t.1 in
    (t.0, slice_get-get_or (legs_at N i) k no_leg u.1 ∙ ap Some (sym u.2), t.2)

-- where no step was given, no leg stands
leg_missing : (N : Net) (i k : ℕ) (r : Result Step NetworkFault) → i < N.n → told r ≡ step_answer N i k → result_ok r ≡ None → slice_get (legs_at N i) k ≡ None
leg_missing N i k (Ok s) h e o = cc
leg_missing N i k (Err f) h e o =
    ⊎_elim
    (λ (q : k < length (legs_at N i)). let w = e ∙ ap (result_map_both (step_of N) (λ f. f)) (leg_found N i k h q) in cc)
    (λ (q : length (legs_at N i) ≤ k). slice_get_past (legs_at N i) k q)
    (cases_lt k (length (legs_at N i)))

-- what a call gave is what it was told
pub given : (r : Result Step NetworkFault) {a : Result Step NetworkRefusal} {s : Step} → told r ≡ a → result_ok r ≡ Some s → Ok s ≡ a
given (Ok x) {s = s} e o = let q : x ≡ s = cc o in ap Ok (sym q) ∙ e
given (Err f) e o = cc

none_some : {X : Type 0} {x : X} → None ≡ Some x → ⊥
none_some e = let z : ◌≡◌ {A = ℕ} 0 1 = cc in omega arith

module _ {L : Type 0} (N : Net) (K : Kind L) where
  -- along leg k of node i with label l
  abbrev step_on : ℕ → L → ℕ → Option (ℕ × L)
  step_on i l k = option_and_then (λ (g : Leg). option_map (λ (x : L). (g.head, x)) (K.extend l (step_of N g))) (slice_get (legs_at N i) k)

  -- along many
  abbrev walked : ℕ → L → List ℕ → Option (ℕ × L)
  walked i l [] = Some (i, l)
  walked i l (k ∷ ks) = option_and_then (λ (p : ℕ × L). walked p.0 p.1 ks) (step_on i l k)

  abbrev onward : List ℕ → Option (ℕ × L) → Option (ℕ × L)
  onward ks o = option_and_then (λ (p : ℕ × L). walked p.0 p.1 ks) o

  through : (ks ys : List ℕ) → ((p : ℕ × L) → walked p.0 p.1 (ks ++ ys) ≡ onward ys (walked p.0 p.1 ks)) → (o : Option (ℕ × L)) → onward (ks ++ ys) o ≡ onward ys (onward ks o)
  through ks ys h None = refl
  through ks ys h (Some p) = h p

  walked-append : (i : ℕ) (l : L) (xs ys : List ℕ) → walked i l (xs ++ ys) ≡ onward ys (walked i l xs)
  walked-append i l [] ys = refl
  walked-append i l (k ∷ ks) ys = through ks ys (λ p. walked-append p.0 p.1 ks ys) (step_on i l k)

  goes : (i : ℕ) (l : L) (k : ℕ) (g : Leg) (x : L) → slice_get (legs_at N i) k ≡ Some g → K.extend l (step_of N g) ≡ Some x → step_on i l k ≡ Some (g.head, x)
  goes i l k g x e f = simp (e, f)

  -- a path has a first stop; one stop more is one leg more
  some_stop : {stops : List Stop} {j : ℕ} {l : L} → Path N K stops j l → 0 < length stops
  some_stop stay = omega arith
  some_stop (go {stops = stops} {l' = x} {g = g} k p e f) = let n = length-append stops (stop_at g.head k (K.time x) ∷ []) in omega arith

  one_more : (stops : List Stop) (s : Stop) → 0 < length stops → legs_taken (stops ++ (s ∷ [])) ≡ legs_taken stops ++ (s.leg ∷ [])
  one_more [] s h = absurd (omega arith)
  one_more (x ∷ xs) s h = map-append (λ (y : Stop). y.leg) xs (s ∷ [])

  -- a path is walked
  path-walked : {stops : List Stop} {j : ℕ} {l : L} → Path N K stops j l → walked N.depot (origin N K) (legs_taken stops) ≡ Some (j, l)
  path-walked stay = refl
  path-walked (go {stops = stops} {i = i} {l = l} {l' = x} {g = g} k p e f) =
      ap (walked N.depot (origin N K)) (one_more stops _ (some_stop p))
      ∙ walked-append N.depot (origin N K) (legs_taken stops) (k ∷ [])
      ∙ ap (onward (k ∷ [])) (path-walked p)
      ∙ ap (onward []) (goes i l k g x e f)

  -- no legs
  pub standing_still : (d : ℕ) (l : L) → d ≡ N.depot → l ≡ origin N K → PathBy N K [] d l
  standing_still d l e f = rw (e, f) (record { stops = _; path = stay; by = refl })

  -- a path ends at a node of the network
  arrives_in : Lawful N → {stops : List Stop} {j : ℕ} {l : L} → Path N K stops j l → j < N.n
  arrives_in law stay = law.depot_in
  arrives_in law (go {i = i} {g = g} k p e f) = (leg_lawful N law i (arrives_in law p) k g e).head_in

  -- where the first n legs lead, and along one more
  pub gone_on : (legs : List ℕ) (n i : ℕ) (l : L) (s : Step) (x : L) → n < length legs → PathBy N K (take n legs) i l → Ok s ≡ step_answer N i (get_or legs n 0) → K.extend l s ≡ Some x → PathBy N K (take (n + 1) legs) s.head x
  gone_on legs n i l s x h p e f =
      let t = step_tells N i (get_or legs n 0) s e in
      rw t.2 (record {
        stops = _;
        path = go (get_or legs n 0) p.path t.1 (sym (ap (K.extend l) t.2) ∙ f);
        by = one_more p.stops _ (some_stop p.path) ∙ ap (λ z. z ++ (get_or legs n 0 ∷ [])) p.by ∙ sym (take_more legs n 0 h);
      })

  pub all_legs : (legs : List ℕ) (n i : ℕ) (l : L) → length legs ≤ n → PathBy N K (take n legs) i l → PathBy N K legs i l
  all_legs legs n i l h p = record { stops = p.stops; path = p.path; by = p.by ∙ take_all n legs h }

  -- a leg that is missing, or along which the label does not go on, leaves no path
  stuck : (legs : List ℕ) (n i : ℕ) (l : L) → n < length legs → PathBy N K (take n legs) i l → step_on i l (get_or legs n 0) ≡ None → NoPathBy N K legs
  stuck legs n i l h p e j x q =
      let a : walked N.depot (origin N K) legs ≡ Some (j, x) = ap (walked N.depot (origin N K)) (sym q.by) ∙ path-walked q.path in
      let b : walked N.depot (origin N K) (take n legs) ≡ Some (i, l) = ap (walked N.depot (origin N K)) (sym p.by) ∙ path-walked p.path in
      let c : walked N.depot (origin N K) legs ≡ None =
      ap (walked N.depot (origin N K)) (sym (take-append-drop n legs))
      ∙ walked-append N.depot (origin N K) (take n legs) (drop n legs)
      ∙ ap (onward (drop n legs)) b
      ∙ ap (walked i l) (drop_more legs n 0 h)
      ∙ ap (onward (drop (n + 1) legs)) e in
      absurd (none_some (sym c ∙ a))

  pub no_leg_there : (legs : List ℕ) (n i : ℕ) (l : L) (r : Result Step NetworkFault) → Lawful N → n < length legs → PathBy N K (take n legs) i l → told r ≡ step_answer N i (get_or legs n 0) → result_ok r ≡ None → NoPathBy N K legs
  no_leg_there legs n i l r law h p e o =
      stuck legs n i l h p (ap (option_and_then (λ (g : Leg). option_map (λ (x : L). (g.head, x)) (K.extend l (step_of N g)))) (leg_missing N i (get_or legs n 0) r (arrives_in law p.path) e o))

  pub leads_outside : (legs : List ℕ) (n i : ℕ) (l : L) (s : Step) → n < length legs → PathBy N K (take n legs) i l → Ok s ≡ step_answer N i (get_or legs n 0) → K.extend l s ≡ None → NoPathBy N K legs
  leads_outside legs n i l s h p e f =
      let t = step_tells N i (get_or legs n 0) s e in
      stuck legs n i l h p (simp (t.1, sym (ap (K.extend l) t.2) ∙ f))
