-- A loop that looks for the first fault: one step on, and the exit at a fault.
use Rattle.std.proofs.Common.{◌≡◌, ℕ, zero, suc, ◌+◌, ◌<◌, Bool, true, false, is_some, Some, None, Option, refl, ap, ◌∙◌, not-suc-le-zero, add-one, arith}
use Rattle.std.specs.Option.{option_or}
use Rattle.network.specs.First.{unless, first_of}

pub first_more : {X : Type 0} (f : ℕ → Option X) (i : ℕ) → first_of f i ≡ None → f i ≡ None → first_of f (i + 1) ≡ None
first_more f i e h = ap (first_of f) (add-one i) ∙ ap (λ o. option_or o (f i)) e ∙ h

pub first_here : {X : Type 0} (f : ℕ → Option X) (i n : ℕ) (x : X) → i < n → first_of f i ≡ None → f i ≡ Some x → first_of f n ≡ Some x
first_here f i zero x lt e h = absurd (not-suc-le-zero lt)
first_here f i (suc n) x lt e h = let r = first_here f i n x in grind arith

pub front : {X : Type 0} (o p : Option X) → option_or o p ≡ None → o ≡ None
front None p e = refl
front (Some x) p e = e

pub back : {X : Type 0} (o p : Option X) → option_or o p ≡ None → p ≡ None
back None p e = e
back (Some x) p e = cc

pub both : {X : Type 0} (o p : Option X) → o ≡ None → p ≡ None → option_or o p ≡ None
both o p e f = ap (λ x. option_or x p) e ∙ f

pub passes : {X : Type 0} (b : Bool) (x : X) → unless b x ≡ None → b ≡ true
passes true x e = refl
passes false x e = cc

pub none_from : {X : Type 0} (o : Option X) → is_some o ≡ false → o ≡ None
none_from None e = refl
none_from (Some x) e = cc

-- each passes where the whole does, and the whole where each does
pub first_each : {X : Type 0} (f : ℕ → Option X) (n : ℕ) → first_of f n ≡ None → (i : ℕ) → i < n → f i ≡ None
first_each f zero e i lt = absurd (not-suc-le-zero lt)
first_each f (suc n) e i lt =
    let r = first_each f n (front (first_of f n) (f n) e) i in
    let l = back (first_of f n) (f n) e in
    grind arith

pub first_none : {X : Type 0} (f : ℕ → Option X) (n : ℕ) → ((i : ℕ) → i < n → f i ≡ None) → first_of f n ≡ None
first_none f zero h = refl
first_none f (suc n) h = both (first_of f n) (f n) (first_none f n (λ i l. h i (omega arith))) (h n (omega arith))
