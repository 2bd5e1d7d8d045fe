-- The laws of labels that count legs: those of the plain label, and those of counting.
use Rattle.std.specs.Prelude.{◌≡◌, ℕ, ◌+◌, ◌<◌, Bool, true, false, cond, Some, None, Option, nat_lt, refl}
use Rattle.std.proofs.Common.{subst, arith}
use Rattle.std.specs.Option.{option_map}
use Rattle.std.proofs.lemmas.Bool.{and_parts}
use Rattle.std.proofs.lemmas.Bool.Decides.{nat_tests}
use Rattle.labels.specs.Kinds.{Laws, Grown, GoesOn, inside}
use Rattle.labels.specs.Steps.{LawfulStep}
use Rattle.labels.specs.Plains.{plain_extend}
use Rattle.labels.specs.PlainsLemmas.{plain_laws}
use Rattle.labels.specs.declared.plain.Plain.{Plain}
use Rattle.labels.specs.declared.step.Step.{Step}
use Rattle.own_parts.specs.Hops.{hops_label, hops_extend, hops_covers, hops_kind}
use Rattle.own_parts.specs.declared.hops.Hops.{Hops}

module _ (most : ℕ) where
  -- the plain label went on, as one more leg is allowed
  record Went (few : Bool) (extended : Option Plain) (next : Plain → Hops most) (y : Hops most) : Type 0 where
    allowed : few ≡ true
    further : Plain
    goes : extended ≡ Some further
    is : next further ≡ y

  went : (b : Bool) (o : Option Plain) (f : Plain → Hops most) (y : Hops most) → cond b (option_map f o) None ≡ Some y → Went b o f y
  went false o f y e = grind arith
  went true None f y e = grind arith
  went true (Some p) f y e = record { allowed = refl; further = p; goes = refl; is = grind arith }

  still : (x y : Hops most) (s : Step) (y' : Hops most) → inside x.plain.time x.plain.cost ≡ true → inside y.plain.time y.plain.cost ≡ true → LawfulStep s → hops_covers x y ≡ true → hops_extend most y s ≡ Some y' → GoesOn (hops_kind most) x s y'
  still x y s y' i j l v e =
      let w = went (nat_lt y.legs most) (plain_extend y.plain s) (hops_label (y.legs + 1)) y' e in
      let c = and_parts _ _ v in
      let g = plain_laws.still x.plain y.plain s w.further i j l c.0 w.goes in
      let few : nat_lt x.legs most ≡ true = grind (arith, nat_tests, w.allowed, c.1) in
      record {
        next = hops_label (x.legs + 1) g.next;
        extends = simp (few, g.extends);
        covers_it = grind (arith, nat_tests, g.covers_it, w.is, c.1);
      }

  grown : (x : Hops most) (s : Step) (y : Hops most) → inside x.plain.time x.plain.cost ≡ true → LawfulStep s → hops_extend most x s ≡ Some y → Grown (hops_kind most) x s y
  grown x s y i l e =
      let w = went (nat_lt x.legs most) (plain_extend x.plain s) (hops_label (x.legs + 1)) y e in
      let g = plain_laws.grown x.plain s w.further i l w.goes in
      subst (λ (z : Hops most). Grown (hops_kind most) x s z) w.is (grind arith)

  pub hops_laws : Laws (hops_kind most)
  hops_laws = record {
    starts = plain_laws.starts;
    self = λ x i. grind (arith, nat_tests, plain_laws.self);
    chain = λ x y z i j k p q. grind (arith, nat_tests, plain_laws.chain);
    same = λ x y i j p q. grind (arith, nat_tests, plain_laws.same x.plain y.plain i j);
    sooner = λ x y i j p. grind (arith, plain_laws.sooner);
    cheaper = λ x y i j p. grind (arith, plain_laws.cheaper);
    still = still;
    grown = grown;
    beyond = λ x s e. grind (arith, nat_tests, plain_laws.beyond x.plain s e);
  }
