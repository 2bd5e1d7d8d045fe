-- The laws of the once-only label.
use Rattle.std.specs.Prelude.{◌≡◌, Bool, true, false, cond, Some, None, Option, refl}
use Rattle.std.proofs.Common.{subst, arith}
use Rattle.std.specs.Option.{option_map}
use Rattle.std.proofs.lemmas.Bool.{and_parts}
use Rattle.std.proofs.lemmas.Bool.Decides.{nat_tests}
use Rattle.labels.specs.Kinds.{Laws, Grown, GoesOn, inside}
use Rattle.labels.specs.Steps.{LawfulStep}
use Rattle.labels.specs.Plains.{plain_extend}
use Rattle.labels.specs.Sets.{has}
use Rattle.labels.specs.Onces.{visiting, once_extend, once_covers, once_kind}
use Rattle.labels.specs.declared.plain.Plain.{Plain}
use Rattle.labels.specs.declared.once.Once.{Once}
use Rattle.labels.specs.declared.step.Step.{Step}
use Rattle.labels.specs.PlainsLemmas.{plain_laws}
use Rattle.labels.specs.SetsLemmas.{within_self, within_chain, within_same, within_more, subset}

-- the plain label p went on, to a node that was not visited
record Went (visited : Bool) (extended : Option Plain) (next : Plain → Once) (y : Once) : Type 0 where
  fresh : visited ≡ false
  further : Plain
  goes : extended ≡ Some further
  is : next further ≡ y

went : (v : Bool) (o : Option Plain) (f : Plain → Once) (y : Once) → cond v None (option_map f o) ≡ Some y → Went v o f y
went true o f y e = grind arith
went false None f y e = grind arith
went false (Some p) f y e = record { fresh = refl; further = p; goes = refl; is = grind arith }

still : (x y : Once) (s : Step) (y' : Once) → inside x.plain.time x.plain.cost ≡ true → inside y.plain.time y.plain.cost ≡ true → LawfulStep s → once_covers x y ≡ true → once_extend y s ≡ Some y' → GoesOn once_kind x s y'
still x y s y' i j l v e =
    let w = went (has y.visited s.head) (plain_extend y.plain s) (visiting y s) y' e in
    let c = and_parts _ _ v in
    let g = plain_laws.still x.plain y.plain s w.further i j l c.0 w.goes in
    let seen = subset x.visited y.visited c.1 s.head in
    let fresh : has x.visited s.head ≡ false = grind (arith, seen, w.fresh) in
    record {
      next = visiting x s g.next;
      extends = simp (fresh, g.extends);
      covers_it = grind (arith, within_more, g.covers_it, w.is);
    }

grown : (x : Once) (s : Step) (y : Once) → inside x.plain.time x.plain.cost ≡ true → LawfulStep s → once_extend x s ≡ Some y → Grown once_kind x s y
grown x s y i l e =
    let w = went (has x.visited s.head) (plain_extend x.plain s) (visiting x s) y e in
    let g = plain_laws.grown x.plain s w.further i l w.goes in
    subst (λ (z : Once). Grown once_kind x s z) w.is (grind arith)

pub once_laws : Laws once_kind
once_laws = record {
  starts = plain_laws.starts;
  self = λ x i. grind (arith, plain_laws.self, within_self);
  chain = λ x y z i j k p q. grind (arith, plain_laws.chain, within_chain);
  same = λ x y i j p q. grind (arith, plain_laws.same x.plain y.plain i j, within_same x.visited y.visited);
  sooner = λ x y i j p. grind (arith, plain_laws.sooner);
  cheaper = λ x y i j p. grind (arith, plain_laws.cheaper);
  still = still;
  grown = grown;
  beyond = λ x s e. grind (arith, nat_tests);
}
