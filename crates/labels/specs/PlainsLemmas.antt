-- The laws of the plain label.
use Rattle.std.specs.Prelude.{◌≡◌, true, Some}
use Rattle.std.proofs.Common.{arith}
use Rattle.std.proofs.lemmas.Int.{ints}
use Rattle.std.proofs.lemmas.Bool.Decides.{nat_tests}
use Rattle.labels.specs.Kinds.{Laws, Grown, GoesOn, inside}
use Rattle.labels.specs.Steps.{LawfulStep}
use Rattle.labels.specs.Plains.{arrived, plain_extend, plain_covers, plain_kind}
use Rattle.labels.specs.declared.plain.Plain.{Plain}
use Rattle.labels.specs.declared.step.Step.{Step}

still : (x y : Plain) (s : Step) (y' : Plain) → inside x.time x.cost ≡ true → plain_covers x y ≡ true → plain_extend y s ≡ Some y' → GoesOn plain_kind x s y'
still x y s y' i v e = record { next = arrived x s; extends = grind (arith, nat_tests, ints); covers_it = grind (arith, nat_tests, ints) }

grown : (x : Plain) (s : Step) (y : Plain) → LawfulStep s → plain_extend x s ≡ Some y → Grown plain_kind x s y
grown x s y l e = grind (arith, nat_tests, ints)

pub plain_laws : Laws plain_kind
plain_laws = record {
  starts = λ a p h. grind (arith, nat_tests, ints);
  self = λ x _. grind (arith, nat_tests, ints);
  chain = λ x y z _ _ _ p q. grind (arith, nat_tests, ints);
  same = λ x y _ _ p q. grind (arith, nat_tests, ints);
  sooner = λ x y _ _ p. grind (arith, nat_tests, ints);
  cheaper = λ x y _ _ p. grind (arith, nat_tests, ints);
  still = λ x y s y' i _ _ v e. still x y s y' i v e;
  grown = λ x s y _ l e. grown x s y l e;
  beyond = λ x s e. grind (arith, nat_tests, ints);
}
