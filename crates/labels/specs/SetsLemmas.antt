-- Sets of bits, and the nodes that they hold.
use Rattle.std.specs.Prelude.{◌≡◌, ℕ, ◌^◌, ◌<◌, true}
use Rattle.std.specs.Int.{bit_at}
use Rattle.std.specs.Int.Bits.{and_zero_r, or_zero_r}
use Rattle.std.proofs.Common.{ap, sym, ◌∙◌, arith}
use Rattle.std.proofs.lemmas.Nat.{or_comm}
use Rattle.std.proofs.lemmas.Nat.Bits.{and_pow, bit_at_or, bit_at-lt, bit_at-zero, bit_at-pow_same, bit_at-pow_other, bit_at_above, same_from_bits}
use Rattle.std.proofs.lemmas.Bool.{eqb-true, eq-eqb}
use Rattle.std.proofs.lemmas.Bool.Decides.{nat_tests}
use Rattle.labels.specs.Sets.{set_of, adding, OneMore, within, Subset}
use Rattle.labels.specs.declared.node_set.NodeSet.{NodeSet}

-- s lies in u: each bit of s is one of u
abbrev pub Lies : ℕ → ℕ → Type 0
Lies s u = (k : ℕ) → bit_at s k ≡ 1 → bit_at u k ≡ 1

-- ---- inclusion

pub within_lies : (s u : NodeSet) → within s u ≡ true → Lies s.bits u.bits
within_lies s u e k h = grind (arith, nat_tests, bit_at_or s.bits u.bits k, bit_at-lt)

pub lies_within : (s u : NodeSet) → Lies s.bits u.bits → within s u ≡ true
lies_within s u h = eq-eqb _ _ (same_from_bits _ _ (λ k. grind (arith, bit_at_or, bit_at-lt, h)))

pub within_self : (s : NodeSet) → within s s ≡ true
within_self s = lies_within s s (λ k h. h)

pub within_chain : (s u v : NodeSet) → within s u ≡ true → within u v ≡ true → within s v ≡ true
within_chain s u v p q = lies_within s v (λ k h. within_lies u v q k (within_lies s u p k h))

pub within_same : (s u : NodeSet) → within s u ≡ true → within u s ≡ true → s ≡ u
within_same s u p q = ap set_of (sym (eqb-true _ _ q) ∙ or_comm u.bits s.bits ∙ eqb-true _ _ p)

pub within_more : (s u : NodeSet) (node : ℕ) → within s u ≡ true → within (adding s node) (adding u node) ≡ true
within_more s u node p =
    let h = within_lies s u p in
    lies_within (adding s node) (adding u node) (λ k e. grind (arith, nat_tests, bit_at_or, bit_at-lt, h))

-- ---- members

pub subset : (s u : NodeSet) → within s u ≡ true → Subset s u
subset s u p i e = let h = within_lies s u p in grind (arith, nat_tests, h)

pub subset_within : (s u : NodeSet) → s.bits < 2 ^ 64 → Subset s u → within s u ≡ true
subset_within s u small f = lies_within s u (λ k e. let over = bit_at_above s.bits 64 k small in grind (arith, nat_tests, f k))

pub has_adding : (s : NodeSet) (node : ℕ) → OneMore s node (adding s node)
has_adding s node i = grind (arith, nat_tests, bit_at_or, bit_at-lt, bit_at-pow_same, bit_at-pow_other)

-- what the methods of a set say
pub ruleset sets = (subset, subset_within, has_adding, and_pow, and_zero_r, or_zero_r)
