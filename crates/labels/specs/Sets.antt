-- Sets of nodes numbered below 64, as bits.
use Rattle.std.specs.Prelude.{◌≡◌, ℕ, ◌/◌, ◌%◌, ◌^◌, Bool, true, false, cond, ◌&&◌, ◌||◌, ◌==◌, bit_or, nat_lt}
use Rattle.labels.specs.declared.node_set.NodeSet.{NodeSet}

abbrev pub set_of : ℕ → NodeSet
set_of bits = record { bits = bits }

abbrev pub no_nodes : NodeSet
no_nodes = set_of 0

-- node i is in the set: the bit i of it is 1
abbrev pub has : NodeSet → ℕ → Bool
has s i = nat_lt i 64 && s.bits / 2 ^ i % 2 == 1

abbrev pub Empty : NodeSet → Type 0
Empty s = (i : ℕ) → has s i ≡ false

-- the set with one node more, where that is below 64
abbrev pub adding : NodeSet → ℕ → NodeSet
adding s node = cond (nat_lt node 64) (set_of (bit_or s.bits (2 ^ node))) s

-- the nodes of r are those of s, and the node where it is below 64
abbrev pub OneMore : NodeSet → ℕ → NodeSet → Type 0
OneMore s node r = (i : ℕ) → has r i ≡ (has s i || (nat_lt i 64 && i == node))

-- every node of s is one of u: as bits, and as nodes
abbrev pub within : NodeSet → NodeSet → Bool
within s u = bit_or s.bits u.bits == u.bits

abbrev pub Subset : NodeSet → NodeSet → Type 0
Subset s u = (i : ℕ) → has s i ≡ true → has u i ≡ true
