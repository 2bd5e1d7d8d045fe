use Rattle.std.proofs.Common.{◌≡◌}
use Rattle.blocks.proofs.bytes.are_bytes.Given as goal

abbrev pub invariant-loop-byte : goal.invariant-loop-byte
invariant-loop-byte l = l.read ≡ l._byte-index
