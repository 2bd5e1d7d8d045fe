use Rattle.std.proofs.Common.{◌≡◌, None}
use Rattle.network.specs.First.{first_of}
use Rattle.blocks.specs.Blocks.{byte_fault}
use Rattle.blocks.proofs.block.unused.Given as goal

abbrev pub invariant-loop-k : goal.invariant-loop-k
invariant-loop-k l = first_of (byte_fault l.block l.from l.part l.number) l.k ≡ None
