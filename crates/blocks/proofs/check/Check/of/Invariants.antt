use Rattle.std.proofs.Common.{◌≡◌, ◌*◌, ◌≤◌, take}
use Rattle.blocks.specs.Numbers.{plain_sum, weighted_sum}
use Rattle.blocks.proofs.check.Check.of.Given as goal

abbrev pub invariant-loop-i : goal.invariant-loop-i
invariant-loop-i l = record {
  plain_so_far : l.plain ≡ plain_sum (take l.i l.byte-items);
  weighted_so_far : l.weighted ≡ weighted_sum 0 (take l.i l.byte-items);
  plain_bound : l.plain ≤ 255 * l.i;
  weighted_bound : l.weighted ≤ 129540 * l.i;
}
