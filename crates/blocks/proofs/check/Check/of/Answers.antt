use Rattle.std.proofs.Common.{ℕ, ◌+◌, ◌%◌, ◌<◌, ◌≤◌, length, get_or, take, ap, ◌∙◌, arith, rules}
use Rattle.std.proofs.lemmas.Nat.{mul-le}
use Rattle.std.proofs.lemmas.List.{take_all}
use Rattle.blocks.specs.Numbers.{plain_sum, weighted_sum, plain_check, weighted_check}
use Rattle.blocks.proofs.Sums.{plain_sum_more, weighted_sum_more}
use Rattle.blocks.proofs.check.Check.of.Goals as goal

pub loop-i-preserved : goal.loop-i-preserved
loop-i-preserved c =
    let b : get_or (take 508 c.args.block.now) c.loop-i.i 0 ≤ 255 = search rules in
    let i : c.loop-i.i + 1 ≤ 508 = omega arith in
    let m = mul-le _ _ _ _ i b in
    let h : c.loop-i.i < length (take 508 c.args.block.now) = omega arith in
    let p = plain_sum_more _ _ h in
    let w = weighted_sum_more _ _ h in
    record {
      plain_so_far = omega arith;
      weighted_so_far = omega arith;
      plain_bound = omega arith;
      weighted_bound = omega arith;
    }

pub returns-clause-plain : goal.returns-clause-plain
unfolding plain_check
returns-clause-plain c =
    ap (λ (n : ℕ). n % 65521) (c.loop-i.invariant.plain_so_far ∙ ap plain_sum (take_all c.loop-i.i (take 508 c.args.block.now) (omega arith)))

pub returns-clause-weighted : goal.returns-clause-weighted
unfolding weighted_check
returns-clause-weighted c =
    ap (λ (n : ℕ). n % 65521) (c.loop-i.invariant.weighted_so_far ∙ ap (weighted_sum 0) (take_all c.loop-i.i (take 508 c.args.block.now) (omega arith)))
