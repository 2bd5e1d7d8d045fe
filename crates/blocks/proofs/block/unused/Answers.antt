use Rattle.std.proofs.Common.{◌≡◌, ℕ, ◌+◌, ◌-◌, Some, None, Option, drop, sym, ap, ◌∙◌, arith, rules}
use Rattle.std.proofs.lemmas.List.{get_or-take, get_or-drop}
use Rattle.network.specs.declared.fault.FileFault.{FileFault}
use Rattle.blocks.specs.Blocks.{byte_fault, unused_fault}
use Rattle.network.specs.Refusals.{fault}
use Rattle.network.proofs.Firsts.{first_more, first_here}
use Rattle.blocks.proofs.block.unused.Goals as goal

pub returns-then-byte-ne0 : goal.returns-then-byte-ne0
unfolding unused_fault
returns-then-byte-ne0 c =
    let f : ℕ → Option FileFault = byte_fault c.args.block.now c.args.from c.args.part c.args.number in
    let i = get_or-take (508 - c.args.from) (drop c.args.from c.args.block.now) c.loop-k.k 0 (omega arith) ∙ get_or-drop c.args.from c.args.block.now c.loop-k.k 0 in
    let here : f c.loop-k.k ≡ Some (fault c.args.part c.args.number (c.args.from + c.loop-k.k)) = search rules in
    ap Some c.at.ensures ∙ sym (first_here f c.loop-k.k (508 - c.args.from) _ (omega arith) c.loop-k.invariant here)

pub loop-k-preserved : goal.loop-k-preserved
loop-k-preserved c =
    let f : ℕ → Option FileFault = byte_fault c.args.block.now c.args.from c.args.part c.args.number in
    let i = get_or-take (508 - c.args.from) (drop c.args.from c.args.block.now) c.loop-k.k 0 (omega arith) ∙ get_or-drop c.args.from c.args.block.now c.loop-k.k 0 in
    let here : f c.loop-k.k ≡ None = search rules in
    first_more f c.loop-k.k c.loop-k.invariant here

pub returns : goal.returns
unfolding unused_fault
returns c =
    let k : c.loop-k.k ≡ 508 - c.args.from = omega arith in
    search rules
