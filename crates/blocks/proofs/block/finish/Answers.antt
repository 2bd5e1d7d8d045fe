use Rattle.std.proofs.Common.{◌≡◌, ◌-◌, ◌++◌, List, ℕ, length, replicate, take, ap, ◌∙◌, arith, rules}
use borrow.Rule.Slice.PartMut.{put_mid}
use Rattle.blocks.proofs.Overs.{part_over, over-take, length_over, finished_is}
use Rattle.blocks.proofs.block.finish.Goals as goal

pub returns : goal.returns
returns c =
    let zeros : c.fill.new.self ≡ replicate (508 - c.args.used) 0 = search rules in
    let cleared : List ℕ = put_mid c.args.used (508 - c.args.used) c.args.block.now c.fill.new.self in
    let n : length c.fill.new.self ≡ 508 - c.args.used = omega (arith, c.fill.ensures.len) in
    let o = part_over c.args.block.now c.args.used (508 - c.args.used) c.fill.new.self n in
    let len : length cleared ≡ 512 = ap length o ∙ length_over c.args.block.now c.args.used c.fill.new.self (omega arith) ∙ c.told-block in
    let front : take 508 cleared ≡ take c.args.used c.args.block.now ++ replicate (508 - c.args.used) 0 =
    ap (take 508) o ∙ over-take c.args.block.now c.args.used c.fill.new.self 508 (omega arith) (omega arith) ∙ ap (λ z. take c.args.used c.args.block.now ++ z) zeros in
    let f = finished_is cleared c.args.block.now c.args.used len c.told-block c.requires front in
    cc
