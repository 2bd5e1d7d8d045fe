use Rattle.std.proofs.Common.{refl, ap, ◌∙◌, arith}
use Rattle.blocks.specs.Numbers.{bytes16, bytes32}
use Rattle.blocks.specs.Blocks.{finished}
use Rattle.blocks.proofs.Overs.{next}
use Rattle.image_format.proofs.header.Header.store_in.Goals as goal

pub returns : goal.returns
returns c =
    let h = c.args.self in
    let a = next _ _ _ 4 (bytes16 h.nodes) 6 c.put16.ensures c.start.ensures refl (omega arith) in
    let b = next _ _ _ 6 (bytes16 h.depot) 8 c.put16-2.ensures a refl (omega arith) in
    let d = next _ _ _ 8 (bytes16 h.sink) 10 c.put16-3.ensures b refl (omega arith) in
    let e = next _ _ _ 10 (bytes32 h.legs) 14 c.put32.ensures d refl (omega arith) in
    c.finish.ensures ∙ ap finished e
