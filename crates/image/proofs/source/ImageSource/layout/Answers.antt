use Rattle.std.proofs.Common.{ap, arith}
use Rattle.image_format.specs.declared.header.Header.{Header}
use Rattle.image_format.proofs.Sounds.{sound_facts}
use Rattle.image.proofs.source.ImageSource.layout.Goals as goal

pub invariant_of-result : goal.invariant_of-result
invariant_of-result c =
    let f = sound_facts _ c.args.self.now.sound in
    let n = ap (λ (h : Header). h.nodes) c.header-nodes.ensures in
    let m = ap (λ (h : Header). h.legs) c.header-nodes.ensures in
    record { nodes_read = n; legs_read = m; few_nodes = omega arith; few_legs = omega arith; long = omega arith }
