use Rattle.std.proofs.Common.{Ok, ◌+◌, ap, ◌∙◌}
use Rattle.image_format.specs.Decode.{leg_at}
use Rattle.image.proofs.Spanning.{leg_of}
use Rattle.image.proofs.answers.ImageSourceNetwork.leg.Goals as goal

pub returns : goal.returns
returns c =
    let row = c.in_ok-row.row in
    ap Ok (c.leg.ensures ∙ ap (λ s. leg_at s (row.start + c.args.k)) c.layout.ensures)
    ∙ leg_of c.args.self.now.image.now c.args.i row.start row.end c.args.k c.in_ok-row.ensures c.if-j-row.false
