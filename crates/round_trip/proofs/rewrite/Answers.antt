use Rattle.std.proofs.Common.{◌∙◌}
use Rattle.round_trip.proofs.Again.{answer_again, bytes_again}
use Rattle.round_trip.proofs.rewrite.Goals as goal

pub returns : goal.returns
returns c =
    let s = c.args.source.now.image.now in
    let by = c.args.source.now.bytes in
    let e = c.args.source.now.sound in
    record {
      answer = c.write.ensures.answer ∙ answer_again s by e c.args.out.now;
      bytes = c.write.ensures.bytes ∙ bytes_again s by e c.args.out.now;
    }
