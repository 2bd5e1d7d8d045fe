use Rattle.std.proofs.Common.{◌≡◌, nat_abs, arith, rules}
use Rattle.std.proofs.lemmas.List.{at_drop_more, at_drop_all}
use Rattle.network.specs.Meaning.{no_leg}
use Rattle.tables.specs.Tables.{largest_size, leg_at}
use Rattle.tables.proofs.open.largest_size.Goals as goal

pub loop-leg-preserved : goal.loop-leg-preserved
loop-leg-preserved c =
    let e = at_drop_more largest_size c.args.legs.now c.loop-leg.leg-index no_leg c.loop-leg-test.true in
    let size : c.unsigned_abs.result ≡ nat_abs (leg_at c.args.legs.now c.loop-leg.leg-index).cost = search rules in
    omega arith

pub returns : goal.returns
returns c =
    let e = at_drop_all largest_size c.args.legs.now c.loop-leg.leg-index c.loop-leg-test.false in
    omega arith
