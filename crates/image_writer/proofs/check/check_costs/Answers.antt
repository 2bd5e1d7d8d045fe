use Rattle.std.proofs.Common.{ap, ◌∙◌, rules}
use Rattle.std.specs.Option.{option_map}
use Rattle.network.specs.First.{first_of}
use Rattle.image_writer.specs.Write.{dear_at, dear_fault, write_refusal}
use Rattle.image_writer.proofs.Steps.{first_dear}
use Rattle.image_writer.proofs.check.check_costs.Goals as goal

pub returns : goal.returns
returns g c =
    let N = g.N.Network.meaning c.args.net.now in
    ap (option_map write_refusal) (c.check_each.ensures (dear_fault N) (λ i r h p. search rules))
    ∙ first_dear N c.node_count.result ∙ ap (first_of (dear_at N)) c.node_count.ensures
