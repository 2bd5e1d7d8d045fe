use Rattle.std.proofs.Common.{◌≡◌, ◌+◌, None, ap, ◌∙◌, arith, rules}
use Rattle.std.proofs.lemmas.Bool.Decides.{nat_tests}
use Rattle.image_format.specs.Decode.{span_fault}
use Rattle.image_format.specs.Layout.{nodes_in, start}
use Rattle.image.proofs.Spanning.{row_end, is_span, no_node_refused}
use Rattle.image.proofs.source.ImageSource.row.Goals as goal

pub returns-in_err-known : goal.returns-in_err-known
returns-in_err-known c =
    let n = c.layout-layout.result.nodes_read ∙ ap nodes_in c.layout-layout.ensures in
    let h = no_node_refused c.args.self.now.image.now c.args.i in
    grind (arith, nat_tests, n, h)

pub readable-requires : goal.readable-requires
readable-requires c =
    let w = row_end c.args.self.now.image.now c.args.i c.args.self.now.sound in
    let e = c.row-row.ensures.ends ∙ ap (λ s. start s (c.args.i + 1)) c.layout-layout.ensures in
    omega arith

pub returns : goal.returns
returns c =
    let s = c.args.self.now.image.now in
    let row = c.row-row.result in
    let n = c.layout-layout.result.nodes_read ∙ ap nodes_in c.layout-layout.ensures in
    let r : span_fault s row.start row.end ≡ None = search rules in
    is_span s c.args.i row.start row.end c.args.self.now.sound (grind (arith, nat_tests, n))
    (c.row-row.ensures.starts ∙ ap (λ s. start s c.args.i) c.layout-layout.ensures)
    (c.row-row.ensures.ends ∙ ap (λ s. start s (c.args.i + 1)) c.layout-layout.ensures) r
