use Rattle.std.proofs.Common.{◌∙◌, ap, ◌++◌, refl}
use Rattle.std.specs.Prelude.{codes}
use Rattle.std.specs.Fmt.{decimal}
use Rattle.wp_cli.proofs.Lines.{refusal_line_put}
use Rattle.wp_cli.proofs.refusals.put_refusal.Goals as goal

pub returns : goal.returns
returns c =
    let line = c.in_ok-put_number.ensures ∙ ap (λ t. t ++ decimal c.args.refusal.line) c.in_ok-put.ensures in
    let number = c.in_ok-put_number-2.ensures ∙ ap (λ t. t ++ decimal c.number.result) (c.in_ok-put-2.ensures ∙ ap (λ t. t ++ codes ": ") line) in
    let name = c.in_ok-put-4.ensures ∙ ap (λ t. t ++ c.as_bytes.result.now) (c.in_ok-put-3.ensures ∙ ap (λ t. t ++ codes " ") number) in
    c.in_ok-put-5.ensures ∙ ap (λ t. t ++ codes "\n") name
    ∙ refusal_line_put c.args.text.now.items c.as_bytes.result.now c.args.refusal.line c.number.result c.args.refusal refl c.number.ensures (c.as_bytes.ensures.value ∙ c.name.ensures)
