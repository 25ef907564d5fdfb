use Rattle.std.proofs.Common.{map, ap, ◌∙◌}
use Rattle.std.specs.Prelude.{option_map}
use Rattle.report_read.specs.View.{bytes_of, view_refusal}
use Rattle.view_text.specs.Refused.{line_at}
use Rattle.view_text.proofs.Told.{both_put}
use Rattle.view_text.proofs.refused.put_both.Goals as goal

pub returns : goal.returns
returns c =
    both_put c.args.source.now (view_refusal c.args.refusal.now) c.in_ok-lines.lines.items (option_map bytes_of c.line_at.result) _ _ _
    c.in_ok-lines.ensures (c.line_at.ensures ∙ ap (λ ls. line_at (map bytes_of ls) c.args.refusal.now.line) c.as_slice.ensures.value) c.in_ok-put_refusal.ensures c.in_ok-put_told.ensures
