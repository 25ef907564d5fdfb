use Rattle.std.proofs.Common.{◌∙◌, ap, ◌++◌}
use Rattle.std.specs.Prelude.{codes}
use Rattle.goal_report.proofs.Spelling.{hypothesis_put}
use Rattle.goal_report.proofs.lines.put_hypothesis.Goals as goal

pub returns : goal.returns
returns c =
    let first = c.in_ok-put.ensures in
    let name = c.in_ok-put-2.ensures ∙ ap (λ t. t ++ c.bytes.result.now) first in
    c.in_ok-put-3.ensures ∙ ap (λ t. t ++ codes "\n") name ∙ ap (λ x. ((c.args.text.now.items ++ codes "hypothesis no pointer to ") ++ x) ++ codes "\n") c.bytes.ensures
    ∙ hypothesis_put c.args.text.now.items c.args.name.now
