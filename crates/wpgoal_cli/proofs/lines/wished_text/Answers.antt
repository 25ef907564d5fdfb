use Rattle.std.proofs.Common.{IfOk, sym, subst}
use Rattle.wpgoal_cli.specs.Lines.{AnswersLine}
use Rattle.wpgoal_cli.specs.View.{view_wish}
use Rattle.wpgoal_cli.proofs.lines.wished_text.Goals as goal

pub returns-in-Normal : goal.returns-in-Normal
returns-in-Normal c line read = subst (λ w. IfOk c.normal_text.result (λ text. AnswersLine (view_wish w) line text)) (sym c.in-Normal.is) (c.normal_text.ensures line read)

pub returns-in-Verdict : goal.returns-in-Verdict
returns-in-Verdict c line read = subst (λ w. IfOk c.verdict_text.result (λ text. AnswersLine (view_wish w) line text)) (sym c.in-Verdict.is) (c.verdict_text.ensures line read)
