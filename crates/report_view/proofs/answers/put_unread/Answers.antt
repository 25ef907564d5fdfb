use Rattle.std.proofs.lemmas.Result.{IfOk-weaker}
use Rattle.report_view.proofs.Naming.{unread_put}
use Rattle.report_view.proofs.answers.put_unread.Goals as goal

pub returns : goal.returns
returns c = IfOk-weaker c.put-2.result _ _ (λ x e. unread_put c.args.line _ _ _ _ c.in_ok-put.ensures c.in_ok-put_number.ensures e) c.put-2.ensures
