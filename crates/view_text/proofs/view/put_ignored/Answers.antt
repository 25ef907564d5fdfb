use Rattle.std.proofs.lemmas.Result.{IfOk-weaker}
use Rattle.view_text.proofs.Putting.{ignored_put}
use Rattle.view_text.proofs.view.put_ignored.Goals as goal

pub returns : goal.returns
returns c = IfOk-weaker c.put-3.result _ _ (λ x e. ignored_put c.args.line _ _ _ _ _ c.in_ok-put.ensures c.in_ok-put-2.ensures c.in_ok-put_number.ensures e) c.put-3.ensures
