use Rattle.std.proofs.lemmas.Result.{IfOk-weaker}
use Rattle.view_text.proofs.Putting.{hypothesis_put}
use Rattle.view_text.proofs.view.put_hypothesis.Goals as goal

pub returns : goal.returns
returns c = IfOk-weaker c.put-4.result _ _ (λ x e. hypothesis_put c.args.name.now _ _ _ _ _ c.in_ok-put.ensures c.in_ok-put-2.ensures c.in_ok-put-3.ensures e) c.put-4.ensures
