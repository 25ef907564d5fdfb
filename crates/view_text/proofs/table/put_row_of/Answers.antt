use Rattle.std.proofs.lemmas.Result.{IfOk-weaker}
use Rattle.view_text.proofs.Rows.{row_put}
use Rattle.view_text.proofs.table.put_row_of.Goals as goal

pub returns : goal.returns
returns c = IfOk-weaker c.put_row.result _ _ (λ x e. row_put c.args.name.now c.args.goals.now c.proved_in.result _ _ c.proved_in.ensures.value e) c.put_row.ensures
