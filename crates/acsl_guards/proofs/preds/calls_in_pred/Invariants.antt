use Rattle.std.proofs.Common.{◌≡◌}
use Rattle.std.specs.List.{list_any}
use Rattle.c_syntax.specs.View.{view_pred}
use Rattle.acsl_guards.specs.Parts.{preds_in}
use Rattle.acsl_guards.specs.Recursive.{pred_calls}
use Rattle.acsl_guards.proofs.Calling.{left_weight}
use Rattle.acsl_guards.proofs.preds.calls_in_pred.Given as goal

-- a call stands in what is left exactly where one stands in the predicate
abbrev pub invariant-loop-part : goal.invariant-loop-part
invariant-loop-part l = list_any (pred_calls l.name) (preds_in l.left.items) ≡ pred_calls l.name (view_pred l.pred)

abbrev pub decreases-loop-part : goal.decreases-loop-part
decreases-loop-part l = left_weight l.left.items
