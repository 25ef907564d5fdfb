use Rattle.std.proofs.Common.{◌+◌, ◌*◌}
use Rattle.std.specs.Prelude.{max}
use Rattle.c_syntax.specs.declared.annot.Pred.{size-Pred}
use Rattle.acsl_preds.proofs.preds.+preds.Given as goal

-- the depth of what is typed, and which function goes to which with the same

abbrev pub decreases-typed_pred : goal.decreases-typed_pred
decreases-typed_pred l = size-Pred l.pred.now * 2

abbrev pub decreases-not_pred : goal.decreases-not_pred
decreases-not_pred l = size-Pred l.inside.now * 2 + 1

abbrev pub decreases-old_pred : goal.decreases-old_pred
decreases-old_pred l = size-Pred l.inside.now * 2 + 1

abbrev pub decreases-two_preds : goal.decreases-two_preds
decreases-two_preds l = max (size-Pred l.first.now) (size-Pred l.second.now) * 2 + 1

abbrev pub decreases-choice : goal.decreases-choice
decreases-choice l = max (size-Pred l.test.now) (max (size-Pred l.first.now) (size-Pred l.second.now)) * 2 + 1

abbrev pub decreases-let_pred : goal.decreases-let_pred
decreases-let_pred l = size-Pred l.inside.now * 2 + 1

abbrev pub decreases-quantifier : goal.decreases-quantifier
decreases-quantifier l = size-Pred l.inside.now * 2 + 1
