use Rattle.std.proofs.Common.{◌≡◌, ◌++◌}
use Rattle.c_syntax.specs.View.{view_pred}
use Rattle.acsl_guards.specs.Guarding as spec
use Rattle.acsl_guards.specs.Parts.{preds_in}
use Rattle.acsl_guards.proofs.Taking.{left_weight, pending}
use Rattle.acsl_guards.proofs.splits.conjuncts.Given as goal

-- those found, and those of what is left, are all
abbrev pub invariant-loop-part : goal.invariant-loop-part
invariant-loop-part l = preds_in l.found.items ++ pending (preds_in l.left.items) ≡ spec.conjuncts (view_pred l.pred)

abbrev pub decreases-loop-part : goal.decreases-loop-part
decreases-loop-part l = left_weight l.left.items
