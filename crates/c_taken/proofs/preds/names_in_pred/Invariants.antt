use Rattle.std.proofs.Common.{◌≡◌, []}
use Rattle.c_syntax.specs.View.{view_pred}
use Rattle.c_taken.specs.Pieces.{all_done, done, look, pointed, sofar, tasks_in}
use Rattle.c_taken.proofs.Hiding.{task_weight}
use Rattle.c_taken.proofs.preds.names_in_pred.Given as goal

-- what is still to be done leads to where the whole predicate does
abbrev pub invariant-loop-piece : goal.invariant-loop-piece
invariant-loop-piece l = all_done (tasks_in l.left.items) (sofar l.hidden (pointed l.names.items)) ≡ done (look (view_pred l.fn.pred)) (sofar [] [])

abbrev pub decreases-loop-piece : goal.decreases-loop-piece
decreases-loop-piece l = task_weight l.left.items
