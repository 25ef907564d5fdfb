use Rattle.std.proofs.Common.{◌≡◌, vec_len}
use Rattle.c_syntax.specs.View.{view_pred}
use Rattle.parse_preds.specs.Parts.{around_all}
use Rattle.parse_preds.proofs.parts.put_all_around.Given as goal

-- the parts that are left, around what was built so far, make the whole
abbrev pub invariant-loop-frames : goal.invariant-loop-frames
invariant-loop-frames l = around_all l.opened.items (view_pred l.inside) ≡ around_all l.initial.opened.items (view_pred l.initial.inside)

abbrev pub decreases-loop-frames : goal.decreases-loop-frames
decreases-loop-frames l = vec_len l.opened
