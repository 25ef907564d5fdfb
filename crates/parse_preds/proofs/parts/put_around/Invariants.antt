use Rattle.std.proofs.Common.{◌≡◌}
use Rattle.c_syntax.specs.View.{view_pred}
use Rattle.parse_preds.specs.Parts.{around}
use Rattle.parse_preds.proofs.parts.put_around.Given as goal

abbrev pub invariant-loop-frame : goal.invariant-loop-frame
invariant-loop-frame l = view_pred l.inside ≡ around l.yielded (view_pred l.initial.inside)
