use Rattle.std.proofs.Common.{◌≡◌, drop}
use Rattle.acsl_notes.specs.Notes.{named_from, params_scope}
use Rattle.acsl_notes.proofs.locals.params_scope.Given as goal

abbrev pub invariant-loop-i : goal.invariant-loop-i
invariant-loop-i l = named_from l.i (drop l.i l.params) l.blocks ≡ params_scope l.params
