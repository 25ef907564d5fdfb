use Rattle.std.proofs.Common.{◌≡◌, drop, map}
use Rattle.typed_unit.specs.View.{view_declared}
use Rattle.acsl_notes.specs.Notes.{view_noted, with_locals}
use Rattle.acsl_notes.proofs.locals.put_locals.Given as goal

abbrev pub invariant-loop-i : goal.invariant-loop-i
invariant-loop-i l =
    with_locals l.objects (view_noted l.so_far) (map view_declared (drop l.i l.locals)) ≡ with_locals l.objects (view_noted l.initial.so_far) (map view_declared l.locals)
