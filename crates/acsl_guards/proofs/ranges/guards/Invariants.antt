use Rattle.std.proofs.Common.{◌≡◌, ◌++◌, drop, map}
use Rattle.c_syntax.specs.View.{view_var}
use Rattle.acsl_guards.specs.Guarding as spec
use Rattle.acsl_guards.specs.Parts.{candidates_in}
use Rattle.acsl_guards.proofs.ranges.guards.Given as goal

abbrev pub invariant-loop-binder : goal.invariant-loop-binder
invariant-loop-binder l =
    l.found ++ map (spec.guard_for (candidates_in l.candidates.items)) (map view_var (drop l.binder-index l.binders)) ≡ map (spec.guard_for (candidates_in l.candidates.items)) (map view_var l.binders)
