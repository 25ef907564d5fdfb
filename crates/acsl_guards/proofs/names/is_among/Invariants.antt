use Rattle.std.proofs.Common.{◌≡◌, drop, map}
use Rattle.c_syntax.specs.View.{view_var}
use Rattle.acsl_guards.specs.Mentions as spec
use Rattle.acsl_guards.proofs.names.is_among.Given as goal

-- the name is among those that are left exactly where it is among all
abbrev pub invariant-loop-binder : goal.invariant-loop-binder
invariant-loop-binder l = spec.is_among (spec.names_of (map view_var (drop l.binder-index l.binders))) l.name ≡ spec.is_among (spec.names_of (map view_var l.binders)) l.name
