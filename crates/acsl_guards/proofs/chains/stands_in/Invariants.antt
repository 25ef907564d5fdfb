use Rattle.std.proofs.Common.{◌≡◌, drop, map}
use Rattle.c_syntax.specs.View.{view_term}
use Rattle.acsl_guards.specs.Chains as spec
use Rattle.acsl_guards.proofs.chains.stands_in.Given as goal

abbrev pub invariant-loop-term : goal.invariant-loop-term
invariant-loop-term l = spec.stands_in l.name (map view_term (drop l.term-index l.terms)) ≡ spec.stands_in l.name (map view_term l.terms)
