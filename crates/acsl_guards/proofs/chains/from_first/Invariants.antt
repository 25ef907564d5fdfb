use Rattle.std.proofs.Common.{◌≡◌, map, length}
use Rattle.c_syntax.specs.View.{view_term, view_var}
use Rattle.acsl_guards.specs.Mentions.{names_of}
use Rattle.acsl_guards.specs.Chains as spec
use Rattle.acsl_guards.proofs.chains.from_first.Given as goal

-- of those that are left it is the same as of all
abbrev pub invariant-loop-first : goal.invariant-loop-first
invariant-loop-first l = spec.from_first (map view_term l.terms) (names_of (map view_var l.rest)) ≡ spec.from_first (map view_term l.terms) (names_of (map view_var l.binders))

abbrev pub decreases-loop-first : goal.decreases-loop-first
decreases-loop-first l = length l.rest
