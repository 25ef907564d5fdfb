use Rattle.std.proofs.Common.{◌≡◌, vec_len}
use Rattle.c_syntax.specs.View.{view_expr}
use Rattle.parse_exprs.specs.Views.{assign_all}
use Rattle.parse_exprs.proofs.trees.assigned.Given as goal

-- the places that are left, for what was built so far, make the whole
abbrev pub invariant-loop-place : goal.invariant-loop-place
invariant-loop-place l = assign_all l.places.items (view_expr l.value) ≡ assign_all l.initial.places.items (view_expr l.initial.value)

abbrev pub decreases-loop-place : goal.decreases-loop-place
decreases-loop-place l = vec_len l.places
