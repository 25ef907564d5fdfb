use Rattle.std.proofs.Common.{◌≡◌, length}
use Rattle.c_decls.specs.Constants.{are_inside}
use Rattle.c_decls.proofs.constants.are_inside.Given as goal

abbrev pub invariant-loop-first : goal.invariant-loop-first
invariant-loop-first l = are_inside l.steps ≡ are_inside l.fn.steps

abbrev pub decreases-loop-first : goal.decreases-loop-first
decreases-loop-first l = length l.steps
