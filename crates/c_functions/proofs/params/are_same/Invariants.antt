use Rattle.std.proofs.Common.{◌≡◌, length}
use Rattle.c_functions.specs.Functions.{same_types}
use Rattle.c_functions.proofs.params.are_same.Given as goal

-- what is left is the same exactly where all is
abbrev pub invariant-loop-ty : goal.invariant-loop-ty
invariant-loop-ty l = same_types l.types l.objects ≡ same_types l.initial.types l.initial.objects

abbrev pub decreases-loop-ty : goal.decreases-loop-ty
decreases-loop-ty l = length l.types
