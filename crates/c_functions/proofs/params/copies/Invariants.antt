use Rattle.std.proofs.Common.{◌≡◌, ◌++◌, drop}
use Rattle.c_functions.proofs.params.copies.Given as goal

abbrev pub invariant-loop-object : goal.invariant-loop-object
invariant-loop-object l = l.done ++ drop l.object-index l.objects ≡ l.objects
