use Rattle.std.proofs.Common.{◌≡◌, ◌++◌, drop, map}
use Rattle.c_functions.proofs.params.types_of.Given as goal

abbrev pub invariant-loop-object : goal.invariant-loop-object
invariant-loop-object l = l.types ++ map (λ o. o.ty) (drop l.object-index l.objects) ≡ map (λ o. o.ty) l.objects
