use Rattle.std.proofs.Common.{◌≡◌, ◌++◌, drop, map}
use Rattle.acsl_typing.specs.Annotations.{cells_in}
use Rattle.acsl_typing.proofs.sites.sizes_of.Given as goal

abbrev pub invariant-loop-i : goal.invariant-loop-i
invariant-loop-i l = l.sizes.items ++ map cells_in (drop l.i l.structs) ≡ map cells_in l.structs
