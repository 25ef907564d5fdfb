use Rattle.std.proofs.Common.{◌≡◌, length}
use Rattle.typed_prog.specs.Tree as t
use Rattle.typed_prog.specs.View.{view_values}
use Rattle.c_decls.specs.Constants.{are_numbers}
use Rattle.c_decls.proofs.constants.are_numbers.Given as goal

abbrev pub invariant-loop-first : goal.invariant-loop-first
invariant-loop-first l = are_numbers (t.values_of (view_values l.values)) ≡ are_numbers (t.values_of (view_values l.fn.values))

abbrev pub decreases-loop-first : goal.decreases-loop-first
decreases-loop-first l = length l.values
