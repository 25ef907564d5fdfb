use Rattle.std.proofs.Common.{◌≡◌, ◌++◌}
use Rattle.c_syntax.specs.View.{view_ctype}
use Rattle.c_taken.specs.Pieces.{exprs_in, lengths}
use Rattle.c_taken.proofs.exprs.put_lengths.Given as goal

-- what was put, and the lengths in the type that is left, are all
abbrev pub invariant-loop-to : goal.invariant-loop-to
invariant-loop-to l = exprs_in l.left.items ++ lengths (view_ctype l.inner) ≡ exprs_in l.initial.left.items ++ lengths (view_ctype l.fn.ty)
