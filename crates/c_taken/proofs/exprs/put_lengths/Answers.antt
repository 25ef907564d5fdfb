use Rattle.std.proofs.Common.{◌++◌}
use Rattle.c_syntax.specs.View.{view_ctype}
use Rattle.c_taken.specs.Pieces.{exprs_in, lengths}
use Rattle.c_taken.proofs.Shapes.{length_leaf}
use Rattle.c_taken.proofs.exprs.put_lengths.Goals as goal

pub returns-in-Leaf : goal.returns-in-Leaf
returns-in-Leaf c =
    length_leaf c.loop-to.left.items c.loop-to.left.items c.loop-to.inner.now (exprs_in c.args.left.now.items ++ lengths (view_ctype c.args.ty.now)) c.in-Leaf.field-0 c.in-Leaf.ensures
    c.loop-to.invariant
