use Rattle.std.proofs.Common.{◌≡◌, Ok, length}
use Rattle.c_operands.specs.Operands.{view_operand}
use Rattle.c_exprs.specs.Typing.{around}
use Rattle.c_exprs.specs.Frames.{all_framed}
use Rattle.c_exprs.proofs.frames.all_framed.Given as goal

abbrev pub invariant-loop-frame : goal.invariant-loop-frame
invariant-loop-frame l =
    all_framed (around l.model l.sizes l.scope) l.frames.items (Ok (view_operand l.whole)) ≡ all_framed (around l.fn.model l.fn.sizes l.fn.scope) l.fn.frames.items (Ok (view_operand l.fn.first))

abbrev pub decreases-loop-frame : goal.decreases-loop-frame
decreases-loop-frame l = length l.frames.items
