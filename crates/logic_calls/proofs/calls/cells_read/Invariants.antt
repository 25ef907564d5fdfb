use Rattle.std.proofs.Common.{◌≡◌, ◌++◌, drop}
use Rattle.wp_base.specs.declared.kinds.CellKind.{CellKind}
use Rattle.acsl_encode.specs.Told as told
use Rattle.acsl_expand.specs.Expansion.{view_all}
use Rattle.logic_calls.specs.Told as spec
use Rattle.logic_trees.specs.declared.questions.Asked.TheVariants as asking
use Rattle.logic_calls.proofs.calls.cells_read.Given as goal

-- those so far, and those to come
abbrev pub invariant-loop-at : goal.invariant-loop-at
invariant-loop-at l =
    let read = λ (k : CellKind). spec.reads_at l.globals (view_all l.definitions) l.function (asking.Cell k) in
    l.made ++ told.those read (drop l.at l.kinds) ≡ told.those read l.kinds
