use Rattle.std.proofs.Common.{◌≡◌, drop}
use Rattle.c_runs.specs.Core.{join}
use Rattle.core_trees.specs.View.{view_cores}
use Rattle.c_runs.specs.Normal.{dispatch}
use Rattle.program_trees.specs.View.{view_stmts}
use Rattle.typed_prog.specs.View.{view_value}
use Rattle.normal_bodies.proofs.dispatch.dispatched.Given as goal

abbrev pub invariant-loop-stmt : goal.invariant-loop-stmt
invariant-loop-stmt l =
    join (view_cores l.out) (dispatch (view_value l.value) (view_stmts l.stmts) (view_stmts (drop l.stmt-index l.stmts)))
    ≡ dispatch (view_value l.value) (view_stmts l.stmts) (view_stmts l.stmts)
