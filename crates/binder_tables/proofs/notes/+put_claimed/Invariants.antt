use Rattle.std.proofs.Common.{◌≡◌, ◌++◌, drop, map}
use Rattle.program_trees.specs.View.{view_stmts}
use Rattle.binder_names.specs.Notes as spec
use Rattle.binder_tables.specs.View.{all_claimed}
use Rattle.binder_tables.proofs.notes.+put_claimed.Given as goal

abbrev pub invariant-put_all_claimed-loop-at : goal.invariant-put_all_claimed-loop-at
invariant-put_all_claimed-loop-at l = all_claimed l.out.items ++ spec.all_claimed (view_stmts (drop l.at l.stmts)) ≡ all_claimed l.initial.out.items ++ spec.all_claimed (view_stmts l.stmts)
