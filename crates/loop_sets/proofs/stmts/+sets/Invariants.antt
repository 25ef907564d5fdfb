use Rattle.std.proofs.Common.{◌≡◌, drop}
use Rattle.program_trees.specs.View.{view_stmts}
use Rattle.loop_sets.specs.Scopes.{scope_of}
use Rattle.plain_words.specs.Sets as spec
use Rattle.loop_sets.proofs.stmts.+sets.Given as goal

abbrev pub invariant-stmts_stand-loop-i : goal.invariant-stmts_stand-loop-i
invariant-stmts_stand-loop-i l = spec.all_sets_stand (scope_of l.names l.params) (view_stmts (drop l.i l.stmts)) ≡ spec.all_sets_stand (scope_of l.names l.params) (view_stmts l.stmts)
