use Rattle.std.proofs.Common.{◌≡◌, false, drop}
use Rattle.c_runs.specs.Normal.{index_of}
use Rattle.program_trees.specs.View.{view_stmts}
use Rattle.normal_bodies.specs.Sought.{meets}
use Rattle.normal_bodies.proofs.Finding.{from}
use Rattle.normal_bodies.proofs.labels.index_of.Given as goal

abbrev pub invariant-loop-stmt : goal.invariant-loop-stmt
invariant-loop-stmt l = from (meets l.sought) l.groups (view_stmts (drop l.stmt-index l.stmts)) ≡ index_of (meets l.sought) false (view_stmts l.stmts)
