-- Statements that are left, in a loop over a slice.
use Rattle.std.proofs.Common.{◌≡◌, ℕ, ◌+◌, ◌<◌, ◌≤◌, List, length, drop, get_or, sym, ap, ◌∙◌}
use Rattle.std.proofs.lemmas.List.{at_drop_more, at_drop_all}
use Rattle.c_runs.specs.Program.{stop, more}
use Rattle.program_trees.specs.declared.stmts.Stmt.{Stmt}
use Rattle.program_trees.specs.View.{view_stmt, view_stmts}

pub one_left : (ss : List Stmt) (i : ℕ) (s : Stmt) → i < length ss → s ≡ get_or ss i s → view_stmts (drop i ss) ≡ more (view_stmt s) (view_stmts (drop (i + 1) ss))
one_left ss i s in_list is = at_drop_more view_stmts ss i s in_list ∙ ap (λ z. more (view_stmt z) (view_stmts (drop (i + 1) ss))) (sym is)

pub none_left : (ss : List Stmt) (i : ℕ) → length ss ≤ i → view_stmts (drop i ss) ≡ stop
none_left ss i all = at_drop_all view_stmts ss i all
