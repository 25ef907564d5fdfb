-- The lines of the parts with `\from` of a text, in its order (ACSL 2.3.4): those of contracts, of prototypes too, and of loops. What they say is ignored.
use Rattle.std.specs.Prelude.{ℕ, List, [], ◌∷◌, ◌++◌, Option, Some, None}
use Rattle.c_syntax.specs.Contract.{Behavior, Contract, LoopAnnot}
use Rattle.c_syntax.specs.Stmt.{Stmt, empty, expr, block, locals, if_only, if_else, while_of, do_of, for_of, switch, case_of, default, break, continue, return_of, assert, Stmts, stop, more}
use Rattle.c_syntax.specs.Decl as d

-- behind those that were found before
abbrev pub in_behaviors : List Behavior → List ℕ → List ℕ
in_behaviors [] ls = ls
in_behaviors (b ∷ bs) ls = in_behaviors bs (ls ++ b.assigns.from)

abbrev pub in_contract : Contract → List ℕ → List ℕ
in_contract c ls = in_behaviors c.behaviors (ls ++ c.assigns.from)

abbrev pub in_loop : LoopAnnot → List ℕ → List ℕ
in_loop l ls = ls ++ l.assigns.from

abbrev mutual
  pub in_stmt : Stmt → List ℕ → List ℕ
  in_stmt (block line body) ls = in_stmts body ls
  in_stmt (if_only line test a) ls = in_stmt a ls
  in_stmt (if_else line test a b) ls = in_stmt b (in_stmt a ls)
  in_stmt (while_of line l test body) ls = in_stmt body (in_loop l ls)
  in_stmt (do_of line l body test) ls = in_stmt body (in_loop l ls)
  in_stmt (for_of line l first test next body) ls = in_stmt body (in_loop l ls)
  in_stmt (switch line e body) ls = in_stmts body ls
  in_stmt (empty line) ls = ls
  in_stmt (expr line e) ls = ls
  in_stmt (locals line xs) ls = ls
  in_stmt (case_of line e) ls = ls
  in_stmt (default line) ls = ls
  in_stmt (break line) ls = ls
  in_stmt (continue line) ls = ls
  in_stmt (return_of line e) ls = ls
  in_stmt (assert line p) ls = ls

  pub in_stmts : Stmts → List ℕ → List ℕ
  in_stmts stop ls = ls
  in_stmts (more s ss) ls = in_stmts ss (in_stmt s ls)

abbrev pub in_body : Option Stmt → List ℕ → List ℕ
in_body None ls = ls
in_body (Some s) ls = in_stmt s ls

abbrev pub in_decl : d.Decl → List ℕ → List ℕ
in_decl (d.function f) ls = in_body f.body (in_contract f.contract ls)
in_decl (d.struct_decl x) ls = ls
in_decl (d.enum_decl x) ls = ls
in_decl (d.typedef_decl x) ls = ls
in_decl (d.globals xs) ls = ls
in_decl (d.logic_decl l) ls = ls

abbrev pub in_decls : List d.Decl → List ℕ → List ℕ
in_decls [] ls = ls
in_decls (x ∷ xs) ls = in_decls xs (in_decl x ls)

abbrev pub from_lines : List d.Decl → List ℕ
from_lines p = in_decls p []
