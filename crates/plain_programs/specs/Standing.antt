-- Statements of a program over integers: each variable is declared and used in its scope (C11 6.2.1p4).
use Rattle.std.specs.Prelude.{◌≡◌, ℕ, nat_le, nat_lt, Bool, true, not, ◌&&◌, List, [], ◌∷◌, length, Option, Some, None}
use Rattle.std.specs.List.{list_all}
use Rattle.wp_base.specs.declared.kinds.CellKind.{CellKind}
use Rattle.c_syntax.specs.Stmt as spelled
use Rattle.typed_prog.specs.Tree as t
use Rattle.c_runs.specs.Program.{Stmt, evaluate, block, initial, choose, loop, switch, case_of, default, break, continue, return_of, assert, Stmts, stop, more, Variable, Function, Facts}
use Rattle.c_variables.specs.declared.context.Context.{Context}
use Rattle.c_variables.specs.Contexts.{around_of}
use Rattle.typed_unit.specs.Stmt as s
use Rattle.c_typed_stmts.specs.Judgement.{IsTyped}
use Rattle.acsl_notes.specs.Notes.{Note}
use Rattle.c_programs.specs.Bodies.{placed}
use Rattle.c_programs.specs.Files.{result_of}
use Rattle.plain_states.specs.Scopes.{is_integer}
use Rattle.plain_runs.specs.Fitting.{with_name, with_names}
use Rattle.plain_normal.specs.Plain.{up_to, StmtsArePlain}
use Rattle.plain_test.specs.Plain.{is_plain_stmt}
use Rattle.plain_programs.specs.Values.{stands, Meets}

module _ (count : ℕ) where
  -- a block declares variables that aren't in scope yet, each once, from this number on
  abbrev pub are_new : (in_scope : ℕ → Bool) → (low : ℕ) → List ℕ → Bool
  are_new f low [] = true
  are_new f low (y ∷ ys) = not (f y) && (nat_le low y && (nat_lt y count && are_new (with_name y f) low ys))

  abbrev pub if_stands : (in_scope : ℕ → Bool) → Option t.Value → Bool
  if_stands f None = true
  if_stands f (Some e) = stands f e

  -- `f`: what blocks have made; `g`: what is in scope, in a loop only what is declared before it or in it. `low`: variables from this number on are declared in
  -- the loops around
  abbrev mutual
    pub stmt_stands : (there named : ℕ → Bool) → (low : ℕ) → Stmt → Bool
    stmt_stands f g low (evaluate e) = stands g e
    stmt_stands f g low (block ys ss) = are_new f low ys && stmts_stand (with_names ys f) (with_names ys g) low ss
    stmt_stands f g low (initial x line e) = g x && (nat_le low x && stands g e)
    stmt_stands f g low (choose e a b) = stands g e && (stmt_stands f g low a && stmt_stands f g low b)
    stmt_stands f g low (loop l before s step behind) =
        nat_le low l.declared && (if_stands (up_to l.declared g) before && (stmt_stands f (up_to l.declared g) l.declared s
        && (if_stands (up_to l.declared g) step && if_stands (up_to l.declared g) behind)))
    stmt_stands f g low (switch e ss) = stands g e && stmts_stand f g low ss
    stmt_stands f g low (case_of z) = true
    stmt_stands f g low default = true
    stmt_stands f g low break = true
    stmt_stands f g low continue = true
    stmt_stands f g low (return_of e) = if_stands g e
    stmt_stands f g low (assert c) = true

    pub stmts_stand : (there named : ℕ → Bool) → (low : ℕ) → Stmts → Bool
    stmts_stand f g low stop = true
    stmts_stand f g low (more s ss) = stmt_stands f g low s && stmts_stand f g low ss

-- ---- typed statements

-- In the program, typed statements without pointers are statements over plain integers, where all that is declared behind them is in the program.
abbrev pub TypedStatementsArePlain : Type 0
TypedStatementsArePlain =
    (p : Facts) (xs : List Variable) (functions : ℕ → Option (Function Stmts)) (result : Option CellKind) (f g : ℕ → Bool) (low : ℕ) → list_all is_integer p.globals ≡ true
    → list_all is_integer xs ≡ true → (c : Context) (x : spelled.Stmt) (y : s.Stmt) (b : Context) → IsTyped c x y b → Meets (around_of b) p xs functions → result ≡ result_of b.result
    → is_plain_stmt p.model y ≡ true → (ns : List Note) (n : ℕ) → stmts_stand (length xs) f g low (placed y ns n).stmts ≡ true
    → StmtsArePlain p xs functions result f g low (placed y ns n).stmts
