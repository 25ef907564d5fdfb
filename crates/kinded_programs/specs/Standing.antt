-- Typed statements in the program: where their values stand and variables keep their scopes, they have the kinds of a program with blocks and pointers.
use Rattle.std.specs.Prelude.{◌≡◌, ℕ, true, List, length, Option}
use Rattle.c_syntax.specs.Stmt as spelled
use Rattle.c_variables.specs.declared.context.Context.{Context}
use Rattle.c_variables.specs.Contexts.{around_of}
use Rattle.typed_unit.specs.Stmt as unit
use Rattle.c_typed_stmts.specs.Judgement.{IsTyped}
use Rattle.acsl_notes.specs.Notes.{Note}
use Rattle.c_programs.specs.Bodies.{placed}
use Rattle.c_programs.specs.Files.{result_of}
use Rattle.c_runs.specs.Program.{Stmts, Function, Facts}
use Rattle.plain_programs.specs.Standing.{stmts_stand}
use Rattle.typed_runs.specs.Fitting.{Shape, InScope}
use Rattle.typed_normal.specs.Spelled.{StmtsAreKinded}
use Rattle.kinded_programs.specs.Nodes.{AllValues}
use Rattle.kinded_programs.specs.Values.{Stands, AreThere}

-- each full expression stands where it is
abbrev pub StmtsStand : Facts → Shape → InScope → Stmts → Type 0
StmtsStand p s g ss = AllValues (λ f v. Stands p s f v) g ss

-- what is declared behind a statement is in the program, and so is the type of its function's results
pub record IsIn (p : Facts) (s : Shape) (functions : ℕ → Option (Function Stmts)) (c : Context) : Type 0 where
  pub there : AreThere p s functions (around_of c)
  pub result : s.result ≡ result_of c.result

-- In the program typed statements have the kinds of one with blocks and pointers, where all that is declared behind them is in the program.
abbrev pub TypedStatementsAreKinded : Type 0
TypedStatementsAreKinded =
    (p : Facts) (s : Shape) (functions : ℕ → Option (Function Stmts)) (f g : InScope) (low : ℕ) (c : Context) (x : spelled.Stmt) (y : unit.Stmt) (b : Context) → IsTyped c x y b
    → IsIn p s functions b → (ns : List Note) (n : ℕ) → stmts_stand (length s.variables) f g low (placed y ns n).stmts ≡ true → StmtsStand p s g (placed y ns n).stmts
    → StmtsAreKinded p s functions f g low (placed y ns n).stmts
