-- What is typed is in order.
use Rattle.std.specs.Prelude.{◌≡◌, Ok}
use Rattle.c_syntax.specs.Stmt as p
use Rattle.c_variables.specs.declared.context.Context.{Context}
use Rattle.typed_unit.specs.Stmt as s
use Rattle.c_stmts.specs.Statements.{stmt}
use Rattle.c_typed_stmts.specs.Judgement.{IsTyped}

abbrev pub TypedStatementsAreInOrder : Type 0
TypedStatementsAreInOrder = (c : Context) (x : p.Stmt) (y : s.Stmt) (behind : Context) → stmt c x ≡ Ok (y, behind) → IsTyped c x y behind
