-- Lists of statements in memory.
use Rattle.std.specs.Prelude.{ℤ, List, [], ◌∷◌, map}
use Rattle.c_syntax.specs.declared.stmt.Stmt.{Stmt as Spelled}
use Rattle.c_syntax.specs.Stmt as p
use Rattle.c_syntax.specs.View.{view_stmt as spelled}
use Rattle.typed_unit.specs.declared.stmt.Stmt.{Stmt}
use Rattle.typed_unit.specs.Stmt as s
use Rattle.typed_unit.specs.View.{view_stmt, view_stmts}
use Rattle.c_variables.specs.declared.context.Context.{Context}
use Rattle.c_stmts.specs.Statements.{Item, item_with}

abbrev pub spelled_stmts : List Spelled → p.Stmts
spelled_stmts xs = p.stmts_of (map spelled xs)

-- what a statement in the body of a `switch` leaves
abbrev pub see_item : List ℤ → Context → Stmt → Item
see_item zs c x = item_with (view_stmt x) zs c

-- a statement, or several, and the context behind them
abbrev pub see_stmt : Context → Stmt → s.Stmt × Context
see_stmt c x = (view_stmt x, c)

abbrev pub see_stmts : Context → List Stmt → s.Stmts × Context
see_stmts c xs = (view_stmts xs, c)
