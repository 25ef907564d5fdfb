-- What stands in the parentheses of a `for`, as plain trees.
use Rattle.std.specs.Prelude.{Option}
use Rattle.std.specs.Option.{option_map}
use Rattle.c_syntax.specs.Expr as e
use Rattle.c_syntax.specs.Stmt as s
use Rattle.c_syntax.specs.View.{view_expr, view_stmt}
use Rattle.parse_leaf_stmts.specs.declared.parts.Head.{Head}

abbrev pub view_head : Head → s.Stmt × Option e.Expr × Option e.Expr
view_head h = (view_stmt h.first, option_map view_expr h.test, option_map view_expr h.next)
