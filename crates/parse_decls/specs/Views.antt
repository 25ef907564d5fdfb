-- What readers of declarations give, beside what the readers on lists give.
use Rattle.std.specs.Prelude.{◌≡◌, ℕ, List, Option, Some, None}
use Rattle.std.specs.Borrow.{Bor}
use Rattle.c_syntax.specs.declared.token.Token.{Token}
use Rattle.c_syntax.specs.declared.decl.VarDecl.{VarDecl}
use Rattle.c_syntax.specs.Expr as e
use Rattle.c_syntax.specs.View.{view_var}

-- a parameter with its line
abbrev pub view_param : VarDecl × ℕ → e.VarDecl × ℕ
view_param v = (view_var v.0, v.1)

abbrev pub FindsRest : Option (Bor (List Token)) → Option (List Token) → Type 0
FindsRest (Some rest) given = given ≡ Some rest.now
FindsRest None given = given ≡ None
