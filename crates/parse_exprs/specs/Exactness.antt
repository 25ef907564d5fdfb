-- What it is that the readers of expressions read what is spelled, and all of it.
use Rattle.std.specs.Prelude.{◌≡◌, ℕ, true}
use Rattle.c_grammar.specs.Tokens.{Names}
use Rattle.c_grammar.specs.Exprs.{SpellsCond, SpellsExpr}
use Rattle.c_grammar.specs.Exactness.{IsExact}
use Rattle.parse_exprs.specs.Read.{expr_at, cond_at, ends_expr}

abbrev pub ExprIsExact : Type 0
ExprIsExact = (types : Names) (room : ℕ) → IsExact (SpellsExpr types room) (λ rest. ends_expr rest ≡ true) (expr_at types room)

abbrev pub CondIsExact : Type 0
CondIsExact = (types : Names) (room : ℕ) → IsExact (SpellsCond types room) (λ rest. ends_expr rest ≡ true) (cond_at types room)
