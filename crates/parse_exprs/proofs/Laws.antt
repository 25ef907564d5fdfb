-- What other crates need to know of expressions.
use Rattle.std.proofs.Common.{◌≡◌, ℕ, true, false, List, ◌++◌, Some}
use Rattle.c_syntax.specs.declared.token.Token.{Token}
use Rattle.c_syntax.specs.Expr as e
use Rattle.c_grammar.specs.Tokens.{Names}
use Rattle.c_grammar.specs.Exprs.{SpellsCond, SpellsExpr}
use Rattle.c_grammar.proofs.Readers.{Sound}
use Rattle.parse_types.specs.Read.{starts_type}
use Rattle.parse_exprs.specs.Read.{expr_at, cond_at, starts_expr, ends_expr}
use Rattle.parse_exprs.proofs.First as first
use Rattle.parse_exprs.proofs.Sound as sound
use Rattle.parse_exprs.proofs.Complete as complete

pub expr_sound : (types : Names) (room : ℕ) → Sound (SpellsExpr types room) (expr_at types room)
expr_sound = sound.expr_sound

pub cond_sound : (types : Names) (room : ℕ) → Sound (SpellsCond types room) (cond_at types room)
cond_sound = sound.cond_sound

pub expr_complete : (types : Names) (room : ℕ) (xs : List Token) (a : e.Expr) → SpellsExpr types room xs a → (rest : List Token) → ends_expr rest ≡ true → expr_at types room (xs ++ rest) ≡ Some (a, rest)
expr_complete = complete.expr_read

pub cond_complete : (types : Names) (room : ℕ) (xs : List Token) (a : e.Expr) → SpellsCond types room xs a → (rest : List Token) → ends_expr rest ≡ true → cond_at types room (xs ++ rest) ≡ Some (a, rest)
cond_complete = complete.cond_read

-- ---- first tokens

pub expr_starts : (types : Names) (room : ℕ) (xs : List Token) (a : e.Expr) → SpellsExpr types room xs a → (rest : List Token) → starts_expr types (xs ++ rest) ≡ true
expr_starts types room xs a s rest = first.expression_starts s rest

pub cond_starts : (types : Names) (room : ℕ) (xs : List Token) (a : e.Expr) → SpellsCond types room xs a → (rest : List Token) → starts_expr types (xs ++ rest) ≡ true
cond_starts types room xs a s rest = first.cond_starts s rest

-- no expression begins like a type
pub starts_no_type : (types : Names) (ts : List Token) → starts_expr types ts ≡ true → starts_type types ts ≡ false
starts_no_type = first.starts_no_type
