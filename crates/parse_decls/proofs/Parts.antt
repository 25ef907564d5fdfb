-- What declarations need of the readers of conditionals and expressions in them.
use Rattle.std.proofs.Common.{◌≡◌, ℕ, Bool, true, false, List, [], ◌∷◌, ◌++◌, Some, None}
use Rattle.c_syntax.specs.declared.token.Token.{Token}
use Rattle.c_syntax.specs.declared.token.TokenKind.{TokenKind}
use Rattle.c_syntax.specs.declared.token.TokenKind.TheVariants as k
use Rattle.c_syntax.specs.declared.token.Punct.TheVariants as p
use Rattle.c_syntax.specs.Expr as e
use Rattle.c_grammar.specs.Tokens.{Names}
use Rattle.c_grammar.specs.Exprs.{SpellsCond, SpellsExpr}
use Rattle.c_grammar.specs.Reading.{Reader, punct_at}
use Rattle.c_grammar.proofs.Readers.{Sound}

abbrev pub ends_by : TokenKind → Bool
ends_by (k.Punct p.CloseBracket) = true
ends_by (k.Punct p.Comma) = true
ends_by (k.Punct p.Semicolon) = true
ends_by (k.Punct p.CloseBrace) = true
ends_by _ = false

-- what comes behind a value in a declaration
abbrev pub ends_value : List Token → Bool
ends_value [] = false
ends_value (t ∷ ts) = ends_by t.kind

-- they read what is spelled, and nothing else
pub record Parts (types : Names) (cond expr : ℕ → Reader e.Expr) : Type 0 where
  pub cond_sound : (room : ℕ) → Sound (SpellsCond types room) (cond room)
  pub cond_complete : (room : ℕ) (xs : List Token) (a : e.Expr) → SpellsCond types room xs a → (rest : List Token) → ends_value rest ≡ true → cond room (xs ++ rest) ≡ Some (a, rest)
  pub cond_opens : (room : ℕ) (xs : List Token) (a : e.Expr) → SpellsCond types room xs a → (rest : List Token) → punct_at p.CloseBracket (xs ++ rest) ≡ None
  pub expr_sound : (room : ℕ) → Sound (SpellsExpr types room) (expr room)
  pub expr_complete : (room : ℕ) (xs : List Token) (a : e.Expr) → SpellsExpr types room xs a → (rest : List Token) → ends_value rest ≡ true → expr room (xs ++ rest) ≡ Some (a, rest)
