-- What may come behind a predicate, and the operators of predicates (ACSL 2.2).
use Rattle.std.specs.Prelude.{ℕ, ◌==◌, Bool, true, false, List, [], ◌∷◌, Option, Some, None, if◌then◌else◌}
use Rattle.c_syntax.specs.declared.token.Token.{Token}
use Rattle.c_syntax.specs.declared.token.TokenKind.{TokenKind}
use Rattle.c_syntax.specs.declared.token.TokenKind.TheVariants as k
use Rattle.c_syntax.specs.declared.token.Punct.{Punct}
use Rattle.c_syntax.specs.declared.token.Punct.TheVariants as p
use Rattle.c_syntax.specs.declared.expr.BinOp.{BinOp}
use Rattle.c_grammar.specs.Operators.{comparison_of, Connective, connective_of, connective_level}
use Rattle.c_grammar.specs.Reading.{Reader}

-- Whether a punctuator may come behind an atom: it is no comparison, no operator that binds tighter, and no bracket or access to a part.
abbrev pub ends_atom_by : Punct → Bool
ends_atom_by p.Less = false
ends_atom_by p.AtMost = false
ends_atom_by p.Greater = false
ends_atom_by p.AtLeast = false
ends_atom_by p.Equal = false
ends_atom_by p.NotEqual = false
ends_atom_by p.Star = false
ends_atom_by p.Slash = false
ends_atom_by p.Percent = false
ends_atom_by p.Plus = false
ends_atom_by p.Minus = false
ends_atom_by p.Shl = false
ends_atom_by p.Shr = false
ends_atom_by p.OpenParen = false
ends_atom_by p.OpenBracket = false
ends_atom_by p.Dot = false
ends_atom_by p.Arrow = false
ends_atom_by _ = true

-- the same behind a whole predicate: no connective either
abbrev pub ends_pred_by : Punct → Bool
ends_pred_by p.And = false
ends_pred_by p.Xor = false
ends_pred_by p.Or = false
ends_pred_by p.Implies = false
ends_pred_by p.Iff = false
ends_pred_by p.Question = false
ends_pred_by q = ends_atom_by q

abbrev pub ends_by : (Punct → Bool) → TokenKind → Bool
ends_by ends (k.Punct q) = ends q
ends_by ends _ = true

abbrev pub ends : (Punct → Bool) → List Token → Bool
ends test [] = true
ends test (t ∷ ts) = ends_by test t.kind

-- whether an atom may end here
unfoldable pub ends_atom : List Token → Bool
ends_atom ts = ends ends_atom_by ts

-- whether a predicate may end here
unfoldable pub ends_pred : List Token → Bool
ends_pred ts = ends ends_pred_by ts

-- ---- operators

abbrev pub if_some : {X : Type 0} → Option X → (line : ℕ) → Reader (X × ℕ)
if_some None line ts = None
if_some (Some x) line ts = Some ((x, line), ts)

abbrev pub comparison_by : (line : ℕ) → TokenKind → Reader (BinOp × ℕ)
comparison_by line (k.Punct q) ts = if_some (comparison_of q) line ts
comparison_by line _ ts = None

-- a comparison, with its line
unfoldable pub comparison_at : Reader (BinOp × ℕ)
comparison_at [] = None
comparison_at (t ∷ ts) = comparison_by t.line t.kind ts

abbrev pub of_level : (n : ℕ) → Option Connective → Option Connective
of_level n None = None
of_level n (Some c) = if connective_level c == n then Some c else None

abbrev pub connective_by : (n line : ℕ) → TokenKind → Reader (Connective × ℕ)
connective_by n line (k.Punct q) ts = if_some (of_level n (connective_of q)) line ts
connective_by n line _ ts = None

-- a connective of the level, with its line
unfoldable pub connective_at : (n : ℕ) → Reader (Connective × ℕ)
connective_at n [] = None
connective_at n (t ∷ ts) = connective_by n t.line t.kind ts
