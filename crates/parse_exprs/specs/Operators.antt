-- Operators at the front of a list of tokens.
use Rattle.std.specs.Prelude.{ℕ, ◌==◌, Bool, true, false, List, [], ◌∷◌, Option, Some, None, if◌then◌else◌}
use Rattle.c_syntax.specs.declared.token.Token.{Token}
use Rattle.c_syntax.specs.declared.token.TokenKind.{TokenKind}
use Rattle.c_syntax.specs.declared.token.TokenKind.TheVariants as k
use Rattle.c_syntax.specs.declared.token.Punct.{Punct}
use Rattle.c_syntax.specs.declared.token.Punct.TheVariants as p
use Rattle.c_syntax.specs.declared.expr.UnOp.{UnOp}
use Rattle.c_syntax.specs.declared.expr.BinOp.{BinOp}
use Rattle.c_grammar.specs.Operators.{unop_of, step_of, binop_of, level, assign_of}
use Rattle.c_grammar.specs.Reading.{Reader}
use Rattle.parse_exprs.specs.declared.operators.Prefix.{Prefix}
use Rattle.parse_exprs.specs.declared.operators.Prefix.TheVariants as before
use Rattle.parse_exprs.specs.declared.operators.Suffix.{Suffix}
use Rattle.parse_exprs.specs.declared.operators.Suffix.TheVariants as behind

-- ---- a punctuator that comes first, by a table

abbrev pub found : {X : Type 0} → Option X → (line : ℕ) → List Token → Option ((X × ℕ) × List Token)
found None line ts = None
found (Some x) line ts = Some ((x, line), ts)

abbrev pub found_by : {X : Type 0} → (Punct → Option X) → (line : ℕ) → TokenKind → List Token → Option ((X × ℕ) × List Token)
found_by table line (k.Punct q) ts = found (table q) line ts
found_by table line _ ts = None

abbrev pub found_at : {X : Type 0} → (Punct → Option X) → Reader (X × ℕ)
found_at table [] = None
found_at table (t ∷ ts) = found_by table t.line t.kind ts

-- ---- the tables

-- an operator of two operands, if it is of this level
abbrev pub at_level : (n : ℕ) → Option BinOp → Option BinOp
at_level n None = None
at_level n (Some op) = if level op == n then Some op else None

abbrev pub level_table : (n : ℕ) → Punct → Option BinOp
level_table n q = at_level n (binop_of q)

abbrev pub before_of : Option UnOp → Option Bool → Option Prefix
before_of (Some op) up = Some (before.Operator op)
before_of None (Some up) = Some (before.Step up)
before_of None None = None

-- before an operand (C11 6.5.3)
abbrev pub prefix_of : Punct → Option Prefix
prefix_of q = before_of (unop_of q) (step_of q)

-- behind an operand (C11 6.5.2)
abbrev pub suffix_of : Punct → Option Suffix
suffix_of p.OpenBracket = Some behind.Index
suffix_of p.Dot = Some (behind.Field false)
suffix_of p.Arrow = Some (behind.Field true)
suffix_of p.Increment = Some (behind.Step true)
suffix_of p.Decrement = Some (behind.Step false)
suffix_of _ = None

-- ---- the readers, each with the line of the operator

-- an operator of two operands, of this level (C11 6.5.5 to 6.5.14)
unfoldable pub operator : (n : ℕ) → Reader (BinOp × ℕ)
operator n ts = found_at (level_table n) ts

-- an operator of assignment (C11 6.5.16)
unfoldable pub assign_at : Reader (Option BinOp × ℕ)
assign_at ts = found_at assign_of ts

unfoldable pub prefix_at : Reader (Prefix × ℕ)
prefix_at ts = found_at prefix_of ts

unfoldable pub suffix_at : Reader (Suffix × ℕ)
suffix_at ts = found_at suffix_of ts
