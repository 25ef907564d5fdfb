-- The reader of expressions (C11 6.5) as functions on token lists: what is read, and the tokens after it.
use Rattle.std.specs.Prelude.{ℕ, zero, suc, ◌-◌, ◌==◌, Bool, true, false, not, ◌&&◌, List, [], ◌∷◌, length, Option, Some, None, if◌then◌else◌}
use Rattle.c_syntax.specs.declared.token.Token.{Token}
use Rattle.c_syntax.specs.declared.token.TokenKind.{TokenKind}
use Rattle.c_syntax.specs.declared.token.TokenKind.TheVariants as k
use Rattle.c_syntax.specs.declared.token.Punct.{Punct}
use Rattle.c_syntax.specs.declared.token.Punct.TheVariants as p
use Rattle.c_syntax.specs.declared.token.Word.TheVariants as w
use Rattle.c_syntax.specs.declared.expr.BinOp.{BinOp}
use Rattle.c_syntax.specs.Expr as e
use Rattle.c_grammar.specs.Tokens.{Names, is_type, token}
use Rattle.c_grammar.specs.Operators.{binop_of, loosest, assign_of}
use Rattle.c_grammar.specs.Reading.{Reader, ◌>>=◌, nothing, punct_at, word_at, name_at, chain, levels}
use Rattle.parse_types.specs.Read.{starts_type, type_name_at}
use Rattle.parse_exprs.specs.declared.operators.Prefix.{Prefix}
use Rattle.parse_exprs.specs.declared.operators.Prefix.TheVariants as before
use Rattle.parse_exprs.specs.declared.operators.Suffix.{Suffix}
use Rattle.parse_exprs.specs.declared.operators.Suffix.TheVariants as behind
use Rattle.parse_exprs.specs.Operators.{operator, assign_at, prefix_at, prefix_of, suffix_at, suffix_of}

-- what reads the forms inside a form
pub record Inside : Type 0 where
  pub unary : Reader e.Expr
  pub cond : Reader e.Expr
  pub expr : Reader e.Expr
  -- up to the closing parenthesis
  pub args : Reader (List e.Expr)
  pub type_name : Reader e.CType

-- ---- what stands in brackets

-- an expression and the punctuator that closes it
unfoldable pub enclosed : (close : Punct) → Inside → Reader e.Expr
enclosed close inside ts = inside.expr ts >>= λ a. punct_at close a.1 >>= λ c. Some (a.0, c.1)

abbrev pub arg_end : e.Expr → (comma close : Option (ℕ × List Token)) → Option ((e.Expr × Bool) × List Token)
arg_end a (Some c) close = Some ((a, true), c.1)
arg_end a None close = close >>= λ c. Some ((a, false), c.1)

-- an argument and what stands behind it: whether a comma, or the closing parenthesis
unfoldable pub arg : Reader e.Expr → Reader (e.Expr × Bool)
arg expr ts = expr ts >>= λ a. arg_end a.0 (punct_at p.Comma a.1) (punct_at p.CloseParen a.1)

abbrev pub args_then : (another : Bool) → e.Expr → List Token → Reader (List e.Expr) → Option (List e.Expr × List Token)
args_then true a ts go = go ts >>= λ es. Some (a ∷ es.0, es.1)
args_then false a ts go = Some (a ∷ [], ts)

-- at least one argument, at most so many
unfoldable pub some_args : Reader e.Expr → (turns : ℕ) → Reader (List e.Expr)
some_args expr zero ts = None
some_args expr (suc turns) ts = arg expr ts >>= λ a. args_then a.0.1 a.0.0 a.1 (some_args expr turns)

abbrev pub args_or_close : Reader e.Expr → Option (ℕ × List Token) → Reader (List e.Expr)
args_or_close expr (Some c) ts = Some ([], c.1)
args_or_close expr None ts = some_args expr (length ts) ts

-- the arguments of a call, and its closing parenthesis
unfoldable pub args_over : Reader e.Expr → Reader (List e.Expr)
args_over expr ts = args_or_close expr (punct_at p.CloseParen ts) ts

-- ---- primary expressions (C11 6.5.1, 6.5.2.2)

-- a call where a parenthesis comes next, else a variable
abbrev pub named_by : Inside → List ℕ → (line : ℕ) → Option (ℕ × List Token) → Reader e.Expr
named_by inside x line None ts = Some (e.name line x, ts)
named_by inside x line (Some o) ts = inside.args o.1 >>= λ es. Some (e.call line x (e.exprs_of es.0), es.1)

unfoldable pub named : Names → Inside → List ℕ → (line : ℕ) → Reader e.Expr
named types inside x line ts = if is_type types x then None else named_by inside x line (punct_at p.OpenParen ts) ts

abbrev pub primary_by : Names → Inside → (line : ℕ) → TokenKind → Reader e.Expr
primary_by types inside line (k.Number value base suffix) ts = Some (e.number line (token (k.Number value base suffix) line), ts)
primary_by types inside line (k.Char value) ts = Some (e.char line value, ts)
primary_by types inside line (k.Name x) ts = named types inside x line ts
primary_by types inside line (k.Punct p.OpenParen) ts = enclosed p.CloseParen inside ts
primary_by types inside line _ ts = None

abbrev pub primary_first : Names → Inside → Reader e.Expr
primary_first types inside [] = None
primary_first types inside (t ∷ ts) = primary_by types inside t.line t.kind ts

unfoldable pub primary : Names → Inside → Reader e.Expr
primary types inside ts = primary_first types inside ts

-- ---- postfix expressions (C11 6.5.2)

-- what stands behind such an operator
abbrev pub suffix_by : Inside → Suffix → (line : ℕ) → e.Expr → Reader e.Expr
suffix_by inside behind.Index line a ts = enclosed p.CloseBracket inside ts >>= λ b. Some (e.index line a b.0, b.1)
suffix_by inside (behind.Field arrow) line a ts = name_at ts >>= λ x. Some (e.field line a x.0.0 arrow, x.1)
suffix_by inside (behind.Step up) line a ts = Some (e.step line up false a, ts)

unfoldable pub suffix : Inside → Suffix → (line : ℕ) → e.Expr → Reader e.Expr
suffix inside how line a ts = suffix_by inside how line a ts

abbrev pub suffixed : Inside → Option ((Suffix × ℕ) × List Token) → e.Expr → List Token → (e.Expr → Reader e.Expr) → Option (e.Expr × List Token)
suffixed inside None a ts go = Some (a, ts)
suffixed inside (Some x) a ts go = suffix inside x.0.0 x.0.1 a x.1 >>= λ b. go b.0 b.1

-- at most so many operators behind an operand
unfoldable pub suffixes : Inside → (turns : ℕ) → e.Expr → Reader e.Expr
suffixes inside zero a ts = Some (a, ts)
suffixes inside (suc turns) a ts = suffixed inside (suffix_at ts) a ts (suffixes inside turns)

unfoldable pub postfix : Names → Inside → Reader e.Expr
postfix types inside ts = primary types inside ts >>= λ a. suffixes inside (length a.1) a.0 a.1

-- ---- unary expressions (C11 6.5.3, 6.5.4)

abbrev pub prefixed_by : Prefix → (line : ℕ) → e.Expr → e.Expr
prefixed_by (before.Operator op) line a = e.unary line op a
prefixed_by (before.Step up) line a = e.step line up true a

unfoldable pub prefixed : Inside → Prefix → (line : ℕ) → Reader e.Expr
prefixed inside how line ts = inside.unary ts >>= λ a. Some (prefixed_by how line a.0, a.1)

unfoldable pub sizeof : Inside → (line : ℕ) → Reader e.Expr
sizeof inside line ts =
    punct_at p.OpenParen ts >>= λ o. inside.type_name o.1 >>= λ t. punct_at p.CloseParen t.1 >>= λ c. Some (e.sizeof line t.0, c.1)

-- behind its opening parenthesis
unfoldable pub cast : Inside → (line : ℕ) → Reader e.Expr
cast inside line ts =
    inside.type_name ts >>= λ t. punct_at p.CloseParen t.1 >>= λ c. inside.unary c.1 >>= λ a. Some (e.cast line t.0 a.0, a.1)

abbrev pub before_type : Names → ℕ × List Token → Option (ℕ × List Token)
before_type types o = if starts_type types o.1 then Some o else None

-- the parenthesis of a cast: a type comes behind it
unfoldable pub cast_at : Names → Reader ℕ
cast_at types ts = punct_at p.OpenParen ts >>= before_type types

abbrev pub unary_by : Names → Inside → Option ((Prefix × ℕ) × List Token) → (size_of cast_open : Option (ℕ × List Token)) → Reader e.Expr
unary_by types inside (Some x) size_of cast_open ts = prefixed inside x.0.0 x.0.1 x.1
unary_by types inside None (Some x) cast_open ts = sizeof inside x.0 x.1
unary_by types inside None None (Some x) ts = cast inside x.0 x.1
unary_by types inside None None None ts = postfix types inside ts

unfoldable pub unary_over : Names → Inside → Reader e.Expr
unary_over types inside ts = unary_by types inside (prefix_at ts) (word_at w.SizeOf ts) (cast_at types ts) ts

-- ---- operators of two operands (C11 6.5.5 to 6.5.14)

-- operators up to the level, from the first operand on
unfoldable pub levels_from : {X O : Type 0} → (make : O → ℕ → X → X → X) → (operator : ℕ → Reader (O × ℕ)) → (n : ℕ) → Reader X → X → Reader X
levels_from make operator zero operand a ts = Some (a, ts)
levels_from make operator (suc n) operand a ts =
    levels_from make operator n operand a ts >>= λ b. chain make (operator (suc n)) (levels make operator n operand) (length b.1) b.0 b.1

abbrev pub binary_make : BinOp → ℕ → e.Expr → e.Expr → e.Expr
binary_make op line a b = e.binary line op a b

abbrev pub binary : (n : ℕ) → Reader e.Expr → Reader e.Expr
binary n operand = levels binary_make operator n operand

abbrev pub binary_from : (n : ℕ) → Reader e.Expr → e.Expr → Reader e.Expr
binary_from n operand = levels_from binary_make operator n operand

abbrev pub binary_chain : (n : ℕ) → Reader e.Expr → (turns : ℕ) → e.Expr → Reader e.Expr
binary_chain n operand = chain binary_make (operator n) operand

-- ---- conditionals (C11 6.5.15)

-- both arms, behind the question mark
unfoldable pub arms : Inside → Reader (e.Expr × e.Expr)
arms inside ts = enclosed p.Colon inside ts >>= λ b. inside.cond b.1 >>= λ c. Some ((b.0, c.0), c.1)

abbrev pub chosen : Inside → Option (ℕ × List Token) → e.Expr → Reader e.Expr
chosen inside None a ts = Some (a, ts)
chosen inside (Some q) a ts = arms inside q.1 >>= λ b. Some (e.cond q.0 a b.0.0 b.0.1, b.1)

-- from its first operand on
unfoldable pub cond_from : Inside → (unary : Reader e.Expr) → e.Expr → Reader e.Expr
cond_from inside unary a ts = binary_from loosest unary a ts >>= λ b. chosen inside (punct_at p.Question b.1) b.0 b.1

unfoldable pub cond_over : Names → Inside → Reader e.Expr
cond_over types inside ts = unary_over types inside ts >>= λ a. cond_from inside (unary_over types inside) a.0 a.1

-- ---- assignments (C11 6.5.16)

-- the operator of an assignment and what is assigned, or no assignment
abbrev pub assigned : Option ((Option BinOp × ℕ) × List Token) → e.Expr → List Token → (finish : e.Expr → Reader e.Expr) → Reader e.Expr → Option (e.Expr × List Token)
assigned None a ts finish go = finish a ts
assigned (Some x) a ts finish go = go x.1 >>= λ b. Some (e.assign x.0.1 x.0.0 a b.0, b.1)

-- places to be assigned to, fewer than so many, and then the value
unfoldable pub assigns : (unary : Reader e.Expr) → (finish : e.Expr → Reader e.Expr) → (turns : ℕ) → Reader e.Expr
assigns unary finish zero ts = None
assigns unary finish (suc turns) ts = unary ts >>= λ a. assigned (assign_at a.1) a.0 a.1 finish (assigns unary finish turns)

unfoldable pub expr_over : Names → Inside → Reader e.Expr
expr_over types inside ts = assigns (unary_over types inside) (cond_from inside (unary_over types inside)) (length ts) ts

-- ---- with so many more forms open

abbrev pub closed : Inside
closed = record { unary = nothing; cond = nothing; expr = nothing; args = nothing; type_name = nothing }

abbrev pub over : Names → Inside → Inside
over types inside = record {
  unary = unary_over types inside;
  cond = cond_over types inside;
  expr = expr_over types inside;
  args = args_over (expr_over types inside);
  type_name = type_name_at types;
}

unfoldable pub forms : Names → (room : ℕ) → Inside
forms types zero = over types closed
forms types (suc room) = over types (forms types room)

abbrev pub unary_at : Names → (room : ℕ) → Reader e.Expr
unary_at types room = (forms types room).unary

-- a conditional, as the length of an array and the value of `case` want one (C11 6.6)
abbrev pub cond_at : Names → (room : ℕ) → Reader e.Expr
cond_at types room = (forms types room).cond

abbrev pub expr_at : Names → (room : ℕ) → Reader e.Expr
expr_at types room = (forms types room).expr

abbrev pub args_at : Names → (room : ℕ) → Reader (List e.Expr)
args_at types room = (forms types room).args

abbrev pub if_room : {X : Type 0} → ℕ → Reader X → Reader X
if_room room read ts = if room == 0 then None else read ts

-- one form less may be open inside
abbrev pub inside : Names → (room : ℕ) → Inside
inside types room = record {
  unary = if_room room (unary_at types (room - 1));
  cond = if_room room (cond_at types (room - 1));
  expr = if_room room (expr_at types (room - 1));
  args = if_room room (args_at types (room - 1));
  type_name = if_room room (forms types (room - 1)).type_name;
}

-- a conditional, from its first operand on
abbrev pub finish : Names → (room : ℕ) → e.Expr → Reader e.Expr
finish types room = cond_from (inside types room) (unary_at types room)

-- ---- what comes first, and what comes next

abbrev pub is_none : {X : Type 0} → Option X → Bool
is_none None = true
is_none (Some x) = false

abbrev pub starts_by : Names → TokenKind → Bool
starts_by types (k.Number value base suffix) = true
starts_by types (k.Char value) = true
starts_by types (k.Name x) = not (is_type types x)
starts_by types (k.Word w.SizeOf) = true
starts_by types (k.Punct p.OpenParen) = true
starts_by types (k.Punct q) = not (is_none (prefix_of q))
starts_by types _ = false

-- the first token may begin an expression
abbrev pub starts_expr : Names → List Token → Bool
starts_expr types [] = false
starts_expr types (t ∷ ts) = starts_by types t.kind

-- behind which no expression can end: an operator, or an opening bracket
abbrev pub goes_on : Punct → Bool
goes_on p.Question = true
goes_on p.OpenParen = true
goes_on q = not (is_none (binop_of q) && is_none (assign_of q) && is_none (suffix_of q))

abbrev pub ends_by : TokenKind → Bool
ends_by (k.Punct q) = not (goes_on q)
ends_by _ = true

-- an expression ends where this comes next: no operator, no `?`, no opening bracket
abbrev pub ends_expr : List Token → Bool
ends_expr [] = true
ends_expr (t ∷ ts) = ends_by t.kind
