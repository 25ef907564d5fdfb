-- Terms of annotations as functions on token lists (ACSL 2.2): what is read, and the tokens after it.
use Rattle.std.specs.Prelude.{ℕ, zero, suc, ◌-◌, ◌==◌, Bool, true, false, not, List, [], ◌∷◌, length, Option, Some, None, if◌then◌else◌}
use Rattle.c_syntax.specs.declared.token.Token.{Token}
use Rattle.c_syntax.specs.declared.token.TokenKind.{TokenKind}
use Rattle.c_syntax.specs.declared.token.TokenKind.TheVariants as k
use Rattle.c_syntax.specs.declared.token.Punct.TheVariants as p
use Rattle.c_syntax.specs.declared.token.Word.{Word}
use Rattle.c_syntax.specs.declared.token.Word.TheVariants as w
use Rattle.c_syntax.specs.declared.expr.UnOp.{UnOp}
use Rattle.c_syntax.specs.declared.expr.BinOp.{BinOp}
use Rattle.c_syntax.specs.declared.expr.BinOp.TheVariants as o
use Rattle.c_syntax.specs.Term as t
use Rattle.c_grammar.specs.Tokens.{Names, is_type, token}
use Rattle.c_grammar.specs.Operators.{binop_of, level, loosest, shift_level}
use Rattle.c_grammar.specs.Terms.{Place, anywhere, in_set, in_chain, inside_of, term_unop_of, is_entry}
use Rattle.c_grammar.specs.Reading.{Reader, ◌>>=◌, nothing, punct_at, name_at, levels, past}
use Rattle.c_grammar.specs.ListReaders.{more_separated}
use Rattle.parse_types.specs.Read.{starts_type, type_name_at}
use Rattle.parse_terms.specs.declared.tokens.Selector.{Selector}
use Rattle.parse_terms.specs.declared.tokens.Selector.TheVariants as selector

-- ---- operators

abbrev pub is_found : Option (Bool × List Token) → Bool
is_found None = false
is_found (Some x) = x.0

abbrev pub opens_range_by : TokenKind → List Token → Bool
opens_range_by (k.Punct p.OpenParen) ts = is_found (past 0 false ts)
opens_range_by _ ts = false

-- whether a parenthesis opens here, with `..` directly in it
unfoldable pub opens_range : List Token → Bool
opens_range [] = false
opens_range (t ∷ ts) = opens_range_by t.kind ts

-- `+` before such a parenthesis is no operator of two terms
abbrev pub is_operator : BinOp → List Token → Bool
is_operator o.Add ts = not (opens_range ts)
is_operator op ts = true

abbrev pub operator_of : (n line : ℕ) → Option BinOp → Reader (BinOp × ℕ)
operator_of n line None ts = None
operator_of n line (Some op) ts = if level op == n then (if is_operator op ts then Some ((op, line), ts) else None) else None

abbrev pub operator_by : (n line : ℕ) → TokenKind → Reader (BinOp × ℕ)
operator_by n line (k.Punct q) ts = operator_of n line (binop_of q) ts
operator_by n line _ ts = None

-- an operator of two terms of this level, with its line (C11 6.5.5 to 6.5.14)
unfoldable pub operator : (n : ℕ) → Reader (BinOp × ℕ)
operator n [] = None
operator n (t ∷ ts) = operator_by n t.line t.kind ts

abbrev pub joined : BinOp → (line : ℕ) → t.Term → t.Term → t.Term
joined op line a b = t.binary line op a b

abbrev pub prefix_of : (line : ℕ) → Option UnOp → Reader (UnOp × ℕ)
prefix_of line None ts = None
prefix_of line (Some op) ts = Some ((op, line), ts)

abbrev pub prefix_by : Place → (line : ℕ) → TokenKind → Reader (UnOp × ℕ)
prefix_by place line (k.Punct q) ts = prefix_of line (term_unop_of place q) ts
prefix_by place line _ ts = None

-- an operator before a term, with its line (C11 6.5.3)
unfoldable pub prefix_at : Place → Reader (UnOp × ℕ)
prefix_at place [] = None
prefix_at place (t ∷ ts) = prefix_by place t.line t.kind ts

abbrev pub cast_by : Names → (line : ℕ) → TokenKind → Reader ℕ
cast_by types line (k.Punct p.OpenParen) ts = if starts_type types ts then Some (line, ts) else None
cast_by types line _ ts = None

-- a parenthesis with a type behind it, with its line (C11 6.5.4)
unfoldable pub cast_at : Names → Reader ℕ
cast_at types [] = None
cast_at types (t ∷ ts) = cast_by types t.line t.kind ts

abbrev pub selector_by : (line : ℕ) → TokenKind → Reader (Selector × ℕ)
selector_by line (k.Punct p.OpenBracket) ts = Some ((selector.Index, line), ts)
selector_by line (k.Punct p.Dot) ts = Some ((selector.Dot, line), ts)
selector_by line (k.Punct p.Arrow) ts = Some ((selector.Arrow, line), ts)
selector_by line _ ts = None

-- what selects a part of a term, with its line (C11 6.5.2)
unfoldable pub selector_at : Reader (Selector × ℕ)
selector_at [] = None
selector_at (t ∷ ts) = selector_by t.line t.kind ts

-- ---- lists of terms

-- term {"," term}
abbrev pub terms_by : Reader t.Term → Reader (List t.Term)
terms_by one ts = one ts >>= λ a. more_separated one (length a.1) a.1 >>= λ as'. Some (a.0 ∷ as'.0, as'.1)

-- up to a closing parenthesis
abbrev pub closed : {X : Type 0} → Option (X × List Token) → Option (X × List Token)
closed read = read >>= λ a. punct_at p.CloseParen a.1 >>= λ end. Some (a.0, end.1)

abbrev pub args_after : Option (ℕ × List Token) → Reader t.Term → Reader (List t.Term)
args_after (Some end) inner ts = Some ([], end.1)
args_after None inner ts = closed (terms_by inner ts)

-- the arguments of a call, behind the parenthesis that opens them (C11 6.5.2.2)
abbrev pub args_at : (inner : Reader t.Term) → Reader (List t.Term)
args_at inner ts = args_after (punct_at p.CloseParen ts) inner ts

-- ---- operands

abbrev pub called : List ℕ → (line : ℕ) → Option (ℕ × List Token) → (args : Reader (List t.Term)) → Reader t.Term
called x line None args ts = Some (t.name line x, ts)
called x line (Some open') args ts = args open'.1 >>= λ as'. Some (t.call line x (t.terms_of as'.0), as'.1)

-- what comes after a name
abbrev pub named : Names → List ℕ → (line : ℕ) → (args : Reader (List t.Term)) → Reader t.Term
named types x line args ts = if is_type types x then None else called x line (punct_at p.OpenParen ts) args ts

-- what comes after `\old`
abbrev pub old_at : (line : ℕ) → (inner : Reader t.Term) → Reader t.Term
old_at line inner ts = punct_at p.OpenParen ts >>= λ open'. closed (inner open'.1) >>= λ a. Some (t.old line a.0, a.1)

-- what comes after `\at`
abbrev pub label_at : (line : ℕ) → (inner : Reader t.Term) → Reader t.Term
label_at line inner ts =
    punct_at p.OpenParen ts >>= λ open'. inner open'.1 >>= λ a. punct_at p.Comma a.1 >>= λ comma. name_at comma.1 >>= λ label.
    punct_at p.CloseParen label.1 >>= λ end. Some (t.at_label line a.0 label.0.0, end.1)

abbrev pub worded : Word → (line : ℕ) → (inner : Reader t.Term) → Reader t.Term
worded w.Result line inner ts = Some (t.result line, ts)
worded w.Null line inner ts = Some (t.null line, ts)
worded w.Old line inner ts = old_at line inner ts
worded w.At line inner ts = label_at line inner ts
worded _ line inner ts = None

abbrev pub primary_by : Names → (args : Reader (List t.Term)) → (inner group : Reader t.Term) → (line : ℕ) → TokenKind → Reader t.Term
primary_by types args inner group line (k.Number value base suffix) ts = Some (t.number line (token (k.Number value base suffix) line), ts)
primary_by types args inner group line (k.Char value) ts = Some (t.char line value, ts)
primary_by types args inner group line (k.Name x) ts = named types x line args ts
primary_by types args inner group line (k.Word v) ts = worded v line inner ts
primary_by types args inner group line (k.Punct p.OpenParen) ts = closed (group ts)
primary_by types args inner group line _ ts = None

-- A constant, a name, a call, `\result`, `\null`, `\old`, `\at`, or what stands in parentheses, where `args` reads the arguments of
-- calls, `inner` terms in brackets and `group` what parentheses alone enclose.
unfoldable pub primary : Names → (args : Reader (List t.Term)) → (inner group : Reader t.Term) → Reader t.Term
primary types args inner group [] = None
primary types args inner group (t ∷ ts) = primary_by types args inner group t.line t.kind ts

abbrev pub range_at : Place → Reader ℕ
range_at anywhere ts = None
range_at in_chain ts = None
range_at in_set ts = punct_at p.Range ts

abbrev pub ranged : Option (ℕ × List Token) → t.Term → (inner : Reader t.Term) → Reader t.Term
ranged None low inner ts = Some (low, ts)
ranged (Some dots) low inner ts = inner dots.1 >>= λ high. Some (t.range dots.0 low high.0, high.1)

-- a term, or in a set a range
abbrev pub offset_at : Place → (inner : Reader t.Term) → Reader t.Term
offset_at place inner ts = inner ts >>= λ low. ranged (range_at place low.1) low.0 inner low.1

abbrev pub index_at : Place → (inner : Reader t.Term) → (line : ℕ) → t.Term → Reader t.Term
index_at place inner line a ts = offset_at place inner ts >>= λ b. punct_at p.CloseBracket b.1 >>= λ end. Some (t.index line a b.0, end.1)

abbrev pub field_at : (arrow : Bool) → (line : ℕ) → t.Term → Reader t.Term
field_at arrow line a ts = name_at ts >>= λ f. Some (t.field line a f.0.0 arrow, f.1)

-- a part of the term, by what selects it
abbrev pub selected : Place → (inner : Reader t.Term) → Selector → (line : ℕ) → t.Term → Reader t.Term
selected place inner selector.Index line a ts = index_at place inner line a ts
selected place inner selector.Dot line a ts = field_at false line a ts
selected place inner selector.Arrow line a ts = field_at true line a ts

-- goes on with a part, or stops before what selects none
abbrev pub parted : Option ((Selector × ℕ) × List Token) → Place → (inner : Reader t.Term) → t.Term → List Token → (t.Term → Reader t.Term) → Option (t.Term × List Token)
parted None place inner a ts go = Some (a, ts)
parted (Some s) place inner a ts go = selected place inner s.0.0 s.0.1 a s.1 >>= λ b. go b.0 b.1

-- parts of parts, at most so many
unfoldable pub parts : Place → (inner : Reader t.Term) → (turns : ℕ) → t.Term → Reader t.Term
parts place inner zero a ts = Some (a, ts)
parts place inner (suc turns) a ts = parted (selector_at ts) place inner a ts (parts place inner turns)

-- primary {"[" term "]" | "." NAME | "->" NAME}
unfoldable pub postfix : Names → Place → (args : Reader (List t.Term)) → (inner group : Reader t.Term) → Reader t.Term
postfix types place args inner group ts = primary types args inner group ts >>= λ a. parts place inner (length a.1) a.0 a.1

-- what comes after the parenthesis of a cast
abbrev pub cast : Names → (same : Reader t.Term) → (line : ℕ) → Reader t.Term
cast types same line ts =
    type_name_at types ts >>= λ type'. punct_at p.CloseParen type'.1 >>= λ end. same end.1 >>= λ a. Some (t.cast line type'.0 a.0, a.1)

abbrev pub prefixed : (same : Reader t.Term) → UnOp → (line : ℕ) → Reader t.Term
prefixed same op line ts = same ts >>= λ a. Some (t.unary line op a.0, a.1)

abbrev pub operand_by : Option ((UnOp × ℕ) × List Token) → Option (ℕ × List Token) → Names → (same next : Reader t.Term) → Reader t.Term
operand_by (Some op) opened types same next ts = prefixed same op.0.0 op.0.1 op.1
operand_by None (Some opened) types same next ts = cast types same opened.0 opened.1
operand_by None None types same next ts = next ts

-- {prefix operator | "(" type {"*"} ")"} postfix, where `same` reads an operand in it
abbrev pub operand : Names → Place → (same : Reader t.Term) → (args : Reader (List t.Term)) → (inner group : Reader t.Term) → Reader t.Term
operand types place same args inner group ts = operand_by (prefix_at place ts) (cast_at types ts) types same (postfix types place args inner group) ts

-- ---- whole terms

-- what comes after `?`
abbrev pub choice : (deeper : Reader t.Term) → t.Term → (line : ℕ) → Reader t.Term
choice deeper a line ts =
    deeper ts >>= λ first. punct_at p.Colon first.1 >>= λ colon. deeper colon.1 >>= λ second. Some (t.cond line a first.0 second.0, second.1)

abbrev pub chosen : Option (ℕ × List Token) → (deeper : Reader t.Term) → t.Term → Reader t.Term
chosen None deeper a ts = Some (a, ts)
chosen (Some question) deeper a ts = choice deeper a question.0 question.1

-- binary ["?" term ":" term]
abbrev pub term : (operand deeper : Reader t.Term) → Reader t.Term
term operand deeper ts = levels joined operator loosest operand ts >>= λ a. chosen (punct_at p.Question a.1) deeper a.0 a.1

-- "(" lo ".." hi ")"
abbrev pub bounds : (inner : Reader t.Term) → Reader t.Term
bounds inner ts =
    punct_at p.OpenParen ts >>= λ open'. inner open'.1 >>= λ low. punct_at p.Range low.1 >>= λ dots. inner dots.1 >>= λ high.
    punct_at p.CloseParen high.1 >>= λ end. Some (t.range dots.0 low.0 high.0, end.1)

-- what comes after the `+` before a range
abbrev pub spread : (inner : Reader t.Term) → t.Term → (line : ℕ) → Reader t.Term
spread inner a line ts = bounds inner ts >>= λ b. Some (t.binary line o.Add a b.0, b.1)

abbrev pub spread_by : Option (ℕ × List Token) → (inner : Reader t.Term) → t.Term → Reader t.Term
spread_by None inner a ts = Some (a, ts)
spread_by (Some plus) inner a ts = spread inner a plus.0 plus.1

-- term ["+" "(" lo ".." hi ")"]
abbrev pub spread_term : (whole inner : Reader t.Term) → Reader t.Term
spread_term whole inner ts = whole ts >>= λ a. spread_by (punct_at p.Plus a.1) inner a.0 a.1

-- what parentheses enclose
abbrev pub group : Place → (whole inner : Reader t.Term) → Reader t.Term
group anywhere whole inner ts = whole ts
group in_chain whole inner ts = whole ts
group in_set whole inner ts = spread_term whole inner ts

-- ---- by room

-- what is read: an operand, a whole term, or what parentheses enclose
pub data Part : Type 0 where
  operands : Part
  wholes : Part
  groups : Part

abbrev pub Readers : Type 0
Readers = Part → Place → Reader t.Term

abbrev pub Args : Type 0
Args = Place → Reader (List t.Term)

-- with one more form that may open than in `below`
abbrev pub operand_over : Names → (below : Readers) → (args : Args) → Place → Reader t.Term
operand_over types below args place =
    operand types place (below operands place) (args (inside_of place)) (below wholes (inside_of place)) (below groups (inside_of place))

abbrev pub term_over : Names → (below : Readers) → (args : Args) → Place → Reader t.Term
term_over types below args place = term (operand_over types below args place) (below wholes place)

abbrev pub over : Names → (below : Readers) → (args : Args) → Readers
over types below args operands place = operand_over types below args place
over types below args wholes place = term_over types below args place
over types below args groups place = group place (term_over types below args place) (below wholes (inside_of place))

-- in which so many more forms may open
unfoldable pub read : Names → (room : ℕ) → Readers
read types zero = over types (λ part place. nothing) (λ place. nothing)
read types (suc room) = over types (read types room) (λ place. args_at (read types room wholes place))

-- in a form that opens where so many more may
unfoldable pub inner : Names → (room : ℕ) → Readers
inner types room part place ts = if room == 0 then None else read types (room - 1) part place ts

unfoldable pub inner_args : Names → (room : ℕ) → Args
inner_args types room place ts = if room == 0 then None else args_at (read types (room - 1) wholes place) ts

-- ---- what other readers use

unfoldable pub term_at : Names → (room : ℕ) → Reader t.Term
term_at types room ts = read types room wholes anywhere ts

-- operators up to the shifts: what stands between comparisons
unfoldable pub chain_term_at : Names → (room : ℕ) → Reader t.Term
chain_term_at types room ts = levels joined operator shift_level (read types room operands in_chain) ts

-- term {"," term}
unfoldable pub some_terms_at : Names → (room : ℕ) → Reader (List t.Term)
some_terms_at types room ts = terms_by (read types room wholes anywhere) ts

-- a term, or a term and a range of offsets from it (ACSL 2.7.1)
unfoldable pub pointer_at : Names → (room : ℕ) → Reader t.Term
pointer_at types room ts = spread_term (read types room wholes anywhere) (inner types room wholes anywhere) ts

-- an entry of a set (ACSL 2.3.4)
unfoldable pub entry_at : Names → (room : ℕ) → Reader t.Term
entry_at types room ts = read types room wholes in_set ts >>= λ a. if is_entry a.0 then Some a else None
