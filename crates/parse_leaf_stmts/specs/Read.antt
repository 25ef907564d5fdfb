-- Parts of statements, statements that have none in them, and what tells statements apart (C11 6.8), as functions on token lists: what is read, and
-- the tokens after it.
use Rattle.std.specs.Prelude.{ℕ, Bool, true, false, ◌&&◌, nat_le, List, [], ◌∷◌, length, Option, Some, None, if◌then◌else◌}
use Rattle.c_syntax.specs.declared.token.Token.{Token}
use Rattle.c_syntax.specs.declared.token.TokenKind.{TokenKind}
use Rattle.c_syntax.specs.declared.token.TokenKind.TheVariants as k
use Rattle.c_syntax.specs.declared.token.Punct.{Punct}
use Rattle.c_syntax.specs.declared.token.Punct.TheVariants as p
use Rattle.c_syntax.specs.declared.token.Word.{Word}
use Rattle.c_syntax.specs.declared.token.Word.TheVariants as w
use Rattle.c_syntax.specs.Expr as e
use Rattle.c_syntax.specs.Stmt as s
use Rattle.c_syntax.specs.Contract.{LoopAnnot}
use Rattle.c_grammar.specs.Tokens.{Names, first_line}
use Rattle.c_grammar.specs.Stmts.{begins_labelled, defaults}
use Rattle.c_grammar.specs.Reading.{Reader, ◌>>=◌, punct_at, word_at, annot_close_at}
use Rattle.parse_types.specs.Read.{starts_type}
use Rattle.parse_exprs.specs.Read.{expr_at, cond_at}
use Rattle.parse_decls.specs.Read.{variables_at}
use Rattle.acsl_parser.specs.Read.{loop_at, assert_at}
use Rattle.parse_leaf_stmts.specs.declared.forms.Form.{Form}
use Rattle.parse_leaf_stmts.specs.declared.forms.Form.TheVariants as form

-- ---- first tokens

abbrev pub word_form : Word → Form
word_form w.If = form.If
word_form w.While = form.While
word_form w.Do = form.Do
word_form w.For = form.For
word_form w.Switch = form.Switch
word_form w.Break = form.Break
word_form w.Continue = form.Continue
word_form w.Return = form.Return
word_form w.SizeOf = form.Value
word_form _ = form.Nothing

abbrev pub punct_form : Punct → Form
punct_form p.Semicolon = form.Empty
punct_form p.OpenBrace = form.Block
punct_form p.CloseBrace = form.Nothing
punct_form _ = form.Value

-- which statement begins with a token of this kind
abbrev pub form_of : TokenKind → Form
form_of (k.Word v) = word_form v
form_of (k.Punct q) = punct_form q
form_of k.AnnotOpen = form.Annotated
form_of k.AnnotClose = form.Nothing
form_of _ = form.Value

-- ---- parts of statements

-- an expression and this punctuator
unfoldable pub ended_at : Names → (room : ℕ) → Punct → Reader e.Expr
ended_at types room q ts = expr_at types room ts >>= λ a. punct_at q a.1 >>= λ x. Some (a.0, x.1)

-- "(" expr ")"
unfoldable pub test_at : Names → (room : ℕ) → Reader e.Expr
test_at types room ts = punct_at p.OpenParen ts >>= λ x. ended_at types room p.CloseParen x.1

abbrev pub optional_by : Option (ℕ × List Token) → Option (e.Expr × List Token) → Option (Option e.Expr × List Token)
optional_by (Some x) read = Some (None, x.1)
optional_by None read = read >>= λ a. Some (Some a.0, a.1)

-- [expr] and this punctuator
unfoldable pub optional_at : Names → (room : ℕ) → Punct → Reader (Option e.Expr)
optional_at types room q ts = optional_by (punct_at q ts) (ended_at types room q ts)

-- a declaration of variables
unfoldable pub locals_at : Names → (room : ℕ) → Reader s.Stmt
locals_at types room ts = variables_at types room ts >>= λ vs. Some (s.locals (first_line ts) vs.0, vs.1)

-- an expression and a semicolon
unfoldable pub value_at : Names → (room : ℕ) → Reader s.Stmt
value_at types room ts = ended_at types room p.Semicolon ts >>= λ a. Some (s.expr (first_line ts) a.0, a.1)

abbrev pub first_by : Option (ℕ × List Token) → (declares : Bool) → (locals value : Option (s.Stmt × List Token)) → Option (s.Stmt × List Token)
first_by (Some x) declares locals value = Some (s.empty x.0, x.1)
first_by None true locals value = locals
first_by None false locals value = value

-- what a `for` does first (C11 6.8.5.3)
unfoldable pub first_at : Names → (room : ℕ) → Reader s.Stmt
first_at types room ts = first_by (punct_at p.Semicolon ts) (starts_type types ts) (locals_at types room ts) (value_at types room ts)

-- ---- statements without statements in them

-- a semicolon, behind `break` or `continue`, where it may stand (C11 6.8.6)
abbrev pub jump_at : (allowed : Bool) → s.Stmt → Reader s.Stmt
jump_at allowed a ts = if allowed then (punct_at p.Semicolon ts >>= λ x. Some (a, x.1)) else None

unfoldable pub break_at : (allowed : Bool) → (line : ℕ) → Reader s.Stmt
break_at allowed line ts = jump_at allowed (s.break line) ts

unfoldable pub continue_at : (allowed : Bool) → (line : ℕ) → Reader s.Stmt
continue_at allowed line ts = jump_at allowed (s.continue line) ts

-- what comes behind `return`
unfoldable pub return_at : Names → (room line : ℕ) → Reader s.Stmt
return_at types room line ts = optional_at types room p.Semicolon ts >>= λ a. Some (s.return_of line a.0, a.1)

abbrev pub plain_by : Names → (room : ℕ) → (loops breaks : Bool) → (line : ℕ) → Form → (ts all : List Token) → Option (s.Stmt × List Token)
plain_by types room loops breaks line form.Empty ts all = Some (s.empty line, ts)
plain_by types room loops breaks line form.Break ts all = break_at breaks line ts
plain_by types room loops breaks line form.Continue ts all = continue_at loops line ts
plain_by types room loops breaks line form.Return ts all = return_at types room line ts
plain_by types room loops breaks line form.Value ts all = value_at types room all
plain_by types room loops breaks line _ ts all = None

-- a statement that has none in it, and is no assertion
unfoldable pub plain_at : Names → (room : ℕ) → (loops breaks : Bool) → Reader s.Stmt
plain_at types room loops breaks [] = None
plain_at types room loops breaks (t ∷ ts) = plain_by types room loops breaks t.line (form_of t.kind) ts (t ∷ ts)

-- an assertion and the end of its annotation (ACSL 2.4.1)
unfoldable pub assertion_at : Names → (room : ℕ) → Reader s.Stmt
assertion_at types room ts = assert_at types room ts >>= λ a. annot_close_at a.1 >>= λ x. Some (s.assert a.0.1 a.0.0, x.1)

-- the annotation of a loop and its end (ACSL 2.4.2), where the tokens are among the last `end`
unfoldable pub loop_annot_at : Names → (room end : ℕ) → Reader LoopAnnot
loop_annot_at types room end ts =
    if nat_le (length ts) end then (loop_at types room end ts >>= λ a. annot_close_at a.1 >>= λ x. Some (a.0, x.1)) else None

-- a conditional and a colon, behind `case`
unfoldable pub case_at : Names → (room line : ℕ) → Reader s.Stmt
case_at types room line ts = cond_at types room ts >>= λ a. punct_at p.Colon a.1 >>= λ x. Some (s.case_of line a.0, x.1)

-- a colon, behind `default`
unfoldable pub default_at : (line : ℕ) → Reader s.Stmt
default_at line ts = punct_at p.Colon ts >>= λ x. Some (s.default line, x.1)

-- "while" "(" expr ")" ";"
unfoldable pub do_end_at : Names → (room : ℕ) → Reader e.Expr
do_end_at types room ts = word_at w.While ts >>= λ x. test_at types room x.1 >>= λ e. punct_at p.Semicolon e.1 >>= λ y. Some (e.0, y.1)

-- "(" first [expr] ";" [expr] ")"
unfoldable pub head_at : Names → (room : ℕ) → Reader (s.Stmt × Option e.Expr × Option e.Expr)
head_at types room ts =
    punct_at p.OpenParen ts >>= λ x. first_at types room x.1 >>= λ i. optional_at types room p.Semicolon i.1 >>= λ c.
    optional_at types room p.CloseParen c.1 >>= λ n. Some ((i.0, c.0, n.0), n.1)

abbrev pub is_default : s.Stmt → Bool
is_default (s.default line) = true
is_default a = false

-- no statement comes before the first label, and there is at most one `default`
abbrev pub is_switch : s.Stmts → Bool
is_switch body = begins_labelled body && nat_le (defaults body) 1
