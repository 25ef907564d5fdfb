-- First tokens: what may begin an expression, and what may come after one.
use Rattle.std.proofs.Common.{◌≡◌, ℕ, suc, eqb, Bool, true, false, not, List, [], ◌∷◌, ◌++◌, Option, Some, None, refl, sym, ap, ◌∙◌, subst, arith, append_assoc}
use Rattle.std.proofs.lemmas.Bool.Decides.{Decides-eqb, nat_tests}
use Rattle.c_syntax.specs.declared.token.Token.{Token}
use Rattle.c_syntax.specs.declared.token.TokenKind.{TokenKind}
use Rattle.c_syntax.specs.declared.token.TokenKind.TheVariants as k
use Rattle.c_syntax.specs.declared.token.Punct.{Punct}
use Rattle.c_syntax.specs.declared.token.Punct.TheVariants as p
use Rattle.c_syntax.specs.declared.token.Word.TheVariants as w
use Rattle.c_syntax.specs.declared.expr.UnOp.{UnOp}
use Rattle.c_syntax.specs.declared.expr.BinOp.{BinOp}
use Rattle.c_syntax.specs.Expr as e
use Rattle.c_grammar.specs.Tokens.{Names, is_type, punct, token}
use Rattle.c_grammar.specs.Operators.{unop_of, step_of, binop_of, level, assign_of, field_of}
use Rattle.c_grammar.specs.Exprs as g
use Rattle.c_grammar.specs.Exprs.{SpellsPrimary, SpellsSomeArgs, SpellsPostfix, SpellsUnary, SpellsBinary, SpellsCond, SpellsExpr}
use Rattle.c_grammar.specs.Reading.{punct_at, word_at}
use Rattle.c_grammar.proofs.Levels.{Ends}
use Rattle.parse_types.specs.Read.{starts_type, kind_starts}
use Rattle.parse_exprs.specs.declared.operators.Prefix.{Prefix}
use Rattle.parse_exprs.specs.declared.operators.Prefix.TheVariants as before
use Rattle.parse_exprs.specs.declared.operators.Suffix.{Suffix}
use Rattle.parse_exprs.specs.declared.operators.Suffix.TheVariants as behind
use Rattle.parse_exprs.specs.Operators.{found_at, before_of, prefix_of, suffix_of, operator, assign_at, prefix_at, suffix_at}
use Rattle.parse_exprs.specs.Read.{cast_at, starts_by, starts_expr, goes_on, ends_by, ends_expr}

-- ---- what is found where a punctuator comes

pub found_here : {X : Type 0} (table : Punct → Option X) (q : Punct) (x : X) (line : ℕ) (ts : List Token) → table q ≡ Some x → found_at table (punct q line ∷ ts) ≡ Some ((x, line), ts)
found_here table q x line ts h = rw h refl

-- an operator is found at its level alone
pub operator_here : (n : ℕ) (q : Punct) (op : BinOp) (line : ℕ) (ts : List Token) → binop_of q ≡ Some op → level op ≡ n → operator n (punct q line ∷ ts) ≡ Some ((op, line), ts)
unfolding operator
operator_here n q op line ts says lv =
    let same : eqb (level op) n ≡ true = (Decides-eqb (level op) n).1 lv in
    rw (says, same) refl

pub operator_other : (m : ℕ) (q : Punct) (op : BinOp) (line : ℕ) (ts : List Token) → binop_of q ≡ Some op → level op ≡ suc m → Ends operator m (punct q line ∷ ts)
unfolding operator
operator_other m q op line ts says lv i le =
    let other : eqb (level op) i ≡ false = grind (arith, nat_tests) in
    rw (says, other) refl

operator_none : (n : ℕ) (q : Punct) (line : ℕ) (ts : List Token) → binop_of q ≡ None → operator n (punct q line ∷ ts) ≡ None
unfolding operator
operator_none n q line ts h = rw h refl

pub assign_here : (q : Punct) (op : Option BinOp) (line : ℕ) (ts : List Token) → assign_of q ≡ Some op → assign_at (punct q line ∷ ts) ≡ Some ((op, line), ts)
unfolding assign_at
assign_here q op line ts h = found_here assign_of q op line ts h

pub prefix_here : (q : Punct) (how : Prefix) (line : ℕ) (ts : List Token) → prefix_of q ≡ Some how → prefix_at (punct q line ∷ ts) ≡ Some ((how, line), ts)
unfolding prefix_at
prefix_here q how line ts h = found_here prefix_of q how line ts h

pub suffix_here : (q : Punct) (how : Suffix) (line : ℕ) (ts : List Token) → suffix_of q ≡ Some how → suffix_at (punct q line ∷ ts) ≡ Some ((how, line), ts)
unfolding suffix_at
suffix_here q how line ts h = found_here suffix_of q how line ts h

-- ---- what the tables say

pub operator_prefix : (q : Punct) (op : UnOp) → unop_of q ≡ Some op → prefix_of q ≡ Some (before.Operator op)
operator_prefix q op h = ap (λ o. before_of o (step_of q)) h

pub step_prefix : (q : Punct) (up : Bool) → step_of q ≡ Some up → prefix_of q ≡ Some (before.Step up)
step_prefix p.Increment up h = cc
step_prefix p.Decrement up h = cc
step_prefix _ up h = absurd cc

pub field_suffix : (q : Punct) (arrow : Bool) → field_of q ≡ Some arrow → suffix_of q ≡ Some (behind.Field arrow)
field_suffix p.Dot arrow h = cc
field_suffix p.Arrow arrow h = cc
field_suffix _ arrow h = absurd cc

pub step_suffix : (q : Punct) (up : Bool) → step_of q ≡ Some up → suffix_of q ≡ Some (behind.Step up)
step_suffix p.Increment up h = cc
step_suffix p.Decrement up h = cc
step_suffix _ up h = absurd cc

-- ---- where an operand ends

-- no opening parenthesis and no operator behind an operand comes next
pub record Stops (ts : List Token) : Type 0 where
  pub no_open : punct_at p.OpenParen ts ≡ None
  pub no_suffix : suffix_at ts ≡ None

stops_by : (q : Punct) (line : ℕ) (ts : List Token) → suffix_of q ≡ None → punct_at p.OpenParen (punct q line ∷ ts) ≡ None → Stops (punct q line ∷ ts)
unfolding suffix_at
stops_by q line ts h open' = record { no_open = open'; no_suffix = rw h refl }

pub suffix_not_open : (q : Punct) (how : Suffix) (line : ℕ) (ts : List Token) → suffix_of q ≡ Some how → punct_at p.OpenParen (punct q line ∷ ts) ≡ None
suffix_not_open p.OpenParen how line ts h = absurd cc
suffix_not_open _ how line ts h = refl

binop_no_suffix : (q : Punct) (op : BinOp) → binop_of q ≡ Some op → suffix_of q ≡ None
binop_no_suffix p.OpenParen op h = absurd cc
binop_no_suffix _ op h = cc

binop_not_open : (q : Punct) (op : BinOp) (line : ℕ) (ts : List Token) → binop_of q ≡ Some op → punct_at p.OpenParen (punct q line ∷ ts) ≡ None
binop_not_open p.OpenParen op line ts h = absurd cc
binop_not_open _ op line ts h = refl

pub binop_stops : (q : Punct) (op : BinOp) (line : ℕ) (ts : List Token) → binop_of q ≡ Some op → Stops (punct q line ∷ ts)
binop_stops q op line ts h = stops_by q line ts (binop_no_suffix q op h) (binop_not_open q op line ts h)

assign_no_suffix : (q : Punct) (op : Option BinOp) → assign_of q ≡ Some op → suffix_of q ≡ None
assign_no_suffix p.OpenParen op h = absurd cc
assign_no_suffix _ op h = cc

assign_not_open : (q : Punct) (op : Option BinOp) (line : ℕ) (ts : List Token) → assign_of q ≡ Some op → punct_at p.OpenParen (punct q line ∷ ts) ≡ None
assign_not_open p.OpenParen op line ts h = absurd cc
assign_not_open _ op line ts h = refl

pub assign_stops : (q : Punct) (op : Option BinOp) (line : ℕ) (ts : List Token) → assign_of q ≡ Some op → Stops (punct q line ∷ ts)
assign_stops q op line ts h = stops_by q line ts (assign_no_suffix q op h) (assign_not_open q op line ts h)

assign_no_binop : (q : Punct) (op : Option BinOp) → assign_of q ≡ Some op → binop_of q ≡ None
assign_no_binop p.OpenParen op h = absurd cc
assign_no_binop _ op h = cc

pub assign_no_operator : (n : ℕ) (q : Punct) (op : Option BinOp) (line : ℕ) (ts : List Token) → assign_of q ≡ Some op → operator n (punct q line ∷ ts) ≡ None
assign_no_operator n q op line ts h = operator_none n q line ts (assign_no_binop q op h)

pub assign_no_question : (q : Punct) (op : Option BinOp) (line : ℕ) (ts : List Token) → assign_of q ≡ Some op → punct_at p.Question (punct q line ∷ ts) ≡ None
assign_no_question p.Question op line ts h = absurd cc
assign_no_question _ op line ts h = refl

-- ---- where an expression ends

pub record EndsExpr (ts : List Token) : Type 0 where
  pub stops : Stops ts
  pub no_operator : (n : ℕ) → operator n ts ≡ None
  pub no_question : punct_at p.Question ts ≡ None
  pub no_assign : assign_at ts ≡ None

not_true : (b : Bool) → not b ≡ true → b ≡ false
not_true true h = absurd cc
not_true false h = refl

ends_suffix : (q : Punct) → goes_on q ≡ false → suffix_of q ≡ None
ends_suffix p.Question h = absurd cc
ends_suffix _ h = cc

ends_binop : (q : Punct) → goes_on q ≡ false → binop_of q ≡ None
ends_binop p.Question h = absurd cc
ends_binop _ h = cc

ends_assign : (q : Punct) → goes_on q ≡ false → assign_of q ≡ None
ends_assign p.Question h = absurd cc
ends_assign _ h = cc

ends_open : (q : Punct) (line : ℕ) (ts : List Token) → goes_on q ≡ false → punct_at p.OpenParen (punct q line ∷ ts) ≡ None
ends_open p.OpenParen line ts h = absurd cc
ends_open _ line ts h = refl

ends_question : (q : Punct) (line : ℕ) (ts : List Token) → goes_on q ≡ false → punct_at p.Question (punct q line ∷ ts) ≡ None
ends_question p.Question line ts h = absurd cc
ends_question _ line ts h = refl

ends_punct : (q : Punct) (line : ℕ) (ts : List Token) → goes_on q ≡ false → EndsExpr (punct q line ∷ ts)
unfolding assign_at
ends_punct q line ts h = record {
  stops = stops_by q line ts (ends_suffix q h) (ends_open q line ts h);
  no_operator = λ n. operator_none n q line ts (ends_binop q h);
  no_question = ends_question q line ts h;
  no_assign = rw (ends_assign q h) refl;
}

abbrev nothing_next : (ts : List Token) → Type 0
nothing_next ts = (punct_at p.OpenParen ts ≡ None) × (suffix_at ts ≡ None) × ((n : ℕ) → operator n ts ≡ None) × (punct_at p.Question ts ≡ None) × (assign_at ts ≡ None)

ends_plain : (ts : List Token) → nothing_next ts → EndsExpr ts
ends_plain ts h = record { stops = record { no_open = h.0; no_suffix = h.1 }; no_operator = h.2; no_question = h.3; no_assign = h.4 }

ends_kind : (kind : TokenKind) (line : ℕ) (ts : List Token) → ends_by kind ≡ true → EndsExpr (token kind line ∷ ts)
unfolding suffix_at operator assign_at
ends_kind (k.Punct q) line ts h = ends_punct q line ts (not_true (goes_on q) h)
ends_kind (k.Name x) line ts h = ends_plain (token (k.Name x) line ∷ ts) (refl, refl, λ n. refl, refl, refl)
ends_kind (k.Word x) line ts h = ends_plain (token (k.Word x) line ∷ ts) (refl, refl, λ n. refl, refl, refl)
ends_kind (k.Number value base suffix) line ts h = ends_plain (token (k.Number value base suffix) line ∷ ts) (refl, refl, λ n. refl, refl, refl)
ends_kind (k.Char value) line ts h = ends_plain (token (k.Char value) line ∷ ts) (refl, refl, λ n. refl, refl, refl)
ends_kind k.AnnotOpen line ts h = ends_plain (token k.AnnotOpen line ∷ ts) (refl, refl, λ n. refl, refl, refl)
ends_kind k.AnnotClose line ts h = ends_plain (token k.AnnotClose line ∷ ts) (refl, refl, λ n. refl, refl, refl)

pub ends_are : (ts : List Token) → ends_expr ts ≡ true → EndsExpr ts
unfolding suffix_at operator assign_at
ends_are [] h = ends_plain [] (refl, refl, λ n. refl, refl, refl)
ends_are (t ∷ ts) h = ends_kind t.kind t.line ts h

-- ---- what begins an expression

prefix_starts : (types : Names) (q : Punct) (how : Prefix) → prefix_of q ≡ Some how → starts_by types (k.Punct q) ≡ true
prefix_starts types p.OpenParen how h = refl
prefix_starts types _ how h = cc

pub primary_starts : {types : Names} {room : ℕ} {xs : List Token} {a : e.Expr} → SpellsPrimary types room xs a → (rest : List Token) → starts_expr types (xs ++ rest) ≡ true
primary_starts g.constant rest = refl
primary_starts g.character rest = refl
primary_starts (g.variable new) rest = rw new refl
primary_starts {types} (g.call {room} {line} line' line'' {x} {inside} {all} {es} new s eq) rest = ap (λ l. starts_expr types (l ++ rest)) eq ∙ ap not new
primary_starts {types} (g.parens line line' s eq) rest = ap (λ l. starts_expr types (l ++ rest)) eq

pub postfix_starts : {types : Names} {room : ℕ} {xs : List Token} {a : e.Expr} → SpellsPostfix types room xs a → (rest : List Token) → starts_expr types (xs ++ rest) ≡ true
postfix_starts (g.of_primary s) rest = primary_starts s rest
postfix_starts {types} (g.index {line} line' {base} {inside} s t eq) rest =
    ap (λ l. starts_expr types (l ++ rest)) eq ∙ ap (starts_expr types) (append_assoc base (punct p.OpenBracket line ∷ (inside ++ punct p.CloseBracket line' ∷ [])) rest) ∙ postfix_starts s _
postfix_starts {types} (g.field {line} line' q {x} {base} says s eq) rest =
    ap (λ l. starts_expr types (l ++ rest)) eq ∙ ap (starts_expr types) (append_assoc base (punct q line ∷ token (k.Name x) line' ∷ []) rest) ∙ postfix_starts s _
postfix_starts {types} (g.step_behind {line} q {base} says s eq) rest =
    ap (λ l. starts_expr types (l ++ rest)) eq ∙ ap (starts_expr types) (append_assoc base (punct q line ∷ []) rest) ∙ postfix_starts s _

pub unary_starts : {types : Names} {room : ℕ} {xs : List Token} {a : e.Expr} → SpellsUnary types room xs a → (rest : List Token) → starts_expr types (xs ++ rest) ≡ true
unary_starts (g.of_postfix s) rest = postfix_starts s rest
unary_starts {types} (g.prefixed {q} {op} says s) rest = prefix_starts types q (before.Operator op) (operator_prefix q op says)
unary_starts {types} (g.step_before {q} {up} says s) rest = prefix_starts types q (before.Step up) (step_prefix q up says)
unary_starts {types} (g.cast line' t s eq) rest = ap (λ l. starts_expr types (l ++ rest)) eq
unary_starts {types} (g.sizeof line' line'' t eq) rest = ap (λ l. starts_expr types (l ++ rest)) eq

pub binary_starts : {types : Names} {n room : ℕ} {xs : List Token} {a : e.Expr} → SpellsBinary types n room xs a → (rest : List Token) → starts_expr types (xs ++ rest) ≡ true
binary_starts (g.of_unary s) rest = unary_starts s rest
binary_starts {types} (g.binary {line} q {left} {right} le says lv s t eq) rest =
    ap (λ l. starts_expr types (l ++ rest)) eq ∙ ap (starts_expr types) (append_assoc left (punct q line ∷ right) rest) ∙ binary_starts s _

pub cond_starts : {types : Names} {room : ℕ} {xs : List Token} {a : e.Expr} → SpellsCond types room xs a → (rest : List Token) → starts_expr types (xs ++ rest) ≡ true
cond_starts (g.of_binary s) rest = binary_starts s rest
cond_starts {types} (g.cond {line} line' {test} {yes = then_arm} {no' = else_arm} s t u eq) rest =
    ap (λ l. starts_expr types (l ++ rest)) eq ∙ ap (starts_expr types) (append_assoc test (punct p.Question line ∷ (then_arm ++ punct p.Colon line' ∷ else_arm)) rest) ∙ binary_starts s _

pub expression_starts : {types : Names} {room : ℕ} {xs : List Token} {a : e.Expr} → SpellsExpr types room xs a → (rest : List Token) → starts_expr types (xs ++ rest) ≡ true
expression_starts (g.of_cond s) rest = cond_starts s rest
expression_starts {types} (g.assign {line} q {place} {value} says s t eq) rest =
    ap (λ l. starts_expr types (l ++ rest)) eq ∙ ap (starts_expr types) (append_assoc place (punct q line ∷ value) rest) ∙ unary_starts s _

pub some_args_start : {types : Names} {room : ℕ} {xs : List Token} {es : e.Exprs} → SpellsSomeArgs types room xs es → (rest : List Token) → starts_expr types (xs ++ rest) ≡ true
some_args_start (g.one_arg s) rest = expression_starts s rest
some_args_start {types} (g.more_args line {first} {rest = others} s t eq) rest =
    ap (λ l. starts_expr types (l ++ rest)) eq ∙ ap (starts_expr types) (append_assoc first (punct p.Comma line ∷ others) rest) ∙ expression_starts s _

-- no expression begins like a type
kind_no_type : (types : Names) (kind : TokenKind) → starts_by types kind ≡ true → kind_starts types kind ≡ false
kind_no_type types (k.Name x) h = not_true (is_type types x) h
kind_no_type types (k.Word w.SizeOf) h = refl
kind_no_type types (k.Word _) h = absurd cc
kind_no_type types _ h = refl

pub starts_no_type : (types : Names) (ts : List Token) → starts_expr types ts ≡ true → starts_type types ts ≡ false
unfolding starts_type
starts_no_type types [] h = refl
starts_no_type types (t ∷ ts) h = kind_no_type types t.kind h

close_kind : (types : Names) (kind : TokenKind) (line : ℕ) (ts : List Token) → starts_by types kind ≡ true → punct_at p.CloseParen (token kind line ∷ ts) ≡ None
close_kind types (k.Punct p.CloseParen) line ts h = absurd cc
close_kind types (k.Punct _) line ts h = refl
close_kind types _ line ts h = refl

-- no expression begins with a closing parenthesis
pub starts_no_close : (types : Names) (ts : List Token) → starts_expr types ts ≡ true → punct_at p.CloseParen ts ≡ None
starts_no_close types [] h = refl
starts_no_close types (t ∷ ts) h = close_kind types t.kind t.line ts h

-- ---- what begins a postfix expression

-- no prefix operator, no `sizeof` and no cast
pub record BeginsPostfix (types : Names) (ts : List Token) : Type 0 where
  pub no_prefix : prefix_at ts ≡ None
  pub no_sizeof : word_at w.SizeOf ts ≡ None
  pub no_cast : cast_at types ts ≡ None

primary_begins : {types : Names} {room : ℕ} {xs : List Token} {a : e.Expr} → SpellsPrimary types room xs a → (rest : List Token) → BeginsPostfix types (xs ++ rest)
unfolding prefix_at cast_at
primary_begins g.constant rest = record { no_prefix = refl; no_sizeof = refl; no_cast = refl }
primary_begins g.character rest = record { no_prefix = refl; no_sizeof = refl; no_cast = refl }
primary_begins (g.variable new) rest = record { no_prefix = refl; no_sizeof = refl; no_cast = refl }
primary_begins {types} (g.call line' line'' new s eq) rest = subst (λ l. BeginsPostfix types (l ++ rest)) (sym eq) (record { no_prefix = refl; no_sizeof = refl; no_cast = refl })
primary_begins {types} (g.parens line line' {inside} s eq) rest =
    let close' = punct p.CloseParen line' in
    let plain : starts_type types ((inside ++ close' ∷ []) ++ rest) ≡ false =
    ap (starts_type types) (append_assoc inside (close' ∷ []) rest) ∙ starts_no_type types (inside ++ (close' ∷ rest)) (expression_starts s (close' ∷ rest)) in
    subst (λ l. BeginsPostfix types (l ++ rest)) (sym eq) (record { no_prefix = refl; no_sizeof = refl; no_cast = rw plain refl })

pub postfix_begins : {types : Names} {room : ℕ} {xs : List Token} {a : e.Expr} → SpellsPostfix types room xs a → (rest : List Token) → BeginsPostfix types (xs ++ rest)
postfix_begins (g.of_primary s) rest = primary_begins s rest
postfix_begins {types} (g.index {line} line' {base} {inside} s t eq) rest =
    subst (λ l. BeginsPostfix types l) (sym (ap (λ l. l ++ rest) eq ∙ append_assoc base (punct p.OpenBracket line ∷ (inside ++ punct p.CloseBracket line' ∷ [])) rest)) (postfix_begins s _)
postfix_begins {types} (g.field {line} line' q {x} {base} says s eq) rest =
    subst (λ l. BeginsPostfix types l) (sym (ap (λ l. l ++ rest) eq ∙ append_assoc base (punct q line ∷ token (k.Name x) line' ∷ []) rest)) (postfix_begins s _)
postfix_begins {types} (g.step_behind {line} q {base} says s eq) rest =
    subst (λ l. BeginsPostfix types l) (sym (ap (λ l. l ++ rest) eq ∙ append_assoc base (punct q line ∷ []) rest)) (postfix_begins s _)
