-- What is spelled is read, as that tree, whatever may come after it.
use Rattle.std.proofs.Common.{◌≡◌, ℕ, zero, suc, ◌≤◌, Bool, true, false, List, [], ◌∷◌, ◌++◌, length, Option, Some, None, refl, sym, ap, ◌∙◌, subst, arith, append_assoc, length-append}
use Rattle.c_syntax.specs.declared.token.Token.{Token}
use Rattle.c_syntax.specs.declared.token.Punct.{Punct}
use Rattle.c_syntax.specs.declared.token.Punct.TheVariants as p
use Rattle.c_syntax.specs.declared.token.Word.TheVariants as w
use Rattle.c_syntax.specs.declared.expr.BinOp.{BinOp}
use Rattle.c_syntax.specs.Expr as e
use Rattle.c_grammar.specs.Tokens.{Names, is_type, punct, word, name}
use Rattle.c_grammar.specs.Operators.{loosest, assign_of}
use Rattle.c_grammar.specs.Types.{SpellsTypeName}
use Rattle.c_grammar.specs.Exprs as g
use Rattle.c_grammar.specs.Exprs.{SpellsPrimary, SpellsArgs, SpellsSomeArgs, SpellsPostfix, SpellsUnary, SpellsBinary, SpellsCond, SpellsExpr}
use Rattle.c_grammar.specs.Reading.{Reader, ◌>>=◌, punct_at, word_at}
use Rattle.c_grammar.proofs.Readers.{bind_ok, got, pair_is}
use Rattle.c_grammar.proofs.Levels.{Ends, Reads, reads_all, flat, looser_to, reads_binary}
use Rattle.c_grammar.proofs.Chains.{chain_stops}
use Rattle.parse_types.specs.Read.{starts_type, ends_type_name}
use Rattle.parse_types.proofs.Laws.{type_name_complete, type_name_starts}
use Rattle.parse_exprs.specs.declared.operators.Prefix.{Prefix}
use Rattle.parse_exprs.specs.declared.operators.Prefix.TheVariants as before
use Rattle.parse_exprs.specs.declared.operators.Suffix.{Suffix}
use Rattle.parse_exprs.specs.declared.operators.Suffix.TheVariants as behind
use Rattle.parse_exprs.specs.Operators.{operator, assign_at, prefix_at, prefix_of, suffix_at, suffix_of}
use Rattle.parse_exprs.specs.Read.{Inside, enclosed, arg, some_args, args_over, named, named_by, primary, suffix, suffixes, postfix, prefixed, prefixed_by, sizeof, cast, cast_at, unary_over, levels_from, binary, binary_from, binary_make, binary_chain, arms, chosen, cond_from, cond_over, assigned, assigns, expr_over, closed, over, forms, starts_expr, ends_expr}
use Rattle.parse_exprs.proofs.Reading.{suffixes_stop}
use Rattle.parse_exprs.proofs.Tokens.{assign_found}
use Rattle.parse_exprs.proofs.First.{operator_here, operator_other, assign_here, prefix_here, suffix_here, operator_prefix, step_prefix, field_suffix, step_suffix, Stops, suffix_not_open, binop_stops, assign_stops, assign_no_operator, assign_no_question, ends_are, expression_starts, some_args_start, starts_no_close, BeginsPostfix, postfix_begins}
use Rattle.parse_exprs.proofs.Sound.{cond_over_is}

-- ---- what stands inside

record InsideReads (types : Names) (room : ℕ) (within : Inside) : Type 0 where
  unary : (less : ℕ) → room ≡ suc less → (xs : List Token) (a : e.Expr) → SpellsUnary types less xs a → (rest : List Token) → Stops rest → within.unary (xs ++ rest) ≡ Some (a, rest)
  cond : (less : ℕ) → room ≡ suc less → (xs : List Token) (a : e.Expr) → SpellsCond types less xs a → (rest : List Token) → ends_expr rest ≡ true → within.cond (xs ++ rest) ≡ Some (a, rest)
  expr : (less : ℕ) → room ≡ suc less → (xs : List Token) (a : e.Expr) → SpellsExpr types less xs a → (rest : List Token) → ends_expr rest ≡ true → within.expr (xs ++ rest) ≡ Some (a, rest)
  args : (less : ℕ) → room ≡ suc less → (xs : List Token) (es : e.Exprs) → SpellsArgs types less xs es → (line : ℕ) (rest : List Token) → within.args (xs ++ punct p.CloseParen line ∷ rest) ≡ Some (e.list_of es, rest)
  type_name : (less : ℕ) → room ≡ suc less → (xs : List Token) (t : e.CType) → SpellsTypeName types xs t → (rest : List Token) → ends_type_name rest ≡ true → within.type_name (xs ++ rest) ≡ Some (t, rest)

list_back : (es : e.Exprs) → e.exprs_of (e.list_of es) ≡ es
list_back e.stop = refl
list_back (e.more a es) = ap (e.more a) (list_back es)

enclosed_reads : (types : Names) (room : ℕ) (within : Inside) → InsideReads types (suc room) within → (close : Punct) (line : ℕ) (rest : List Token) → ends_expr (punct close line ∷ rest) ≡ true
    → punct_at close (punct close line ∷ rest) ≡ Some (line, rest) → (inside : List Token) (a : e.Expr) → SpellsExpr types room inside a → enclosed close within ((inside ++ punct close line ∷ []) ++ rest) ≡ Some (a, rest)
unfolding enclosed
enclosed_reads types room within reads close line rest ends found inside a s =
    let tok = punct close line in
    ap (λ ts. within.expr ts >>= λ a. punct_at close a.1 >>= λ c. Some (a.0, c.1)) (append_assoc inside (tok ∷ []) rest)
    ∙ ap (λ o. o >>= λ a. punct_at close a.1 >>= λ c. Some (a.0, c.1)) (reads.expr room refl inside a s (tok ∷ rest) ends)
    ∙ ap (λ (o : Option (ℕ × List Token)). o >>= λ c. Some (a, c.1)) found

-- ---- primary expressions

named_reads : (types : Names) (within : Inside) (line : ℕ) (x : List ℕ) (ts : List Token) → is_type types x ≡ false → named types within x line ts ≡ named_by within x line (punct_at p.OpenParen ts) ts
unfolding named
named_reads types within line x ts new = rw new refl

call_reads : (types : Names) (room : ℕ) (within : Inside) → InsideReads types (suc room) within → (line line' line'' : ℕ) (x : List ℕ) → is_type types x ≡ false → (inside : List Token) (es : e.Exprs) → SpellsArgs types room inside es
    → (rest : List Token) → named types within x line (punct p.OpenParen line' ∷ ((inside ++ punct p.CloseParen line'' ∷ []) ++ rest)) ≡ Some (e.call line x es, rest)
call_reads types room within reads line line' line'' x new inside es s rest =
    let tok = punct p.CloseParen line'' in
    named_reads types within line x (punct p.OpenParen line' ∷ ((inside ++ tok ∷ []) ++ rest)) new
    ∙ ap (λ ts. within.args ts >>= λ es. Some (e.call line x (e.exprs_of es.0), es.1)) (append_assoc inside (tok ∷ []) rest)
    ∙ ap (λ o. o >>= λ es. Some (e.call line x (e.exprs_of es.0), es.1)) (reads.args room refl inside es s line'' rest)
    ∙ ap (λ es. Some (e.call line x es, rest)) (list_back es)

primary_reads : {types : Names} {room : ℕ} {xs : List Token} {a : e.Expr} (within : Inside) → InsideReads types room within → SpellsPrimary types room xs a → (rest : List Token) → punct_at p.OpenParen rest ≡ None
    → primary types within (xs ++ rest) ≡ Some (a, rest)
unfolding primary
primary_reads within reads g.constant rest h = refl
primary_reads within reads g.character rest h = refl
primary_reads {types} within reads (g.variable {room} {line} {x} new) rest h = named_reads types within line x rest new ∙ ap (λ o. named_by within x line o rest) h
primary_reads {types} within reads (g.call {room} {line} line' line'' {x} {inside} {all} {es} new s eq) rest h =
    ap (λ l. primary types within (l ++ rest)) eq ∙ call_reads types room within reads line line' line'' x new inside es s rest
primary_reads {types} within reads (g.parens {room} line line' {inside} {all} {a} s eq) rest h =
    ap (λ l. primary types within (l ++ rest)) eq ∙ enclosed_reads types room within reads p.CloseParen line' rest refl refl inside a s

-- ---- postfix expressions

-- it was read, and its reader goes on with what comes after
abbrev PostfixReads : (types : Names) (within : Inside) → List Token → e.Expr → List Token → Type 0
PostfixReads types within xs a rest = (turns : ℕ) × (length rest ≤ turns) × (postfix types within (xs ++ rest) ≡ suffixes within turns a rest)

suffixes_take : (within : Inside) (turns : ℕ) (a b : e.Expr) (how : Suffix) (line : ℕ) (ts after rest : List Token) → suffix_at ts ≡ Some ((how, line), after) → suffix within how line a after ≡ Some (b, rest)
    → suc (length rest) ≤ turns → (turns' : ℕ) × (length rest ≤ turns') × (suffixes within turns a ts ≡ suffixes within turns' b rest)
unfolding suffixes
suffixes_take within zero a b how line ts after rest found read le = absurd (omega arith)
suffixes_take within (suc turns) a b how line ts after rest found read le = (turns, omega arith, rw (found, read) refl)

-- an operator behind an operand, and what belongs to it
postfix_more : (types : Names) (within : Inside) (q : Punct) (how : Suffix) (line : ℕ) (base more : List Token) (a b : e.Expr) (rest : List Token) → suffix_of q ≡ Some how
    → PostfixReads types within base a (punct q line ∷ (more ++ rest)) → suffix within how line a (more ++ rest) ≡ Some (b, rest) → PostfixReads types within (base ++ punct q line ∷ more) b rest
postfix_more types within q how line base more a b rest says x read =
    let tok = punct q line in
    let y = suffixes_take within x.0 a b how line (tok ∷ (more ++ rest)) (more ++ rest) rest (suffix_here q how line (more ++ rest) says) read (omega (arith, x.1, length-append more rest)) in
    (y.0, y.1, ap (postfix types within) (append_assoc base (tok ∷ more) rest) ∙ x.2 ∙ y.2)

index_reads : (types : Names) (room : ℕ) (within : Inside) → InsideReads types (suc room) within → (line line' : ℕ) (inside : List Token) (a b : e.Expr) → SpellsExpr types room inside b → (rest : List Token)
    → suffix within behind.Index line a ((inside ++ punct p.CloseBracket line' ∷ []) ++ rest) ≡ Some (e.index line a b, rest)
unfolding suffix
index_reads types room within reads line line' inside a b s rest =
    ap (λ o. o >>= λ b. Some (e.index line a b.0, b.1)) (enclosed_reads types room within reads p.CloseBracket line' rest refl refl inside b s)

field_reads : (within : Inside) (line line' : ℕ) (x : List ℕ) (arrow : Bool) (a : e.Expr) (rest : List Token) → suffix within (behind.Field arrow) line a (name x line' ∷ rest) ≡ Some (e.field line a x arrow, rest)
unfolding suffix
field_reads within line line' x arrow a rest = refl

step_reads : (within : Inside) (line : ℕ) (up : Bool) (a : e.Expr) (rest : List Token) → suffix within (behind.Step up) line a rest ≡ Some (e.step line up false a, rest)
unfolding suffix
step_reads within line up a rest = refl

first_reads : (types : Names) (within : Inside) (xs : List Token) (a : e.Expr) (rest : List Token) → primary types within (xs ++ rest) ≡ Some (a, rest) → PostfixReads types within xs a rest
unfolding postfix
first_reads types within xs a rest h = (length rest, omega arith, ap (λ o. o >>= λ a. suffixes within (length a.1) a.0 a.1) h)

postfix_reads : {types : Names} {room : ℕ} {xs : List Token} {a : e.Expr} (within : Inside) → InsideReads types room within → SpellsPostfix types room xs a → (rest : List Token) → punct_at p.OpenParen rest ≡ None
    → PostfixReads types within xs a rest
postfix_reads {types} {room} {xs} {a} within reads (g.of_primary s) rest h = first_reads types within _ _ rest (primary_reads within reads s rest h)
postfix_reads {types} within reads (g.index {room} {line} line' {base} {inside} {all} {a} {b} s t eq) rest h =
    let tok = punct p.OpenBracket line in
    let more = inside ++ punct p.CloseBracket line' ∷ [] in
    subst (λ all. PostfixReads types within all (e.index line a b) rest) (sym eq)
    (postfix_more types within p.OpenBracket behind.Index line base more a (e.index line a b) rest refl
    (postfix_reads within reads s (tok ∷ (more ++ rest)) refl) (index_reads types room within reads line line' inside a b t rest))
postfix_reads {types} within reads (g.field {room} {line} line' q {arrow} {x} {base} {all} {a} says s eq) rest h =
    let tok = punct q line in
    let more = name x line' ∷ [] in
    let how : suffix_of q ≡ Some (behind.Field arrow) = field_suffix q arrow says in
    subst (λ all. PostfixReads types within all (e.field line a x arrow) rest) (sym eq)
    (postfix_more types within q (behind.Field arrow) line base more a (e.field line a x arrow) rest how
    (postfix_reads within reads s (tok ∷ (more ++ rest)) (suffix_not_open q (behind.Field arrow) line (more ++ rest) how)) (field_reads within line line' x arrow a rest))
postfix_reads {types} within reads (g.step_behind {room} {line} q {up} {base} {all} {a} says s eq) rest h =
    let how : suffix_of q ≡ Some (behind.Step up) = step_suffix q up says in
    subst (λ all. PostfixReads types within all (e.step line up false a) rest) (sym eq)
    (postfix_more types within q (behind.Step up) line base [] a (e.step line up false a) rest how
    (postfix_reads within reads s (punct q line ∷ rest) (suffix_not_open q (behind.Step up) line rest how)) (step_reads within line up a rest))

-- ---- unary expressions

postfix_whole : (types : Names) (within : Inside) (xs : List Token) (a : e.Expr) (rest : List Token) → BeginsPostfix types (xs ++ rest) → PostfixReads types within xs a rest → suffix_at rest ≡ None
    → unary_over types within (xs ++ rest) ≡ Some (a, rest)
unfolding unary_over
postfix_whole types within xs a rest begins x none = rw (begins.no_prefix, begins.no_sizeof, begins.no_cast) (x.2 ∙ suffixes_stop within x.0 a rest none)

prefixed_reads : (types : Names) (room : ℕ) (within : Inside) → InsideReads types (suc room) within → (q : Punct) (how : Prefix) → prefix_of q ≡ Some how → (line : ℕ) (xs : List Token) (a : e.Expr) → SpellsUnary types room xs a
    → (rest : List Token) → Stops rest → unary_over types within (punct q line ∷ (xs ++ rest)) ≡ Some (prefixed_by how line a, rest)
unfolding unary_over prefixed
prefixed_reads types room within reads q how says line xs a s rest stops =
    let here = prefix_here q how line (xs ++ rest) says in
    rw here (ap (λ o. o >>= λ a. Some (prefixed_by how line a.0, a.1)) (reads.unary room refl xs a s rest stops))

cast_here : (types : Names) (line : ℕ) (ts : List Token) → starts_type types ts ≡ true
    → (prefix_at (punct p.OpenParen line ∷ ts) ≡ None) × (cast_at types (punct p.OpenParen line ∷ ts) ≡ Some (line, ts))
unfolding prefix_at cast_at
cast_here types line ts h = (refl, rw h refl)

cast_reads : (types : Names) (room : ℕ) (within : Inside) → InsideReads types (suc room) within → (line line' : ℕ) (inside operand : List Token) (t : e.CType) (a : e.Expr) → SpellsTypeName types inside t → SpellsUnary types room operand a
    → (rest : List Token) → Stops rest → unary_over types within (punct p.OpenParen line ∷ ((inside ++ punct p.CloseParen line' ∷ operand) ++ rest)) ≡ Some (e.cast line t a, rest)
unfolding unary_over cast ends_type_name
cast_reads types room within reads line line' inside operand t a s s' rest stops =
    let close' = punct p.CloseParen line' in
    let ts = inside ++ close' ∷ (operand ++ rest) in
    let here = cast_here types line ts (type_name_starts types inside t s (close' ∷ (operand ++ rest))) in
    ap (λ ts. unary_over types within (punct p.OpenParen line ∷ ts)) (append_assoc inside (close' ∷ operand) rest)
    ∙ rw (here.0, here.1)
    (ap (λ o. o >>= λ t. punct_at p.CloseParen t.1 >>= λ c. within.unary c.1 >>= λ a. Some (e.cast line t.0 a.0, a.1)) (reads.type_name room refl inside t s (close' ∷ (operand ++ rest)) refl)
    ∙ ap (λ o. o >>= λ a. Some (e.cast line t a.0, a.1)) (reads.unary room refl operand a s' rest stops))

sizeof_here : (types : Names) (line : ℕ) (ts : List Token) → (prefix_at (word w.SizeOf line ∷ ts) ≡ None) × (word_at w.SizeOf (word w.SizeOf line ∷ ts) ≡ Some (line, ts))
unfolding prefix_at
sizeof_here types line ts = (refl, refl)

sizeof_reads : (types : Names) (room : ℕ) (within : Inside) → InsideReads types (suc room) within → (line line' line'' : ℕ) (inside : List Token) (t : e.CType) → SpellsTypeName types inside t → (rest : List Token)
    → unary_over types within (word w.SizeOf line ∷ punct p.OpenParen line' ∷ ((inside ++ punct p.CloseParen line'' ∷ []) ++ rest)) ≡ Some (e.sizeof line t, rest)
unfolding unary_over sizeof ends_type_name
sizeof_reads types room within reads line line' line'' inside t s rest =
    let close' = punct p.CloseParen line'' in
    let ts = punct p.OpenParen line' ∷ (inside ++ close' ∷ rest) in
    let here = sizeof_here types line ts in
    ap (λ ts. unary_over types within (word w.SizeOf line ∷ punct p.OpenParen line' ∷ ts)) (append_assoc inside (close' ∷ []) rest)
    ∙ rw here.0 (ap (λ o. o >>= λ t. punct_at p.CloseParen t.1 >>= λ c. Some (e.sizeof line t.0, c.1)) (reads.type_name room refl inside t s (close' ∷ rest) refl))

unary_reads : {types : Names} {room : ℕ} {xs : List Token} {a : e.Expr} (within : Inside) → InsideReads types room within → SpellsUnary types room xs a → (rest : List Token) → Stops rest
    → unary_over types within (xs ++ rest) ≡ Some (a, rest)
unary_reads {types} within reads (g.of_postfix {room} {all} {a} s) rest stops =
    postfix_whole types within all a rest (postfix_begins s rest) (postfix_reads within reads s rest stops.no_open) stops.no_suffix
unary_reads {types} within reads (g.prefixed {room} {line} {q} {op} {operand} {a} says s) rest stops =
    prefixed_reads types room within reads q (before.Operator op) (operator_prefix q op says) line operand a s rest stops
unary_reads {types} within reads (g.step_before {room} {line} {q} {up} {operand} {a} says s) rest stops =
    prefixed_reads types room within reads q (before.Step up) (step_prefix q up says) line operand a s rest stops
unary_reads {types} within reads (g.cast {room} {line} line' {inside} {operand} {all} {t} {a} s s' eq) rest stops =
    ap (λ l. unary_over types within (l ++ rest)) eq ∙ cast_reads types room within reads line line' inside operand t a s s' rest stops
unary_reads {types} within reads (g.sizeof {room} {line} line' line'' {inside} {all} {t} s eq) rest stops =
    ap (λ l. unary_over types within (l ++ rest)) eq ∙ sizeof_reads types room within reads line line' line'' inside t s rest

-- ---- operators of two operands

abbrev BinaryReads : (types : Names) (within : Inside) → ℕ → List Token → e.Expr → Type 0
BinaryReads types within n xs a = Reads binary_make operator Stops n (unary_over types within) xs a

binary_reads : {types : Names} {n room : ℕ} {xs : List Token} {a : e.Expr} (within : Inside) → InsideReads types room within → SpellsBinary types n room xs a → BinaryReads types within n xs a
binary_reads {types} within reads (g.of_unary {n} {room} {all} {a} s) =
    flat binary_make operator Stops n (unary_over types within) all a (λ rest stops. unary_reads within reads s rest stops)
binary_reads {types} within reads (g.binary {n} {m} {room} {line} q {op} {left} {right} {all} {a} {b} le says lv s t eq) =
    let unary = unary_over types within in
    let joined = reads_binary binary_make operator Stops m line op unary (punct q line) left right a b
    (λ rest stops. operator_here (suc m) q op line (right ++ rest) says lv)
    (λ rest stops. operator_other m q op line (right ++ rest) says lv)
    (λ rest stops. binop_stops q op line (right ++ rest) says)
    (binary_reads within reads s) (binary_reads within reads t) in
    subst (λ all. BinaryReads types within n all (e.binary line op a b)) (sym eq)
    (looser_to binary_make operator Stops (suc m) n unary (left ++ punct q line ∷ right) (e.binary line op a b) le joined)

-- ---- conditionals

-- nothing that goes on with a test comes at a question mark
question_ends : (n line : ℕ) (ts : List Token) → Ends operator n (punct p.Question line ∷ ts)
unfolding operator
question_ends n line ts i le = refl

question_stops : (line : ℕ) (ts : List Token) → Stops (punct p.Question line ∷ ts)
unfolding suffix_at
question_stops line ts = record { no_open = refl; no_suffix = refl }

arms_read : (types : Names) (room : ℕ) (within : Inside) → InsideReads types (suc room) within → (line : ℕ) (b c : e.Expr) (yes' no' : List Token) → SpellsExpr types room yes' b → SpellsCond types room no' c
    → (rest : List Token) → ends_expr rest ≡ true → arms within ((yes' ++ punct p.Colon line ∷ no') ++ rest) ≡ Some ((b, c), rest)
unfolding arms
arms_read types room within reads line b c yes' no' s t rest ends =
    let colon = punct p.Colon line in
    ap (λ ts. enclosed p.Colon within ts >>= λ b. within.cond b.1 >>= λ c. Some ((b.0, c.0), c.1))
    (append_assoc yes' (colon ∷ no') rest ∙ sym (append_assoc yes' (colon ∷ []) (no' ++ rest)))
    ∙ ap (λ o. o >>= λ b. within.cond b.1 >>= λ c. Some ((b.0, c.0), c.1)) (enclosed_reads types room within reads p.Colon line (no' ++ rest) refl refl yes' b s)
    ∙ ap (λ o. o >>= λ c. Some ((b, c.0), c.1)) (reads.cond room refl no' c t rest ends)

cond_reads : {types : Names} {room : ℕ} {xs : List Token} {a : e.Expr} (within : Inside) → InsideReads types room within → SpellsCond types room xs a → (rest : List Token) → ends_expr rest ≡ true
    → cond_over types within (xs ++ rest) ≡ Some (a, rest)
cond_reads {types} within reads (g.of_binary {room} {all} {a} s) rest ends =
    let next = ends_are rest ends in
    let read = reads_all binary_make operator Stops loosest (unary_over types within) all a (binary_reads within reads s) rest next.stops (λ n le. next.no_operator n) in
    cond_over_is types within (all ++ rest)
    ∙ ap (λ o. o >>= λ b. chosen within (punct_at p.Question b.1) b.0 b.1) read
    ∙ ap (λ o. chosen within o a rest) next.no_question
cond_reads {types} within reads (g.cond {room} {line} line' {test} {yes = yes'} {no' = no'} {all} {a} {b} {c} s t u eq) rest ends =
    let tok = punct p.Question line in
    let more = yes' ++ punct p.Colon line' ∷ no' in
    let read = reads_all binary_make operator Stops loosest (unary_over types within) test a (binary_reads within reads s) (tok ∷ (more ++ rest)) (question_stops line (more ++ rest)) (question_ends loosest line (more ++ rest)) in
    ap (λ l. cond_over types within (l ++ rest)) eq ∙ ap (cond_over types within) (append_assoc test (tok ∷ more) rest)
    ∙ cond_over_is types within (test ++ tok ∷ (more ++ rest))
    ∙ ap (λ o. o >>= λ b. chosen within (punct_at p.Question b.1) b.0 b.1) read
    ∙ ap (λ o. o >>= λ b. Some (e.cond line a b.0.0 b.0.1, b.1)) (arms_read types room within reads line' b c yes' no' t u rest ends)

-- ---- assignments

from_stops : (n : ℕ) (unary : Reader e.Expr) (a : e.Expr) (ts : List Token) → Ends operator n ts → binary_from n unary a ts ≡ Some (a, ts)
unfolding levels_from
from_stops zero unary a ts ends = refl
from_stops (suc n) unary a ts ends =
    ap (λ o. o >>= λ b. binary_chain (suc n) (binary n unary) (length b.1) b.0 b.1) (from_stops n unary a ts (λ i le. ends i (omega arith)))
    ∙ chain_stops binary_make (operator (suc n)) (length ts) (binary n unary) a ts (ends (suc n) (omega arith))

-- a conditional ends before an operator of assignment
finish_stops : (within : Inside) (unary : Reader e.Expr) (a : e.Expr) (q : Punct) (op : Option BinOp) (line : ℕ) (ts : List Token) → assign_of q ≡ Some op
    → cond_from within unary a (punct q line ∷ ts) ≡ Some (a, punct q line ∷ ts)
unfolding cond_from
finish_stops within unary a q op line ts says =
    ap (λ o. o >>= λ b. chosen within (punct_at p.Question b.1) b.0 b.1) (from_stops loosest unary a (punct q line ∷ ts) (λ i le. assign_no_operator i q op line ts says))
    ∙ ap (λ o. chosen within o a (punct q line ∷ ts)) (assign_no_question q op line ts says)

-- where a conditional was read up to what is no operator of assignment, no such operator came before
cond_no_assign : (within : Inside) (unary : Reader e.Expr) (go : Reader e.Expr) (a b : e.Expr) (ts rest : List Token) → cond_from within unary a ts ≡ Some (b, rest) → assign_at rest ≡ None
    → assigned (assign_at ts) a ts (cond_from within unary) go ≡ Some (b, rest)
cond_no_assign within unary go a b ts rest h none =
    elim (assign_at ts) as (λ o. assign_at ts ≡ o → assigned o a ts (cond_from within unary) go ≡ Some (b, rest)) [
      | None ↦ (λ is. h)
      | Some y ↦ (λ is.
          let f = assign_found ts y.0.0 y.0.1 y.1 is in
          let stops = finish_stops within unary a f.q y.0.0 y.0.1 y.1 f.says in
          let stops' : cond_from within unary a ts ≡ Some (a, ts) = ap (λ ts. cond_from within unary a ts) f.front ∙ stops ∙ ap (λ ts. got a ts) (sym f.front) in
          let same = pair_is a b ts rest (sym stops' ∙ h) in
          let some : assign_at rest ≡ Some y = ap assign_at (sym same.1) ∙ is in
          absurd (cc (none, some)))
    ]
    refl

abbrev reads_assigns : (types : Names) (within : Inside) (turns : ℕ) → Reader e.Expr
reads_assigns types within turns = assigns (unary_over types within) (cond_from within (unary_over types within)) turns

some_token : (types : Names) (ts : List Token) → starts_expr types ts ≡ true → length ts ≤ 0 → ⊥
some_token types [] h le = absurd cc
some_token types (t ∷ ts) h le = absurd (omega arith)

cond_assigns : (types : Names) (within : Inside) (turns : ℕ) (a : e.Expr) (ts rest : List Token) → cond_over types within ts ≡ Some (a, rest) → assign_at rest ≡ None
    → reads_assigns types within (suc turns) ts ≡ Some (a, rest)
unfolding cond_over assigns
cond_assigns types within turns a ts rest h none =
    let unary = unary_over types within in
    let x = bind_ok (unary ts) (λ a. cond_from within unary a.0 a.1) (a, rest) h in
    ap (λ o. o >>= λ a. assigned (assign_at a.1) a.0 a.1 (cond_from within unary) (reads_assigns types within turns)) x.1
    ∙ cond_no_assign within unary (reads_assigns types within turns) x.0.0 a x.0.1 rest x.2 none

place_assigns : (types : Names) (within : Inside) (turns : ℕ) (q : Punct) (op : Option BinOp) (line : ℕ) (place value : List Token) (a b : e.Expr) (rest : List Token) → assign_of q ≡ Some op
    → unary_over types within (place ++ punct q line ∷ (value ++ rest)) ≡ Some (a, punct q line ∷ (value ++ rest)) → reads_assigns types within turns (value ++ rest) ≡ Some (b, rest)
    → reads_assigns types within (suc turns) ((place ++ punct q line ∷ value) ++ rest) ≡ Some (e.assign line op a b, rest)
unfolding assigns
place_assigns types within turns q op line place value a b rest says read more =
    let unary = unary_over types within in
    let tok = punct q line in
    let go = reads_assigns types within turns in
    ap (reads_assigns types within (suc turns)) (append_assoc place (tok ∷ value) rest)
    ∙ ap (λ o. o >>= λ a. assigned (assign_at a.1) a.0 a.1 (cond_from within unary) go) read
    ∙ ap (λ o. assigned o a (tok ∷ (value ++ rest)) (cond_from within unary) go) (assign_here q op line (value ++ rest) says)
    ∙ ap (λ o. o >>= λ b. Some (e.assign line op a b.0, b.1)) more

expr_reads : {types : Names} {room : ℕ} {xs : List Token} {a : e.Expr} (within : Inside) → InsideReads types room within → SpellsExpr types room xs a → (rest : List Token) → ends_expr rest ≡ true
    → (turns : ℕ) → length (xs ++ rest) ≤ turns → reads_assigns types within turns (xs ++ rest) ≡ Some (a, rest)
expr_reads {types} {room} {xs} {a} within reads s rest ends zero le = absurd (some_token types (xs ++ rest) (expression_starts s rest) le)
expr_reads {types} within reads (g.of_cond {room} {all} {a} s) rest ends (suc turns) le =
    cond_assigns types within turns a (all ++ rest) rest (cond_reads within reads s rest ends) (ends_are rest ends).no_assign
expr_reads {types} within reads (g.assign {room} {line} q {op} {place} {value} {all} {a} {b} says s t eq) rest ends (suc turns) le =
    let tok = punct q line in
    let fewer : length (value ++ rest) ≤ turns = omega (arith, le, ap (λ l. length (l ++ rest)) eq, length-append (place ++ tok ∷ value) rest, length-append place (tok ∷ value), length-append value rest) in
    ap (λ l. reads_assigns types within (suc turns) (l ++ rest)) eq
    ∙ place_assigns types within turns q op line place value a b rest says
    (unary_reads within reads s (tok ∷ (value ++ rest)) (assign_stops q op line (value ++ rest) says)) (expr_reads within reads t rest ends turns fewer)

expr_over_reads : (types : Names) (room : ℕ) (within : Inside) → InsideReads types room within → (xs : List Token) (a : e.Expr) → SpellsExpr types room xs a → (rest : List Token) → ends_expr rest ≡ true
    → expr_over types within (xs ++ rest) ≡ Some (a, rest)
unfolding expr_over
expr_over_reads types room within reads xs a s rest ends = expr_reads within reads s rest ends (length (xs ++ rest)) (omega arith)

-- ---- arguments

-- a reader of expressions that reads whatever is spelled with this room
abbrev ReadsExpr : (types : Names) (room : ℕ) → Reader e.Expr → Type 0
ReadsExpr types room read = (xs : List Token) (a : e.Expr) → SpellsExpr types room xs a → (rest : List Token) → ends_expr rest ≡ true → read (xs ++ rest) ≡ Some (a, rest)

last_arg : (read : Reader e.Expr) (turns line : ℕ) (a : e.Expr) (ts rest : List Token) → read ts ≡ Some (a, punct p.CloseParen line ∷ rest) → some_args read (suc turns) ts ≡ Some (a ∷ [], rest)
unfolding some_args arg
last_arg read turns line a ts rest h = rw h refl

next_arg : (read : Reader e.Expr) (turns line : ℕ) (a : e.Expr) (es : List e.Expr) (ts after rest : List Token) → read ts ≡ Some (a, punct p.Comma line ∷ after) → some_args read turns after ≡ Some (es, rest)
    → some_args read (suc turns) ts ≡ Some (a ∷ es, rest)
unfolding some_args arg
next_arg read turns line a es ts after rest h more = rw (h, more) refl

some_args_read : {types : Names} {room : ℕ} {xs : List Token} {es : e.Exprs} (read : Reader e.Expr) → ReadsExpr types room read → SpellsSomeArgs types room xs es → (line : ℕ) (rest : List Token)
    → (turns : ℕ) → length (xs ++ punct p.CloseParen line ∷ rest) ≤ turns → some_args read turns (xs ++ punct p.CloseParen line ∷ rest) ≡ Some (e.list_of es, rest)
some_args_read {types} {room} {xs} {es} read reads s line rest zero le = absurd (some_token types (xs ++ punct p.CloseParen line ∷ rest) (some_args_start s (punct p.CloseParen line ∷ rest)) le)
some_args_read {types} read reads (g.one_arg {room} {all} {a} s) line rest (suc turns) le =
    last_arg read turns line a (all ++ punct p.CloseParen line ∷ rest) rest (reads all a s (punct p.CloseParen line ∷ rest) refl)
some_args_read {types} read reads (g.more_args {room} line' {first} {rest = others} {all} {a} {es} s t eq) line rest (suc turns) le =
    let tok = punct p.Comma line' in
    let end = punct p.CloseParen line ∷ rest in
    let fewer : length (others ++ end) ≤ turns = omega (arith, le, ap (λ l. length (l ++ end)) eq, length-append (first ++ tok ∷ others) end, length-append first (tok ∷ others), length-append others end) in
    ap (λ l. some_args read (suc turns) (l ++ end)) eq ∙ ap (some_args read (suc turns)) (append_assoc first (tok ∷ others) end)
    ∙ next_arg read turns line' a (e.list_of es) (first ++ tok ∷ (others ++ end)) (others ++ end) rest (reads first a s (tok ∷ (others ++ end)) refl) (some_args_read read reads t line rest turns fewer)

args_read : {types : Names} {room : ℕ} {xs : List Token} {es : e.Exprs} (read : Reader e.Expr) → ReadsExpr types room read → SpellsArgs types room xs es → (line : ℕ) (rest : List Token)
    → args_over read (xs ++ punct p.CloseParen line ∷ rest) ≡ Some (e.list_of es, rest)
unfolding args_over
args_read read reads g.no_args line rest = refl
args_read {types} read reads (g.args {room} {all} {es} s) line rest =
    let end = punct p.CloseParen line ∷ rest in
    let none = starts_no_close types (all ++ end) (some_args_start s end) in
    rw none (some_args_read read reads s line rest (length (all ++ end)) (omega arith))

-- ---- with so many more forms open

closed_reads : (types : Names) → InsideReads types 0 closed
closed_reads types = record {
  unary = λ less one xs a s rest h. absurd (omega arith);
  cond = λ less one xs a s rest h. absurd (omega arith);
  expr = λ less one xs a s rest h. absurd (omega arith);
  args = λ less one xs es s line rest. absurd (omega arith);
  type_name = λ less one xs t s rest h. absurd (omega arith);
}

fewer_is : (room less : ℕ) → suc room ≡ suc less → less ≡ room
fewer_is room less h = omega arith

over_reads : (types : Names) (room : ℕ) (within : Inside) → InsideReads types room within → InsideReads types (suc room) (over types within)
over_reads types room within reads = record {
  unary = λ less one xs a s rest h. unary_reads within reads (subst (λ less. SpellsUnary types less xs a) (fewer_is room less one) s) rest h;
  cond = λ less one xs a s rest h. cond_reads within reads (subst (λ less. SpellsCond types less xs a) (fewer_is room less one) s) rest h;
  expr = λ less one xs a s rest h. expr_over_reads types room within reads xs a (subst (λ less. SpellsExpr types less xs a) (fewer_is room less one) s) rest h;
  args = λ less one xs es s line rest. args_read (expr_over types within) (expr_over_reads types room within reads) (subst (λ less. SpellsArgs types less xs es) (fewer_is room less one) s) line rest;
  type_name = λ less one xs t s rest h. type_name_complete types xs t s rest h;
}

forms_read : (types : Names) (room : ℕ) → InsideReads types (suc room) (forms types room)
unfolding forms
forms_read types zero = over_reads types zero closed (closed_reads types)
forms_read types (suc room) = over_reads types (suc room) (forms types room) (forms_read types room)

pub expr_read : (types : Names) (room : ℕ) (xs : List Token) (a : e.Expr) → SpellsExpr types room xs a → (rest : List Token) → ends_expr rest ≡ true → (forms types room).expr (xs ++ rest) ≡ Some (a, rest)
expr_read types room xs a s rest ends = (forms_read types room).expr room refl xs a s rest ends

pub cond_read : (types : Names) (room : ℕ) (xs : List Token) (a : e.Expr) → SpellsCond types room xs a → (rest : List Token) → ends_expr rest ≡ true → (forms types room).cond (xs ++ rest) ≡ Some (a, rest)
cond_read types room xs a s rest ends = (forms_read types room).cond room refl xs a s rest ends
