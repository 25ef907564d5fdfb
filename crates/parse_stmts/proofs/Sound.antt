-- The reader on lists reads only statements that the grammar spells.
use Rattle.std.proofs.Common.{◌≡◌, ℕ, zero, suc, ◌+◌, ◌-◌, ◌≤◌, Bool, true, false, List, [], ◌∷◌, ◌++◌, length, Option, Some, None, refl, sym, ap, ◌∙◌, subst, arith, append_assoc, append-nil, length-append}
use Rattle.c_syntax.specs.declared.token.Token.{Token}
use Rattle.c_syntax.specs.declared.token.TokenKind.{TokenKind}
use Rattle.c_syntax.specs.declared.token.Punct.{Punct}
use Rattle.c_syntax.specs.declared.token.Punct.TheVariants as p
use Rattle.c_syntax.specs.declared.token.Word.TheVariants as w
use Rattle.c_syntax.specs.Expr as ex
use Rattle.c_syntax.specs.Pred.{Pred}
use Rattle.c_syntax.specs.Stmt as tree
use Rattle.c_syntax.specs.Contract.{LoopAnnot}
use Rattle.c_grammar.specs.Tokens.{Names, token, punct, word, annot_open, annot_close, first_line}
use Rattle.c_grammar.specs.Exprs.{SpellsExpr, SpellsCond}
use Rattle.c_grammar.specs.Annots.{SpellsLoop, SpellsAssert}
use Rattle.c_grammar.specs.Declarators.{SpellsVariables}
use Rattle.c_grammar.specs.Declarators as d
use Rattle.c_grammar.specs.Stmts as g
use Rattle.c_grammar.specs.Stmts.{SpellsOptional, SpellsFirst, SpellsStmt, SpellsStmts, SpellsCases, ends_short}
use Rattle.c_grammar.specs.Reading.{punct_at, word_at, annot_close_at}
use Rattle.c_grammar.proofs.Readers.{bind_ok, got, pair_is, Took, Sound}
use Rattle.c_grammar.proofs.SingleTokens.{punct_is, close_is, first_line_front}
use Rattle.parse_types.specs.Read.{starts_type}
use Rattle.parse_exprs.specs.Read.{expr_at, cond_at}
use Rattle.parse_decls.specs.Read.{variables_at}
use Rattle.acsl_parser.specs.Read.{loop_at, assert_at}
use Rattle.parse_leaf_stmts.specs.declared.forms.Form.{Form}
use Rattle.parse_leaf_stmts.specs.declared.forms.Form.TheVariants as form
use Rattle.parse_leaf_stmts.specs.Read as parts_of
use Rattle.parse_stmts.specs.Read as r
use Rattle.parse_leaf_stmts.specs.Read.{form_of}
use Rattle.parse_stmts.specs.Read.{Starting}
use Rattle.parse_stmts.proofs.Tokens.{Begun, begun}

-- what is read in statements is spelled so
pub record Parts (types : Names) : Type 0 where
  pub expr_sound : (room : ℕ) → Sound (SpellsExpr types room) (expr_at types room)
  pub cond_sound : (room : ℕ) → Sound (SpellsCond types room) (cond_at types room)
  pub variables_sound : (room : ℕ) → Sound (SpellsVariables types room) (variables_at types room)
  pub loop_sound : (room end : ℕ) (ts : List Token) (a : LoopAnnot) (rest : List Token) → length ts ≤ end → loop_at types room end ts ≡ Some (a, rest)
      → Took (SpellsLoop types room (end - length ts)) ts a rest
  pub assert_sound : (room : ℕ) → Sound (λ xs (a : Pred × ℕ). SpellsAssert types room xs a.0 a.1) (assert_at types room)

-- ---- parts of statements

-- an expression and this punctuator at the front
record Ended (types : Names) (room : ℕ) (q : Punct) (ts : List Token) (a : ex.Expr) (rest : List Token) : Type 0 where
  value : List Token
  line : ℕ
  spelled : SpellsExpr types room value a
  all : ts ≡ value ++ punct q line ∷ rest

ended_sound : (types : Names) → Parts types → (room : ℕ) (q : Punct) (ts : List Token) (a : ex.Expr) (rest : List Token) → parts_of.ended_at types room q ts ≡ Some (a, rest) → Ended types room q ts a rest
unfolding parts_of.ended_at
ended_sound types parts room q ts a rest h =
    let x = bind_ok (expr_at types room ts) _ (a, rest) h in
    let y = bind_ok (punct_at q x.0.1) _ (a, rest) x.2 in
    let same = pair_is x.0.0 a y.0.1 rest y.2 in
    let took = parts.expr_sound room ts x.0.0 x.0.1 x.1 in
    let end = punct_is q x.0.1 y.0.0 y.0.1 y.1 in
    record {
      value = took.0;
      line = y.0.0;
      spelled = subst (SpellsExpr types room took.0) same.0 took.2;
      all = took.1 ∙ ap (λ l. took.0 ++ l) (end ∙ ap (λ l. punct q y.0.0 ∷ l) same.1);
    }

-- an expression in parentheses at the front
pub record Tested (types : Names) (room : ℕ) (ts : List Token) (a : ex.Expr) (rest : List Token) : Type 0 where
  pub value : List Token
  pub line : ℕ
  pub line' : ℕ
  pub spelled : SpellsExpr types room value a
  pub all : ts ≡ punct p.OpenParen line ∷ (value ++ punct p.CloseParen line' ∷ rest)

pub test_sound : (types : Names) → Parts types → (room : ℕ) (ts : List Token) (a : ex.Expr) (rest : List Token) → parts_of.test_at types room ts ≡ Some (a, rest) → Tested types room ts a rest
unfolding parts_of.test_at
test_sound types parts room ts a rest h =
    let x = bind_ok (punct_at p.OpenParen ts) _ (a, rest) h in
    let y = ended_sound types parts room p.CloseParen x.0.1 a rest x.2 in
    record {
      value = y.value;
      line = x.0.0;
      line' = y.line;
      spelled = y.spelled;
      all = punct_is p.OpenParen ts x.0.0 x.0.1 x.1 ∙ ap (λ l. punct p.OpenParen x.0.0 ∷ l) y.all;
    }

-- an expression or none, and this punctuator, at the front
pub record Perhaps (types : Names) (room : ℕ) (q : Punct) (ts : List Token) (a : Option ex.Expr) (rest : List Token) : Type 0 where
  pub value : List Token
  pub line : ℕ
  pub spelled : SpellsOptional types room value a
  pub all : ts ≡ value ++ punct q line ∷ rest

pub optional_sound : (types : Names) → Parts types → (room : ℕ) (q : Punct) (ts : List Token) (a : Option ex.Expr) (rest : List Token) → parts_of.optional_at types room q ts ≡ Some (a, rest) → Perhaps types room q ts a rest
unfolding parts_of.optional_at
optional_sound types parts room q ts a rest h =
    elim (punct_at q ts) as (λ o. punct_at q ts ≡ o → parts_of.optional_by o (parts_of.ended_at types room q ts) ≡ Some (a, rest) → Perhaps types room q ts a rest) [
      | Some x ↦ (λ some h.
          let same = pair_is None a x.1 rest h in
          record {
            value = [];
            line = x.0;
            spelled = subst (SpellsOptional types room []) same.0 g.none;
            all = punct_is q ts x.0 x.1 some ∙ ap (λ l. punct q x.0 ∷ l) same.1;
          })
      | None ↦ (λ none h.
          let x = bind_ok (parts_of.ended_at types room q ts) _ (a, rest) h in
          let same = pair_is (Some x.0.0) a x.0.1 rest x.2 in
          let y = ended_sound types parts room q ts x.0.0 x.0.1 x.1 in
          record {
            value = y.value;
            line = y.line;
            spelled = subst (SpellsOptional types room y.value) same.0 (g.some y.spelled);
            all = y.all ∙ ap (λ l. y.value ++ punct q y.line ∷ l) same.1;
          })
    ]
    refl h

-- an expression and a semicolon at the front, as a statement
record ValueAt (types : Names) (room : ℕ) (ts : List Token) (a : tree.Stmt) (rest : List Token) : Type 0 where
  value : List Token
  line : ℕ
  expr : ex.Expr
  spelled : SpellsExpr types room value expr
  all : ts ≡ (value ++ punct p.Semicolon line ∷ []) ++ rest
  made : tree.expr (first_line (value ++ punct p.Semicolon line ∷ [])) expr ≡ a

value_sound : (types : Names) → Parts types → (room : ℕ) (ts : List Token) (a : tree.Stmt) (rest : List Token) → parts_of.value_at types room ts ≡ Some (a, rest) → ValueAt types room ts a rest
unfolding parts_of.value_at
value_sound types parts room ts a rest h =
    let x = bind_ok (parts_of.ended_at types room p.Semicolon ts) _ (a, rest) h in
    let same = pair_is (tree.expr (first_line ts) x.0.0) a x.0.1 rest x.2 in
    let y = ended_sound types parts room p.Semicolon ts x.0.0 x.0.1 x.1 in
    let semi = punct p.Semicolon y.line in
    let all' : ts ≡ (y.value ++ semi ∷ []) ++ rest = y.all ∙ ap (λ l. y.value ++ semi ∷ l) same.1 ∙ sym (append_assoc y.value (semi ∷ []) rest) in
    let on : first_line (y.value ++ semi ∷ []) ≡ first_line ts =
    sym (first_line_front (y.value ++ semi ∷ []) rest (omega (arith, length-append y.value (semi ∷ [])))) ∙ ap first_line (sym all') in
    record {
      value = y.value;
      line = y.line;
      expr = x.0.0;
      spelled = y.spelled;
      all = all';
      made = ap (λ line. tree.expr line x.0.0) on ∙ same.0;
    }

variables_some : {types : Names} {room : ℕ} {xs : List Token} {vs : List ex.VarDecl} → SpellsVariables types room xs vs → 1 ≤ length xs
variables_some (d.variables line {first} {second} {all} st ss eq) =
    omega (arith, ap length eq, length-append first (second ++ punct p.Semicolon line ∷ []), length-append second (punct p.Semicolon line ∷ []))

-- a declaration at the front
pub record LocalsAt (types : Names) (room : ℕ) (ts : List Token) (a : tree.Stmt) (rest : List Token) : Type 0 where
  pub tokens : List Token
  pub vars : List ex.VarDecl
  pub spelled : SpellsVariables types room tokens vars
  pub all : ts ≡ tokens ++ rest
  pub made : tree.locals (first_line tokens) vars ≡ a
  pub line : first_line tokens ≡ first_line ts

pub locals_sound : (types : Names) → Parts types → (room : ℕ) (ts : List Token) (a : tree.Stmt) (rest : List Token) → parts_of.locals_at types room ts ≡ Some (a, rest) → LocalsAt types room ts a rest
unfolding parts_of.locals_at
locals_sound types parts room ts a rest h =
    let x = bind_ok (variables_at types room ts) _ (a, rest) h in
    let same = pair_is (tree.locals (first_line ts) x.0.0) a x.0.1 rest x.2 in
    let took = parts.variables_sound room ts x.0.0 x.0.1 x.1 in
    let all' : ts ≡ took.0 ++ rest = took.1 ∙ ap (λ l. took.0 ++ l) same.1 in
    let on : first_line took.0 ≡ first_line ts = sym (first_line_front took.0 rest (variables_some took.2)) ∙ ap first_line (sym all') in
    record {
      tokens = took.0;
      vars = x.0.0;
      spelled = took.2;
      all = all';
      made = ap (λ line. tree.locals line x.0.0) on ∙ same.0;
      line = on;
    }

pub first_sound : (types : Names) → Parts types → (room : ℕ) → Sound (SpellsFirst types room) (parts_of.first_at types room)
unfolding parts_of.first_at
first_sound types parts room ts a rest h =
    elim (punct_at p.Semicolon ts) as (λ o. punct_at p.Semicolon ts ≡ o → parts_of.first_by o (starts_type types ts) (parts_of.locals_at types room ts) (parts_of.value_at types room ts) ≡ Some (a, rest) → Took (SpellsFirst types room) ts a rest) [
      | Some x ↦ (λ some h.
          let same = pair_is (tree.empty x.0) a x.1 rest h in
          let xs = punct p.Semicolon x.0 ∷ [] in
          (xs, punct_is p.Semicolon ts x.0 x.1 some ∙ ap (λ l. punct p.Semicolon x.0 ∷ l) same.1, subst (SpellsFirst types room xs) same.0 g.nothing))
      | None ↦ (λ none h.
          elim (starts_type types ts) as (λ b. parts_of.first_by None b (parts_of.locals_at types room ts) (parts_of.value_at types room ts) ≡ Some (a, rest) → Took (SpellsFirst types room) ts a rest) [
            | true ↦ (λ h.
                let x = locals_sound types parts room ts a rest h in
                (x.tokens, x.all, subst (SpellsFirst types room x.tokens) x.made (g.variables x.spelled)))
            | false ↦ (λ h.
                let x = value_sound types parts room ts a rest h in
                let xs = x.value ++ punct p.Semicolon x.line ∷ [] in
                (xs, x.all, subst (SpellsFirst types room xs) x.made (g.expr x.line x.spelled refl)))
          ]
          h)
    ]
    refl h

-- ---- statements that have none in them

-- such a statement at the front, with the line on which it begins
pub record Alone (types : Names) (loops breaks : Bool) (room : ℕ) (ts : List Token) (a : tree.Stmt) (rest : List Token) : Type 0 where
  pub tokens : List Token
  pub spelled : (at : ℕ) → SpellsStmt types loops breaks room at tokens a (first_line ts ∷ [])
  pub all : ts ≡ tokens ++ rest
  pub whole : ends_short a ≡ false

jump_sound : (allowed : Bool) (made : tree.Stmt) (ts : List Token) (a : tree.Stmt) (rest : List Token) → parts_of.jump_at allowed made ts ≡ Some (a, rest)
    → (allowed ≡ true) × (line : ℕ) × (made ≡ a) × (ts ≡ punct p.Semicolon line ∷ rest)
jump_sound false made ts a rest h = absurd cc
jump_sound true made ts a rest h =
    let x = bind_ok (punct_at p.Semicolon ts) _ (a, rest) h in
    let same = pair_is made a x.0.1 rest x.2 in
    (refl, x.0.0, same.0, punct_is p.Semicolon ts x.0.0 x.0.1 x.1 ∙ ap (λ l. punct p.Semicolon x.0.0 ∷ l) same.1)

break_sound : (types : Names) (loops breaks : Bool) (room line : ℕ) (ts : List Token) (a : tree.Stmt) (rest : List Token) → parts_of.break_at breaks line ts ≡ Some (a, rest)
    → Alone types loops breaks room (word w.Break line ∷ ts) a rest
unfolding parts_of.break_at
break_sound types loops breaks room line ts a rest h =
    let x = jump_sound breaks (tree.break line) ts a rest h in
    let xs = word w.Break line ∷ punct p.Semicolon x.1 ∷ [] in
    record {
      tokens = xs;
      spelled = λ at. subst (λ a. SpellsStmt types loops breaks room at xs a (line ∷ [])) x.2 (g.break x.1 x.0);
      all = ap (λ l. word w.Break line ∷ l) x.3;
      whole = subst (λ a. ends_short a ≡ false) x.2 refl;
    }

continue_sound : (types : Names) (loops breaks : Bool) (room line : ℕ) (ts : List Token) (a : tree.Stmt) (rest : List Token) → parts_of.continue_at loops line ts ≡ Some (a, rest)
    → Alone types loops breaks room (word w.Continue line ∷ ts) a rest
unfolding parts_of.continue_at
continue_sound types loops breaks room line ts a rest h =
    let x = jump_sound loops (tree.continue line) ts a rest h in
    let xs = word w.Continue line ∷ punct p.Semicolon x.1 ∷ [] in
    record {
      tokens = xs;
      spelled = λ at. subst (λ a. SpellsStmt types loops breaks room at xs a (line ∷ [])) x.2 (g.continue x.1 x.0);
      all = ap (λ l. word w.Continue line ∷ l) x.3;
      whole = subst (λ a. ends_short a ≡ false) x.2 refl;
    }

return_sound : (types : Names) → Parts types → (loops breaks : Bool) (room line : ℕ) (ts : List Token) (a : tree.Stmt) (rest : List Token) → parts_of.return_at types room line ts ≡ Some (a, rest)
    → Alone types loops breaks room (word w.Return line ∷ ts) a rest
unfolding parts_of.return_at
return_sound types parts loops breaks room line ts a rest h =
    let x = bind_ok (parts_of.optional_at types room p.Semicolon ts) _ (a, rest) h in
    let same = pair_is (tree.return_of line x.0.0) a x.0.1 rest x.2 in
    let y = optional_sound types parts room p.Semicolon ts x.0.0 x.0.1 x.1 in
    let semi = punct p.Semicolon y.line in
    let xs = word w.Return line ∷ (y.value ++ semi ∷ []) in
    record {
      tokens = xs;
      spelled = λ at. subst (λ a. SpellsStmt types loops breaks room at xs a (line ∷ [])) same.0 (g.return_of y.line y.spelled refl);
      all = ap (λ l. word w.Return line ∷ l) (y.all ∙ ap (λ l. y.value ++ semi ∷ l) same.1 ∙ sym (append_assoc y.value (semi ∷ []) rest));
      whole = subst (λ a. ends_short a ≡ false) same.0 refl;
    }

empty_sound : (types : Names) (loops breaks : Bool) (room line : ℕ) (ts : List Token) (a : tree.Stmt) (rest : List Token) → got (tree.empty line) ts ≡ got a rest
    → Alone types loops breaks room (punct p.Semicolon line ∷ ts) a rest
empty_sound types loops breaks room line ts a rest h =
    let same = pair_is (tree.empty line) a ts rest h in
    let xs = punct p.Semicolon line ∷ [] in
    record {
      tokens = xs;
      spelled = λ at. subst (λ a. SpellsStmt types loops breaks room at xs a (line ∷ [])) same.0 g.empty;
      all = ap (λ l. punct p.Semicolon line ∷ l) same.1;
      whole = subst (λ a. ends_short a ≡ false) same.0 refl;
    }

expr_sound : (types : Names) → Parts types → (loops breaks : Bool) (room : ℕ) (ts : List Token) (a : tree.Stmt) (rest : List Token) → parts_of.value_at types room ts ≡ Some (a, rest)
    → Alone types loops breaks room ts a rest
expr_sound types parts loops breaks room ts a rest h =
    let x = value_sound types parts room ts a rest h in
    let xs = x.value ++ punct p.Semicolon x.line ∷ [] in
    let on : first_line xs ≡ first_line ts =
    sym (first_line_front xs rest (omega (arith, length-append x.value (punct p.Semicolon x.line ∷ [])))) ∙ ap first_line (sym x.all) in
    record {
      tokens = xs;
      spelled = λ at. subst (λ line. SpellsStmt types loops breaks room at xs a (line ∷ [])) on
          (subst (λ a. SpellsStmt types loops breaks room at xs a (first_line xs ∷ [])) x.made (g.expr x.line x.spelled refl));
      all = x.all;
      whole = subst (λ a. ends_short a ≡ false) x.made refl;
    }

plain_by_sound : (types : Names) → Parts types → (loops breaks : Bool) (room line : ℕ) (kind : TokenKind) (f : Form) → Begun f kind → (ts : List Token) (a : tree.Stmt) (rest : List Token)
    → parts_of.plain_by types room loops breaks line f ts (token kind line ∷ ts) ≡ Some (a, rest) → Alone types loops breaks room (token kind line ∷ ts) a rest
plain_by_sound types parts loops breaks room line kind form.Empty b ts a rest h =
    subst (λ kind. Alone types loops breaks room (token kind line ∷ ts) a rest) (sym b) (empty_sound types loops breaks room line ts a rest h)
plain_by_sound types parts loops breaks room line kind form.Break b ts a rest h =
    subst (λ kind. Alone types loops breaks room (token kind line ∷ ts) a rest) (sym b) (break_sound types loops breaks room line ts a rest h)
plain_by_sound types parts loops breaks room line kind form.Continue b ts a rest h =
    subst (λ kind. Alone types loops breaks room (token kind line ∷ ts) a rest) (sym b) (continue_sound types loops breaks room line ts a rest h)
plain_by_sound types parts loops breaks room line kind form.Return b ts a rest h =
    subst (λ kind. Alone types loops breaks room (token kind line ∷ ts) a rest) (sym b) (return_sound types parts loops breaks room line ts a rest h)
plain_by_sound types parts loops breaks room line kind form.Value b ts a rest h = expr_sound types parts loops breaks room (token kind line ∷ ts) a rest h
plain_by_sound types parts loops breaks room line kind _ b ts a rest h = absurd cc

pub plain_sound : (types : Names) → Parts types → (loops breaks : Bool) (room : ℕ) (ts : List Token) (a : tree.Stmt) (rest : List Token) → parts_of.plain_at types room loops breaks ts ≡ Some (a, rest)
    → Alone types loops breaks room ts a rest
unfolding parts_of.plain_at
plain_sound types parts loops breaks room [] a rest h = absurd cc
plain_sound types parts loops breaks room (t ∷ ts) a rest h = plain_by_sound types parts loops breaks room t.line t.kind (form_of t.kind) (begun t.kind) ts a rest h

pub assertion_sound : (types : Names) → Parts types → (loops breaks : Bool) (room line : ℕ) (ts : List Token) (a : tree.Stmt) (rest : List Token) → parts_of.assertion_at types room ts ≡ Some (a, rest)
    → Alone types loops breaks room (annot_open line ∷ ts) a rest
unfolding parts_of.assertion_at
assertion_sound types parts loops breaks room line ts a rest h =
    let x = bind_ok (assert_at types room ts) _ (a, rest) h in
    let y = bind_ok (annot_close_at x.0.1) _ (a, rest) x.2 in
    let same = pair_is (tree.assert x.0.0.1 x.0.0.0) a y.0.1 rest y.2 in
    let took = parts.assert_sound room ts x.0.0 x.0.1 x.1 in
    let end = annot_close y.0.0 in
    let xs = annot_open line ∷ (took.0 ++ end ∷ []) in
    record {
      tokens = xs;
      spelled = λ at. subst (λ a. SpellsStmt types loops breaks room at xs a (line ∷ [])) same.0 (g.assert line y.0.0 took.2 refl);
      all = ap (λ l. annot_open line ∷ l)
          (took.1 ∙ ap (λ l. took.0 ++ l) (close_is x.0.1 y.0.0 y.0.1 y.1 ∙ ap (λ l. end ∷ l) same.1) ∙ sym (append_assoc took.0 (end ∷ []) rest));
      whole = subst (λ a. ends_short a ≡ false) same.0 refl;
    }

-- ---- statements and lists of them, with the lines on which they begin

-- a statement at the front, which takes an `else` that comes next
pub record At (S : List Token → tree.Stmt → List ℕ → Type 0) (starts : List ℕ) (ts : List Token) (x : tree.Stmt × List ℕ) (rest : List Token) : Type 0 where
  pub tokens : List Token
  pub own : List ℕ
  pub spelled : S tokens x.0 own
  pub all : ts ≡ tokens ++ rest
  pub begins : x.1 ≡ starts ++ own
  pub taken : ends_short x.0 ≡ true → word_at w.Else rest ≡ None

-- what is read at a place is spelled there
abbrev pub SoundFor : (end : ℕ) → (S : (at : ℕ) → List Token → tree.Stmt → List ℕ → Type 0) → Starting tree.Stmt → Type 0
SoundFor end S read = (at : ℕ) (starts : List ℕ) (ts : List Token) (x : tree.Stmt × List ℕ) (rest : List Token) → at + length ts ≡ end → read starts ts ≡ Some (x, rest) → At (S at) starts ts x rest

pub at_map : (S S' : List Token → tree.Stmt → List ℕ → Type 0) (starts : List ℕ) (ts : List Token) (x : tree.Stmt × List ℕ) (rest : List Token)
    → ((xs : List Token) (a : tree.Stmt) (own : List ℕ) → S xs a own → S' xs a own) → At S starts ts x rest → At S' starts ts x rest
at_map S S' starts ts x rest f y = record { tokens = y.tokens; own = y.own; spelled = f y.tokens x.0 y.own y.spelled; all = y.all; begins = y.begins; taken = y.taken }

abbrev pub with_starts : tree.Stmt → List ℕ → tree.Stmt × List ℕ
with_starts a starts = (a, starts)

pub never_short : {X : Type 0} (a : tree.Stmt) → ends_short a ≡ false → ends_short a ≡ true → X
never_short a f t = let both : false ≡ true = sym f ∙ t in absurd cc

pub beside_is : (starts : List ℕ) (read : Option (tree.Stmt × List Token)) (x : tree.Stmt × List ℕ) (rest : List Token) → r.beside starts read ≡ Some (x, rest)
    → (a : tree.Stmt) × (read ≡ Some (a, rest)) × (with_starts a starts ≡ x)
beside_is starts read x rest h =
    let y = bind_ok read _ (x, rest) h in
    let same = pair_is (with_starts y.0.0 starts) x y.0.1 rest y.2 in
    let a = y.0.0 in
    (a, y.1 ∙ ap (λ l. Some (a, l)) same.1, same.0)

-- a statement that was read alone
pub alone_at : (types : Names) (loops breaks : Bool) (room at : ℕ) (starts : List ℕ) (ts : List Token) (x : tree.Stmt × List ℕ) (rest : List Token) (read : Option (tree.Stmt × List Token))
    → ((a : tree.Stmt) → read ≡ Some (a, rest) → Alone types loops breaks room ts a rest)
    → r.beside (starts ++ first_line ts ∷ []) read ≡ Some (x, rest) → At (SpellsStmt types loops breaks room at) starts ts x rest
alone_at types loops breaks room at starts ts x rest read sound h =
    let y = beside_is (starts ++ first_line ts ∷ []) read x rest h in
    let z = sound y.0 y.1 in
    subst (λ x. At (SpellsStmt types loops breaks room at) starts ts x rest) y.2
    (record { tokens = z.tokens; own = first_line ts ∷ []; spelled = z.spelled at; all = z.all; begins = refl; taken = λ t. never_short y.0 z.whole t })

-- items, and the brace that ends them
pub record ListAt (S : List Token → tree.Stmts → List ℕ → Type 0) (starts : List ℕ) (ts : List Token) (b : tree.Stmts × ℕ × List ℕ) (rest : List Token) : Type 0 where
  pub tokens : List Token
  pub own : List ℕ
  pub spelled : S tokens b.0 own
  pub all : ts ≡ tokens ++ punct p.CloseBrace b.1 ∷ rest
  pub begins : b.2 ≡ starts ++ own

-- a relation of lists that goes by one of items
pub record Lists (I : (at : ℕ) → List Token → tree.Stmt → List ℕ → Type 0) (S : (at : ℕ) → List Token → tree.Stmts → List ℕ → Type 0) : Type 0 where
  pub none : (at : ℕ) → S at [] tree.stop []
  pub more : (at : ℕ) (first rest : List Token) (a : tree.Stmt) (body : tree.Stmts) (own own' : List ℕ) → I at first a own → S (at + length first) rest body own' → S at (first ++ rest) (tree.more a body) (own ++ own')

abbrev made_list : tree.Stmts → ℕ → List ℕ → tree.Stmts × ℕ × List ℕ
made_list body line starts = (body, line, starts)

pub stmts_sound : (I : (at : ℕ) → List Token → tree.Stmt → List ℕ → Type 0) (S : (at : ℕ) → List Token → tree.Stmts → List ℕ → Type 0) → Lists I S → (end : ℕ) (one : Starting tree.Stmt) → SoundFor end I one
    → (turns at : ℕ) (starts : List ℕ) (ts : List Token) (b : tree.Stmts × ℕ × List ℕ) (rest : List Token) → at + length ts ≡ end → r.stmts one turns starts ts ≡ Some (b, rest) → ListAt (S at) starts ts b rest
unfolding r.stmts
stmts_sound I S lists end one sound zero at starts ts b rest place h = absurd cc
stmts_sound I S lists end one sound (suc turns) at starts ts b rest place h =
    elim (punct_at p.CloseBrace ts) as (λ o. punct_at p.CloseBrace ts ≡ o → r.stmts_until o one starts ts (r.stmts one turns) ≡ Some (b, rest) → ListAt (S at) starts ts b rest) [
      | Some x ↦ (λ some h.
          let same = pair_is (made_list tree.stop x.0 starts) b x.1 rest h in
          subst (λ b. ListAt (S at) starts ts b rest) same.0 (record {
            tokens = [];
            own = [];
            spelled = lists.none at;
            all = punct_is p.CloseBrace ts x.0 x.1 some ∙ ap (λ l. punct p.CloseBrace x.0 ∷ l) same.1;
            begins = sym (append-nil starts);
          }))
      | None ↦ (λ none h.
          let a = bind_ok (one starts ts) _ (b, rest) h in
          let more = bind_ok (r.stmts one turns a.0.0.1 a.0.1) _ (b, rest) a.2 in
          let same = pair_is (made_list (tree.more a.0.0.0 more.0.0.0) more.0.0.1 more.0.0.2) b more.0.1 rest more.2 in
          let first = sound at starts ts a.0.0 a.0.1 place a.1 in
          let begun' = ap length first.all in
          let others = stmts_sound I S lists end one sound turns (at + length first.tokens) a.0.0.1 a.0.1 more.0.0 more.0.1 (omega (arith, place, begun', length-append first.tokens a.0.1)) more.1 in
          let close' = punct p.CloseBrace more.0.0.1 in
          subst (λ b. ListAt (S at) starts ts b rest) same.0 (record {
            tokens = first.tokens ++ others.tokens;
            own = first.own ++ others.own;
            spelled = lists.more at first.tokens others.tokens a.0.0.0 more.0.0.0 first.own others.own first.spelled others.spelled;
            all = first.all ∙ ap (λ l. first.tokens ++ l) (others.all ∙ ap (λ l. others.tokens ++ close' ∷ l) same.1) ∙ sym (append_assoc first.tokens others.tokens (close' ∷ rest));
            begins = others.begins ∙ ap (λ l. l ++ others.own) first.begins ∙ append_assoc starts first.own others.own;
          }))
    ]
    refl h

-- what stands in the braces of a block
pub data InBlock (types : Names) (loops breaks : Bool) (room at : ℕ) : List Token → tree.Stmt → List ℕ → Type 0 where
  statement : {all : List Token} {a : tree.Stmt} {own : List ℕ} → SpellsStmt types loops breaks room at all a own → InBlock types loops breaks room at all a own
  declaration : {all : List Token} {vs : List ex.VarDecl} → SpellsVariables types room all vs → InBlock types loops breaks room at all (tree.locals (first_line all) vs) (first_line all ∷ [])

blocks_more : (types : Names) (loops breaks : Bool) (room at : ℕ) (first rest : List Token) (a : tree.Stmt) (body : tree.Stmts) (own own' : List ℕ) → InBlock types loops breaks room at first a own
    → SpellsStmts types loops breaks room (at + length first) rest body own' → SpellsStmts types loops breaks room at (first ++ rest) (tree.more a body) (own ++ own')
blocks_more types loops breaks room at first rest a body own own' (statement x) y = g.stmt x y refl
blocks_more types loops breaks room at first rest a body own own' (declaration x) y = g.variables x y refl

pub blocks : (types : Names) (loops breaks : Bool) (room : ℕ) → Lists (InBlock types loops breaks room) (SpellsStmts types loops breaks room)
blocks types loops breaks room = record { none = λ at. g.no_stmts; more = blocks_more types loops breaks room }

-- what stands in the braces of a `switch`
pub data InSwitch (types : Names) (loops : Bool) (room at : ℕ) : List Token → tree.Stmt → List ℕ → Type 0 where
  statement : {all : List Token} {a : tree.Stmt} {own : List ℕ} → SpellsStmt types loops true room at all a own → InSwitch types loops room at all a own
  case_label : {line : ℕ} (line' : ℕ) {value : List Token} {a : ex.Expr} → SpellsCond types room value a → InSwitch types loops room at (word w.Case line ∷ (value ++ punct p.Colon line' ∷ [])) (tree.case_of line a) []
  default_label : {line : ℕ} (line' : ℕ) → InSwitch types loops room at (word w.Default line ∷ punct p.Colon line' ∷ []) (tree.default line) []

cases_more : (types : Names) (loops : Bool) (room at : ℕ) (first rest : List Token) (a : tree.Stmt) (body : tree.Stmts) (own own' : List ℕ) → InSwitch types loops room at first a own
    → SpellsCases types loops room (at + length first) rest body own' → SpellsCases types loops room at (first ++ rest) (tree.more a body) (own ++ own')
cases_more types loops room at first rest a body own own' (statement x) y = g.behind x y refl
cases_more types loops room at first rest a body own own' (case_label {line} line' {value} x) y =
    let colon = punct p.Colon line' in
    let place : at + length (word w.Case line ∷ (value ++ colon ∷ [])) ≡ at + length value + 2 = omega (arith, length-append value (colon ∷ [])) in
    g.case_of line' x (subst (λ at. SpellsCases types loops room at rest body own') place y) (ap (λ l. word w.Case line ∷ l) (append_assoc value (colon ∷ []) rest))
cases_more types loops room at first rest a body own own' (default_label line') y = g.default line' y

pub cases : (types : Names) (loops : Bool) (room : ℕ) → Lists (InSwitch types loops room) (SpellsCases types loops room)
cases types loops room = record { none = λ at. g.no_cases; more = cases_more types loops room }
