-- The reader on lists reads only statements that the grammar spells: those with statements in them.
use Rattle.std.proofs.Common.{◌≡◌, ℕ, suc, ◌+◌, ◌-◌, Bool, true, false, ⊎_elim, List, [], ◌∷◌, ◌++◌, length, Option, Some, None, refl, sym, ap, ◌∙◌, subst, arith, append_assoc, append-nil, length-append}
use Rattle.std.proofs.lemmas.Bool.{cases_Bool}
use Rattle.c_syntax.specs.declared.token.Token.{Token}
use Rattle.c_syntax.specs.declared.token.Punct.TheVariants as p
use Rattle.c_syntax.specs.declared.token.Word.TheVariants as w
use Rattle.c_syntax.specs.Expr as ex
use Rattle.c_syntax.specs.Stmt as tree
use Rattle.c_grammar.specs.Tokens.{Names, punct, word, first_line}
use Rattle.c_grammar.specs.Stmts as g
use Rattle.c_grammar.specs.Stmts.{SpellsStmt, SpellsBody, SpellsBlock, SpellsStmts, is_block, ends_short}
use Rattle.c_grammar.specs.Reading.{punct_at, word_at}
use Rattle.c_grammar.proofs.Readers.{bind_ok, pair_is}
use Rattle.c_grammar.proofs.SingleTokens.{punct_is, word_is}
use Rattle.parse_types.specs.Read.{starts_type}
use Rattle.parse_exprs.specs.Read.{cond_at}
use Rattle.parse_leaf_stmts.specs.Read as parts_of
use Rattle.parse_stmts.specs.Read as r
use Rattle.parse_stmts.specs.Read.{Starting}
use Rattle.parse_stmts.proofs.Sound as so
use Rattle.parse_stmts.proofs.Sound.{Parts, Tested, test_sound, locals_sound, At, SoundFor, at_map, with_starts, never_short, beside_is, stmts_sound, InBlock, blocks, InSwitch}

-- ---- items

-- lines that were put behind others, one by one
pub pushed : (starts : List ℕ) (line line' : ℕ) (own given : List ℕ) → given ≡ (starts ++ line ∷ []) ++ own → line ≡ line' → given ≡ starts ++ line' ∷ own
pushed starts line line' own given h same = h ∙ append_assoc starts (line ∷ []) own ∙ ap (λ line. starts ++ line ∷ own) same

pub block_item_sound : (types : Names) → Parts types → (end : ℕ) (loops breaks : Bool) (room : ℕ) (inner : Starting tree.Stmt) → SoundFor end (SpellsStmt types loops breaks room) inner
    → SoundFor end (InBlock types loops breaks room) (r.item types room false inner)
unfolding r.item
block_item_sound types parts end loops breaks room inner sound at starts ts x rest place h =
    elim (starts_type types ts) as (λ b. r.local_by b types room starts ts (inner starts ts) ≡ Some (x, rest) → At (InBlock types loops breaks room at) starts ts x rest) [
      | true ↦ (λ h.
          let y = beside_is (starts ++ first_line ts ∷ []) (parts_of.locals_at types room ts) x rest h in
          let z = locals_sound types parts room ts y.0 rest y.1 in
          let own' = first_line z.tokens ∷ [] in
          subst (λ x. At (InBlock types loops breaks room at) starts ts x rest) y.2 (record {
            tokens = z.tokens;
            own = own';
            spelled = subst (λ a. InBlock types loops breaks room at z.tokens a own') z.made (so.declaration z.spelled);
            all = z.all;
            begins = ap (λ line. starts ++ line ∷ []) (sym z.line);
            taken = λ t. never_short y.0 (subst (λ a. ends_short a ≡ false) z.made refl) t;
          }))
      | false ↦ (λ h. at_map (SpellsStmt types loops breaks room at) (InBlock types loops breaks room at) starts ts x rest (λ xs a own s. so.statement s) (sound at starts ts x rest place h))
    ]
    h

case_sound : (types : Names) → Parts types → (loops : Bool) (room at line : ℕ) (starts : List ℕ) (ts : List Token) (x : tree.Stmt × List ℕ) (rest : List Token)
    → r.beside starts (parts_of.case_at types room line ts) ≡ Some (x, rest) → At (InSwitch types loops room at) starts (word w.Case line ∷ ts) x rest
unfolding parts_of.case_at
case_sound types parts loops room at line starts ts x rest h =
    let y = beside_is starts (parts_of.case_at types room line ts) x rest h in
    let a = bind_ok (cond_at types room ts) _ (y.0, rest) y.1 in
    let c = bind_ok (punct_at p.Colon a.0.1) _ (y.0, rest) a.2 in
    let same = pair_is (tree.case_of line a.0.0) y.0 c.0.1 rest c.2 in
    let took = parts.cond_sound room ts a.0.0 a.0.1 a.1 in
    let colon = punct p.Colon c.0.0 in
    let xs = word w.Case line ∷ (took.0 ++ colon ∷ []) in
    subst (λ x. At (InSwitch types loops room at) starts (word w.Case line ∷ ts) x rest) y.2 (record {
      tokens = xs;
      own = [];
      spelled = subst (λ a. InSwitch types loops room at xs a []) same.0 (so.case_label c.0.0 took.2);
      all = ap (λ l. word w.Case line ∷ l)
          (took.1 ∙ ap (λ l. took.0 ++ l) (punct_is p.Colon a.0.1 c.0.0 c.0.1 c.1 ∙ ap (λ l. colon ∷ l) same.1) ∙ sym (append_assoc took.0 (colon ∷ []) rest));
      begins = sym (append-nil starts);
      taken = λ t. never_short y.0 (subst (λ a. ends_short a ≡ false) same.0 refl) t;
    })

default_sound : (types : Names) (loops : Bool) (room at line : ℕ) (starts : List ℕ) (ts : List Token) (x : tree.Stmt × List ℕ) (rest : List Token)
    → r.beside starts (parts_of.default_at line ts) ≡ Some (x, rest) → At (InSwitch types loops room at) starts (word w.Default line ∷ ts) x rest
unfolding parts_of.default_at
default_sound types loops room at line starts ts x rest h =
    let y = beside_is starts (parts_of.default_at line ts) x rest h in
    let c = bind_ok (punct_at p.Colon ts) _ (y.0, rest) y.1 in
    let same = pair_is (tree.default line) y.0 c.0.1 rest c.2 in
    let xs = word w.Default line ∷ punct p.Colon c.0.0 ∷ [] in
    subst (λ x. At (InSwitch types loops room at) starts (word w.Default line ∷ ts) x rest) y.2 (record {
      tokens = xs;
      own = [];
      spelled = subst (λ a. InSwitch types loops room at xs a []) same.0 (so.default_label c.0.0);
      all = ap (λ l. word w.Default line ∷ l) (punct_is p.Colon ts c.0.0 c.0.1 c.1 ∙ ap (λ l. punct p.Colon c.0.0 ∷ l) same.1);
      begins = sym (append-nil starts);
      taken = λ t. never_short y.0 (subst (λ a. ends_short a ≡ false) same.0 refl) t;
    })

pub switch_item_sound : (types : Names) → Parts types → (end : ℕ) (loops : Bool) (room : ℕ) (inner : Starting tree.Stmt) → SoundFor end (SpellsStmt types loops true room) inner
    → SoundFor end (InSwitch types loops room) (r.item types room true inner)
unfolding r.item
switch_item_sound types parts end loops room inner sound at starts ts x rest place h =
    elim (word_at w.Case ts) as (λ o. word_at w.Case ts ≡ o → r.case_by o (word_at w.Default ts) types room starts (inner starts ts) ≡ Some (x, rest) → At (InSwitch types loops room at) starts ts x rest) [
      | Some c ↦ (λ some h.
          subst (λ ts. At (InSwitch types loops room at) starts ts x rest) (sym (word_is w.Case ts c.0 c.1 some)) (case_sound types parts loops room at c.0 starts c.1 x rest h))
      | None ↦ (λ none h.
          elim (word_at w.Default ts) as (λ o. word_at w.Default ts ≡ o → r.case_by None o types room starts (inner starts ts) ≡ Some (x, rest) → At (InSwitch types loops room at) starts ts x rest) [
            | Some c ↦ (λ some h.
                subst (λ ts. At (InSwitch types loops room at) starts ts x rest) (sym (word_is w.Default ts c.0 c.1 some)) (default_sound types loops room at c.0 starts c.1 x rest h))
            | None ↦ (λ none h. at_map (SpellsStmt types loops true room at) (InSwitch types loops room at) starts ts x rest (λ xs a own s. so.statement s) (sound at starts ts x rest place h))
          ]
          refl h)
    ]
    refl h

-- ---- blocks and bodies

-- a block at the front
pub record BracesAt (types : Names) (loops breaks : Bool) (room at line : ℕ) (starts : List ℕ) (ts : List Token) (x : tree.Stmt × List ℕ) (rest : List Token) : Type 0 where
  pub tokens : List Token
  pub own : List ℕ
  pub last : ℕ
  pub inside : tree.Stmts
  pub spelled : SpellsBlock types loops breaks (suc room) at tokens line last inside own
  pub all : punct p.OpenBrace line ∷ ts ≡ tokens ++ rest
  pub made : with_starts (tree.block line inside) (starts ++ own) ≡ x

pub braces_sound : (types : Names) → Parts types → (end : ℕ) (loops breaks : Bool) (room : ℕ) (inner : Starting tree.Stmt) → SoundFor end (SpellsStmt types loops breaks room) inner
    → (at line : ℕ) (starts : List ℕ) (ts : List Token) (x : tree.Stmt × List ℕ) (rest : List Token) → suc at + length ts ≡ end → r.braces (r.item types room false inner) line starts ts ≡ Some (x, rest)
    → BracesAt types loops breaks room at line starts ts x rest
unfolding r.braces
braces_sound types parts end loops breaks room inner sound at line starts ts x rest place h =
    let y = bind_ok (r.stmts (r.item types room false inner) (length ts) starts ts) _ (x, rest) h in
    let same = pair_is (with_starts (tree.block line y.0.0.0) y.0.0.2) x y.0.1 rest y.2 in
    let z = stmts_sound (InBlock types loops breaks room) (SpellsStmts types loops breaks room) (blocks types loops breaks room) end (r.item types room false inner)
    (block_item_sound types parts end loops breaks room inner sound) (length ts) (suc at) starts ts y.0.0 y.0.1 place y.1 in
    let open' = punct p.OpenBrace line in
    let close' = punct p.CloseBrace y.0.0.1 in
    record {
      tokens = open' ∷ (z.tokens ++ close' ∷ []);
      own = z.own;
      last = y.0.0.1;
      inside = y.0.0.0;
      spelled = g.between z.spelled refl;
      all = ap (λ l. open' ∷ l) (z.all ∙ ap (λ l. z.tokens ++ close' ∷ l) same.1 ∙ sym (append_assoc z.tokens (close' ∷ []) rest));
      made = ap (with_starts (tree.block line y.0.0.0)) (sym z.begins) ∙ same.0;
    }

-- a block as a statement or as a body
pub braces_at : (types : Names) (loops breaks : Bool) (room at line : ℕ) (S : List Token → tree.Stmt → List ℕ → Type 0)
    → ((tokens : List Token) (last : ℕ) (inside : tree.Stmts) (own : List ℕ) → SpellsBlock types loops breaks (suc room) at tokens line last inside own → S tokens (tree.block line inside) (line ∷ own))
    → (starts : List ℕ) (ts : List Token) (x : tree.Stmt × List ℕ) (rest : List Token) → BracesAt types loops breaks room at line (starts ++ line ∷ []) ts x rest → At S starts (punct p.OpenBrace line ∷ ts) x rest
braces_at types loops breaks room at line S make starts ts x rest y =
    subst (λ x. At S starts (punct p.OpenBrace line ∷ ts) x rest) y.made (record {
      tokens = y.tokens;
      own = line ∷ y.own;
      spelled = make y.tokens y.last y.inside y.own y.spelled;
      all = y.all;
      begins = append_assoc starts (line ∷ []) y.own;
      taken = λ t. absurd cc;
    })

-- a block begins with a brace
block_opens : {types : Names} {loops breaks : Bool} {room at : ℕ} {xs : List Token} {a : tree.Stmt} {own : List ℕ} → SpellsStmt types loops breaks room at xs a own → is_block a ≡ true
    → (rest : List Token) → punct_at p.OpenBrace (xs ++ rest) ≡ None → ⊥
block_opens (g.block (g.between {line} {end} {inside} s eq)) h rest none =
    let none' = subst (λ xs. punct_at p.OpenBrace (xs ++ rest) ≡ None) eq none in absurd cc
block_opens _ h rest none = absurd cc

pub body_sound : (types : Names) → Parts types → (end : ℕ) (loops breaks : Bool) (room : ℕ) (inner : Starting tree.Stmt) → SoundFor end (SpellsStmt types loops breaks room) inner
    → SoundFor end (SpellsBody types loops breaks (suc room)) (r.body types room inner)
unfolding r.body
body_sound types parts end loops breaks room inner sound at starts ts x rest place h =
    elim (punct_at p.OpenBrace ts) as (λ o. punct_at p.OpenBrace ts ≡ o → r.body_by o (r.item types room false inner) inner starts ts ≡ Some (x, rest) → At (SpellsBody types loops breaks (suc room) at) starts ts x rest) [
      | Some o ↦ (λ some h.
          let starts' = punct_is p.OpenBrace ts o.0 o.1 some in
          let long = ap length starts' in
          let y = braces_sound types parts end loops breaks room inner sound at o.0 (starts ++ o.0 ∷ []) o.1 x rest (omega (arith, place, long)) h in
          subst (λ ts. At (SpellsBody types loops breaks (suc room) at) starts ts x rest) (sym starts')
          (braces_at types loops breaks room at o.0 (SpellsBody types loops breaks (suc room) at) (λ tokens last inside own s. g.braces s) starts o.1 x rest y))
      | None ↦ (λ none h.
          let y = sound at starts ts x rest place h in
          let none' = subst (λ ts. punct_at p.OpenBrace ts ≡ None) y.all none in
          record {
            tokens = y.tokens;
            own = y.own;
            spelled = ⊎_elim (λ b. absurd (block_opens y.spelled b rest none')) (λ b. g.plain b y.spelled) (cases_Bool (is_block x.0));
            all = y.all;
            begins = y.begins;
            taken = y.taken;
          })
    ]
    refl h

-- ---- choices

-- where an `else` was left, the statement doesn't end in an `if`
closed : (short : Bool) (after : List Token) (x : ℕ × List Token) → (short ≡ true → word_at w.Else after ≡ None) → word_at w.Else after ≡ Some x → short ≡ false
closed false after x taken some = refl
closed true after x taken some = let none = taken refl in absurd cc

-- a condition and a first statement, and what comes after them
record IfAt (types : Names) (loops breaks : Bool) (room at line : ℕ) (starts : List ℕ) (ts : List Token) (test : ex.Expr) (a : tree.Stmt × List ℕ) (after : List Token) : Type 0 where
  behind : List Token
  tested : Tested types room ts test behind
  first : At (SpellsBody types loops breaks (suc room) (at + length tested.value + 3)) (starts ++ line ∷ []) behind a after

abbrev with_other : Option tree.Stmt → List ℕ → Option tree.Stmt × List ℕ
with_other a starts = (a, starts)

abbrev chosen : (line : ℕ) → ex.Expr → tree.Stmt → Option tree.Stmt × List ℕ → tree.Stmt × List ℕ
chosen line test a other = (tree.if_of line test a other.0, other.1)

without_else : (types : Names) (loops breaks : Bool) (room at line : ℕ) (starts : List ℕ) (ts : List Token) (test : ex.Expr) (a : tree.Stmt × List ℕ) (after : List Token)
    → IfAt types loops breaks room at line starts ts test a after → word_at w.Else after ≡ None
    → At (SpellsStmt types loops breaks (suc room) at) starts (word w.If line ∷ ts) (chosen line test a.0 (with_other None a.1)) after
without_else types loops breaks room at line starts ts test a after x none =
    let value = x.tested.value in
    let one = x.first.tokens in
    let open' = punct p.OpenParen x.tested.line in
    let close' = punct p.CloseParen x.tested.line' in
    record {
      tokens = word w.If line ∷ open' ∷ (value ++ close' ∷ one);
      own = line ∷ x.first.own;
      spelled = g.if_only x.tested.line x.tested.line' x.tested.spelled x.first.spelled refl;
      all = ap (λ l. word w.If line ∷ l) (x.tested.all ∙ ap (λ l. open' ∷ l) (ap (λ l. value ++ close' ∷ l) x.first.all ∙ sym (append_assoc value (close' ∷ one) after)));
      begins = pushed starts line line x.first.own a.1 x.first.begins refl;
      taken = λ t. none;
    }

with_else : (types : Names) (loops breaks : Bool) (room at line : ℕ) (starts : List ℕ) (ts : List Token) (test : ex.Expr) (a : tree.Stmt × List ℕ) (after : List Token)
    → (x : IfAt types loops breaks room at line starts ts test a after) → (o : ℕ × List Token) → word_at w.Else after ≡ Some o
    → (b : tree.Stmt × List ℕ) (rest : List Token) → At (SpellsBody types loops breaks (suc room) (at + length x.tested.value + length x.first.tokens + 4)) a.1 o.1 b rest
    → At (SpellsStmt types loops breaks (suc room) at) starts (word w.If line ∷ ts) (chosen line test a.0 (with_other (Some b.0) b.1)) rest
with_else types loops breaks room at line starts ts test a after x o some b rest y =
    let value = x.tested.value in
    let one = x.first.tokens in
    let two = y.tokens in
    let open' = punct p.OpenParen x.tested.line in
    let close' = punct p.CloseParen x.tested.line' in
    let els = word w.Else o.0 in
    let regrouped : value ++ (close' ∷ (one ++ els ∷ (two ++ rest))) ≡ (value ++ close' ∷ (one ++ els ∷ two)) ++ rest = simp append_assoc in
    let grouped : ((starts ++ line ∷ []) ++ x.first.own) ++ y.own ≡ starts ++ line ∷ (x.first.own ++ y.own) = simp append_assoc in
    record {
      tokens = word w.If line ∷ open' ∷ (value ++ close' ∷ (one ++ els ∷ two));
      own = line ∷ (x.first.own ++ y.own);
      spelled = g.if_else x.tested.line x.tested.line' o.0 x.tested.spelled x.first.spelled (closed (ends_short a.0) after o x.first.taken some) y.spelled refl;
      all = ap (λ l. word w.If line ∷ l) (x.tested.all ∙ ap (λ l. open' ∷ l)
          (ap (λ l. value ++ close' ∷ l) (x.first.all ∙ ap (λ l. one ++ l) (word_is w.Else after o.0 o.1 some ∙ ap (λ l. els ∷ l) y.all)) ∙ regrouped));
      begins = y.begins ∙ ap (λ l. l ++ y.own) x.first.begins ∙ grouped;
      taken = y.taken;
    }

pub choice_sound : (types : Names) → Parts types → (end : ℕ) (loops breaks : Bool) (room : ℕ) (inner : Starting tree.Stmt) → SoundFor end (SpellsStmt types loops breaks room) inner
    → (at line : ℕ) (starts : List ℕ) (ts : List Token) (x : tree.Stmt × List ℕ) (rest : List Token) → suc at + length ts ≡ end → r.choice types room inner line (starts ++ line ∷ []) ts ≡ Some (x, rest)
    → At (SpellsStmt types loops breaks (suc room) at) starts (word w.If line ∷ ts) x rest
unfolding r.choice r.otherwise
choice_sound types parts end loops breaks room inner sound at line starts ts x rest place h =
    let e = bind_ok (parts_of.test_at types room ts) _ (x, rest) h in
    let a = bind_ok (r.body types room inner (starts ++ line ∷ []) e.0.1) _ (x, rest) e.2 in
    let o = bind_ok (r.otherwise types room inner a.0.0.1 a.0.1) _ (x, rest) a.2 in
    let same = pair_is (chosen line e.0.0 a.0.0.0 o.0.0) x o.0.1 rest o.2 in
    let tested = test_sound types parts room ts e.0.0 e.0.1 e.1 in
    let long = ap length tested.all in
    let parts' = length-append tested.value (punct p.CloseParen tested.line' ∷ e.0.1) in
    let first = body_sound types parts end loops breaks room inner sound (at + length tested.value + 3) (starts ++ line ∷ []) e.0.1 a.0.0 a.0.1 (omega (arith, place, long, parts')) a.1 in
    let long' = ap length first.all in
    let parts'' = length-append first.tokens a.0.1 in
    let both : IfAt types loops breaks room at line starts ts e.0.0 a.0.0 a.0.1 = record { behind = e.0.1; tested = tested; first = first } in
    let found =
    elim (word_at w.Else a.0.1) as
    (λ q. word_at w.Else a.0.1 ≡ q → (other : Option tree.Stmt × List ℕ) (left : List Token) → r.otherwise_by q types room inner a.0.0.1 a.0.1 ≡ Some (other, left)
    → At (SpellsStmt types loops breaks (suc room) at) starts (word w.If line ∷ ts) (chosen line e.0.0 a.0.0.0 other) left) [
      | None ↦ (λ none other left h.
          let same' = pair_is (with_other None a.0.0.1) other a.0.1 left h in
          let y = without_else types loops breaks room at line starts ts e.0.0 a.0.0 a.0.1 both none in
          subst (λ other. At (SpellsStmt types loops breaks (suc room) at) starts (word w.If line ∷ ts) (chosen line e.0.0 a.0.0.0 other) left) same'.0
          (subst (At (SpellsStmt types loops breaks (suc room) at) starts (word w.If line ∷ ts) (chosen line e.0.0 a.0.0.0 (with_other None a.0.0.1))) same'.1 y))
      | Some q ↦ (λ some other left h.
          let b = bind_ok (r.body types room inner a.0.0.1 q.1) _ (other, left) h in
          let same' = pair_is (with_other (Some b.0.0.0) b.0.0.1) other b.0.1 left b.2 in
          let behind' = ap length (word_is w.Else a.0.1 q.0 q.1 some) in
          let second = body_sound types parts end loops breaks room inner sound (at + length tested.value + length first.tokens + 4) a.0.0.1 q.1 b.0.0 b.0.1
          (omega (arith, place, long, parts', long', parts'', behind')) b.1 in
          let y = with_else types loops breaks room at line starts ts e.0.0 a.0.0 a.0.1 both q some b.0.0 b.0.1 second in
          subst (λ other. At (SpellsStmt types loops breaks (suc room) at) starts (word w.If line ∷ ts) (chosen line e.0.0 a.0.0.0 other) left) same'.0
          (subst (At (SpellsStmt types loops breaks (suc room) at) starts (word w.If line ∷ ts) (chosen line e.0.0 a.0.0.0 (with_other (Some b.0.0.0) b.0.0.1))) same'.1 y))
    ]
    refl o.0.0 o.0.1 o.1 in
    subst (λ x. At (SpellsStmt types loops breaks (suc room) at) starts (word w.If line ∷ ts) x rest) same.0
    (subst (At (SpellsStmt types loops breaks (suc room) at) starts (word w.If line ∷ ts) (chosen line e.0.0 a.0.0.0 o.0.0)) same.1 found)
