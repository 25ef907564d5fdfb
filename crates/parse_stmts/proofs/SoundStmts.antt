-- The reader on lists reads only statements that the grammar spells: loops, `switch`, and all of them by their first token.
use Rattle.std.proofs.Common.{◌≡◌, ℕ, zero, suc, ◌+◌, ◌-◌, ◌≤◌, Bool, true, false, cond, nat_le, ◌&&◌, List, [], ◌∷◌, ◌++◌, length, codes, Option, Some, None, refl, sym, ap, ◌∙◌, subst, arith, append_assoc, length-append}
use Rattle.std.proofs.lemmas.Bool.Decides.{nat_tests}
use Rattle.c_syntax.specs.declared.token.Token.{Token}
use Rattle.c_syntax.specs.declared.token.TokenKind.{TokenKind}
use Rattle.c_syntax.specs.declared.token.Punct.TheVariants as p
use Rattle.c_syntax.specs.declared.token.Word.TheVariants as w
use Rattle.c_syntax.specs.Expr as ex
use Rattle.c_syntax.specs.Stmt as tree
use Rattle.c_syntax.specs.Contract.{LoopAnnot}
use Rattle.c_grammar.specs.Tokens.{Names, token, punct, word, annot_open, annot_close, first_line}
use Rattle.c_grammar.specs.Annots.{SpellsLoop, loop_of}
use Rattle.c_grammar.specs.Stmts as g
use Rattle.c_grammar.specs.Stmts.{SpellsOptional, SpellsFirst, SpellsLoopAnnot, SpellsStmt, SpellsBlock, SpellsStmts, SpellsCases, begins_labelled, defaults}
use Rattle.c_grammar.specs.Reading.{◌>>=◌, punct_at, word_at, keyword_at, annot_close_at}
use Rattle.c_grammar.proofs.Readers.{bind_ok, pair_is, Took}
use Rattle.c_grammar.specs.declared.limits.TheConstants.{MOST_WITHIN, DEEPEST}
use Rattle.c_grammar.proofs.SingleTokens.{punct_is, word_is, close_is, first_line_front}
use Rattle.acsl_parser.specs.Read.{loop_at}
use Rattle.parse_leaf_stmts.specs.declared.forms.Form.{Form}
use Rattle.parse_leaf_stmts.specs.declared.forms.Form.TheVariants as form
use Rattle.parse_leaf_stmts.specs.Read as parts_of
use Rattle.parse_stmts.specs.Read as r
use Rattle.parse_leaf_stmts.specs.Read.{form_of}
use Rattle.parse_stmts.specs.Read.{Starting, Inside, Body, body_of}
use Rattle.parse_stmts.proofs.Tokens.{Begun, begun}
use Rattle.parse_stmts.proofs.Turns.{deep_by, deep_annotated, deep_is}
use Rattle.parse_stmts.proofs.Sound.{Parts, Tested, test_sound, optional_sound, first_sound, plain_sound, assertion_sound, At, SoundFor, with_starts, alone_at, stmts_sound, InBlock, blocks, InSwitch, cases}
use Rattle.parse_stmts.proofs.SoundForms.{pushed, block_item_sound, switch_item_sound, braces_sound, braces_at, body_sound, choice_sound}

-- ---- loops

-- the line of what is spelled is that of what it was read from
first_on : (xs ts rest : List Token) → 1 ≤ length xs → ts ≡ xs ++ rest → first_line ts ≡ first_line xs
first_on xs ts rest some all = ap first_line all ∙ first_line_front xs rest some

while_sound : (types : Names) → Parts types → (end : ℕ) (loops breaks : Bool) (room : ℕ) (inner : Starting tree.Stmt) → SoundFor end (SpellsStmt types true true room) inner
    → (at : ℕ) (before : List Token) (annot : LoopAnnot) → SpellsLoopAnnot types (suc room) at before annot
    → (line : ℕ) (starts : List ℕ) (ts : List Token) (x : tree.Stmt × List ℕ) (rest : List Token) → at + length (before ++ word w.While line ∷ ts) ≡ end
    → r.while_of types room inner annot line (starts ++ first_line (before ++ word w.While line ∷ ts) ∷ []) ts ≡ Some (x, rest)
    → At (SpellsStmt types loops breaks (suc room) at) starts (before ++ word w.While line ∷ ts) x rest
unfolding r.while_of
while_sound types parts end loops breaks room inner sound at before annot spelled line starts ts x rest place h =
    let all = before ++ word w.While line ∷ ts in
    let now = starts ++ first_line all ∷ [] in
    let e = bind_ok (parts_of.test_at types room ts) _ (x, rest) h in
    let a = bind_ok (r.body types room inner now e.0.1) _ (x, rest) e.2 in
    let same = pair_is (with_starts (tree.while_of line annot e.0.0 a.0.0.0) a.0.0.1) x a.0.1 rest a.2 in
    let tested = test_sound types parts room ts e.0.0 e.0.1 e.1 in
    let value = tested.value in
    let long = ap length tested.all in
    let long' = length-append value (punct p.CloseParen tested.line' ∷ e.0.1) in
    let long'' = length-append before (word w.While line ∷ ts) in
    let inside = body_sound types parts end true true room inner sound (at + length before + length value + 3) now e.0.1 a.0.0 a.0.1 (omega (arith, place, long, long', long'')) a.1 in
    let one = inside.tokens in
    let open' = punct p.OpenParen tested.line in
    let close' = punct p.CloseParen tested.line' in
    let xs = before ++ word w.While line ∷ open' ∷ (value ++ close' ∷ one) in
    let regrouped : before ++ (word w.While line ∷ open' ∷ (value ++ close' ∷ (one ++ rest))) ≡ xs ++ rest = simp append_assoc in
    let whole : all ≡ xs ++ rest =
    ap (λ l. before ++ word w.While line ∷ l) (tested.all ∙ ap (λ l. open' ∷ (value ++ close' ∷ l)) (inside.all ∙ ap (λ l. one ++ l) same.1)) ∙ regrouped in
    let on = first_on xs all rest (omega (arith, length-append before (word w.While line ∷ open' ∷ (value ++ close' ∷ one)))) whole in
    subst (λ x. At (SpellsStmt types loops breaks (suc room) at) starts all x rest) same.0 (record {
      tokens = xs;
      own = first_line xs ∷ inside.own;
      spelled = g.while_of tested.line tested.line' spelled tested.spelled inside.spelled refl;
      all = whole;
      begins = pushed starts (first_line all) (first_line xs) inside.own a.0.0.1 inside.begins on;
      taken = λ t. subst (λ l. word_at w.Else l ≡ None) same.1 (inside.taken t);
    })

-- what comes behind the body of a `do`
record DoEnd (types : Names) (room : ℕ) (ts : List Token) (test : ex.Expr) (rest : List Token) : Type 0 where
  line : ℕ
  tested' : List Token
  tested : Tested types room tested' test (punct p.Semicolon line ∷ rest)
  while_line : ℕ
  all : ts ≡ word w.While while_line ∷ tested'

do_end_sound : (types : Names) → Parts types → (room : ℕ) (ts : List Token) (test : ex.Expr) (rest : List Token) → parts_of.do_end_at types room ts ≡ Some (test, rest) → DoEnd types room ts test rest
unfolding parts_of.do_end_at
do_end_sound types parts room ts test rest h =
    let x = bind_ok (word_at w.While ts) _ (test, rest) h in
    let e = bind_ok (parts_of.test_at types room x.0.1) _ (test, rest) x.2 in
    let y = bind_ok (punct_at p.Semicolon e.0.1) _ (test, rest) e.2 in
    let same = pair_is e.0.0 test y.0.1 rest y.2 in
    let semi = punct_is p.Semicolon e.0.1 y.0.0 y.0.1 y.1 ∙ ap (λ l. punct p.Semicolon y.0.0 ∷ l) same.1 in
    let read = subst (λ a. Tested types room x.0.1 a (punct p.Semicolon y.0.0 ∷ rest)) same.0 (subst (Tested types room x.0.1 e.0.0) semi (test_sound types parts room x.0.1 e.0.0 e.0.1 e.1)) in
    record { line = y.0.0; tested' = x.0.1; tested = read; while_line = x.0.0; all = word_is w.While ts x.0.0 x.0.1 x.1 }

do_sound : (types : Names) → Parts types → (end : ℕ) (loops breaks : Bool) (room : ℕ) (inner : Starting tree.Stmt) → SoundFor end (SpellsStmt types true true room) inner
    → (at : ℕ) (before : List Token) (annot : LoopAnnot) → SpellsLoopAnnot types (suc room) at before annot
    → (line : ℕ) (starts : List ℕ) (ts : List Token) (x : tree.Stmt × List ℕ) (rest : List Token) → at + length (before ++ word w.Do line ∷ ts) ≡ end
    → r.do_of types room inner annot line (starts ++ first_line (before ++ word w.Do line ∷ ts) ∷ []) ts ≡ Some (x, rest)
    → At (SpellsStmt types loops breaks (suc room) at) starts (before ++ word w.Do line ∷ ts) x rest
unfolding r.do_of
do_sound types parts end loops breaks room inner sound at before annot spelled line starts ts x rest place h =
    let all = before ++ word w.Do line ∷ ts in
    let now = starts ++ first_line all ∷ [] in
    let a = bind_ok (r.body types room inner now ts) _ (x, rest) h in
    let e = bind_ok (parts_of.do_end_at types room a.0.1) _ (x, rest) a.2 in
    let same = pair_is (with_starts (tree.do_of line annot a.0.0.0 e.0.0) a.0.0.1) x e.0.1 rest e.2 in
    let long'' = length-append before (word w.Do line ∷ ts) in
    let inside = body_sound types parts end true true room inner sound (at + length before + 1) now ts a.0.0 a.0.1 (omega (arith, place, long'')) a.1 in
    let tail = do_end_sound types parts room a.0.1 e.0.0 e.0.1 e.1 in
    let one = inside.tokens in
    let value = tail.tested.value in
    let do' = word w.Do line in
    let while' = word w.While tail.while_line in
    let open' = punct p.OpenParen tail.tested.line in
    let close' = punct p.CloseParen tail.tested.line' in
    let semi = punct p.Semicolon tail.line in
    let xs = before ++ do' ∷ (one ++ while' ∷ open' ∷ (value ++ close' ∷ semi ∷ [])) in
    let regrouped : before ++ (do' ∷ (one ++ while' ∷ open' ∷ (value ++ close' ∷ semi ∷ rest))) ≡ xs ++ rest = simp append_assoc in
    let whole : all ≡ xs ++ rest =
    ap (λ l. before ++ do' ∷ l) (inside.all ∙ ap (λ l. one ++ l) (tail.all ∙ ap (λ l. while' ∷ l) (tail.tested.all ∙ ap (λ l. open' ∷ (value ++ close' ∷ semi ∷ l)) same.1))) ∙ regrouped in
    let on = first_on xs all rest (omega (arith, length-append before (do' ∷ (one ++ while' ∷ open' ∷ (value ++ close' ∷ semi ∷ []))))) whole in
    subst (λ x. At (SpellsStmt types loops breaks (suc room) at) starts all x rest) same.0 (record {
      tokens = xs;
      own = first_line xs ∷ inside.own;
      spelled = g.do_of tail.while_line tail.tested.line tail.tested.line' tail.line spelled inside.spelled tail.tested.spelled refl;
      all = whole;
      begins = pushed starts (first_line all) (first_line xs) inside.own a.0.0.1 inside.begins on;
      taken = λ t. absurd cc;
    })

-- what stands in the parentheses of a `for`
record HeadAt (types : Names) (room : ℕ) (ts : List Token) (h : tree.Stmt × Option ex.Expr × Option ex.Expr) (rest : List Token) : Type 0 where
  line : ℕ
  line' : ℕ
  line'' : ℕ
  first : List Token
  test : List Token
  next : List Token
  first_spelled : SpellsFirst types room first h.0
  test_spelled : SpellsOptional types room test h.1
  next_spelled : SpellsOptional types room next h.2
  all : ts ≡ punct p.OpenParen line ∷ (first ++ (test ++ punct p.Semicolon line' ∷ (next ++ punct p.CloseParen line'' ∷ rest)))

abbrev made_head : tree.Stmt → Option ex.Expr → Option ex.Expr → tree.Stmt × Option ex.Expr × Option ex.Expr
made_head i c n = (i, c, n)

head_sound : (types : Names) → Parts types → (room : ℕ) (ts : List Token) (x : tree.Stmt × Option ex.Expr × Option ex.Expr) (rest : List Token) → parts_of.head_at types room ts ≡ Some (x, rest) → HeadAt types room ts x rest
unfolding parts_of.head_at
head_sound types parts room ts x rest h =
    let o = bind_ok (punct_at p.OpenParen ts) _ (x, rest) h in
    let i = bind_ok (parts_of.first_at types room o.0.1) _ (x, rest) o.2 in
    let c = bind_ok (parts_of.optional_at types room p.Semicolon i.0.1) _ (x, rest) i.2 in
    let n = bind_ok (parts_of.optional_at types room p.CloseParen c.0.1) _ (x, rest) c.2 in
    let same = pair_is (made_head i.0.0 c.0.0 n.0.0) x n.0.1 rest n.2 in
    let first = first_sound types parts room o.0.1 i.0.0 i.0.1 i.1 in
    let test = optional_sound types parts room p.Semicolon i.0.1 c.0.0 c.0.1 c.1 in
    let next = optional_sound types parts room p.CloseParen c.0.1 n.0.0 n.0.1 n.1 in
    let open' = punct p.OpenParen o.0.0 in
    let semi = punct p.Semicolon test.line in
    let close' = punct p.CloseParen next.line in
    subst (λ x. HeadAt types room ts x rest) same.0 (record {
      line = o.0.0;
      line' = test.line;
      line'' = next.line;
      first = first.0;
      test = test.value;
      next = next.value;
      first_spelled = first.2;
      test_spelled = test.spelled;
      next_spelled = next.spelled;
      all = punct_is p.OpenParen ts o.0.0 o.0.1 o.1
          ∙ ap (λ l. open' ∷ l) (first.1 ∙ ap (λ l. first.0 ++ l) (test.all ∙ ap (λ l. test.value ++ semi ∷ l) (next.all ∙ ap (λ l. next.value ++ close' ∷ l) same.1)));
    })

for_sound : (types : Names) → Parts types → (end : ℕ) (loops breaks : Bool) (room : ℕ) (inner : Starting tree.Stmt) → SoundFor end (SpellsStmt types true true room) inner
    → (at : ℕ) (before : List Token) (annot : LoopAnnot) → SpellsLoopAnnot types (suc room) at before annot
    → (line : ℕ) (starts : List ℕ) (ts : List Token) (x : tree.Stmt × List ℕ) (rest : List Token) → at + length (before ++ word w.For line ∷ ts) ≡ end
    → r.for_of types room inner annot line (starts ++ first_line (before ++ word w.For line ∷ ts) ∷ []) ts ≡ Some (x, rest)
    → At (SpellsStmt types loops breaks (suc room) at) starts (before ++ word w.For line ∷ ts) x rest
unfolding r.for_of
for_sound types parts end loops breaks room inner sound at before annot spelled line starts ts x rest place h =
    let all = before ++ word w.For line ∷ ts in
    let now = starts ++ first_line all ∷ [] in
    let e = bind_ok (parts_of.head_at types room ts) _ (x, rest) h in
    let a = bind_ok (r.body types room inner now e.0.1) _ (x, rest) e.2 in
    let same = pair_is (with_starts (tree.for_of line annot e.0.0.0 e.0.0.1 e.0.0.2 a.0.0.0) a.0.0.1) x a.0.1 rest a.2 in
    let head = head_sound types parts room ts e.0.0 e.0.1 e.1 in
    let for' = word w.For line in
    let open' = punct p.OpenParen head.line in
    let semi = punct p.Semicolon head.line' in
    let close' = punct p.CloseParen head.line'' in
    let long = ap length head.all in
    let long1 = length-append head.first (head.test ++ semi ∷ (head.next ++ close' ∷ e.0.1)) in
    let long2 = length-append head.test (semi ∷ (head.next ++ close' ∷ e.0.1)) in
    let long3 = length-append head.next (close' ∷ e.0.1) in
    let long4 = length-append before (for' ∷ ts) in
    let inside = body_sound types parts end true true room inner sound (at + length before + length head.first + length head.test + length head.next + 4) now e.0.1 a.0.0 a.0.1
    (omega (arith, place, long, long1, long2, long3, long4)) a.1 in
    let one = inside.tokens in
    let xs = before ++ for' ∷ open' ∷ (head.first ++ (head.test ++ semi ∷ (head.next ++ close' ∷ one))) in
    let regrouped : before ++ (for' ∷ open' ∷ (head.first ++ (head.test ++ semi ∷ (head.next ++ close' ∷ (one ++ rest))))) ≡ xs ++ rest = simp append_assoc in
    let whole : all ≡ xs ++ rest =
    ap (λ l. before ++ for' ∷ l) (head.all ∙ ap (λ l. open' ∷ (head.first ++ (head.test ++ semi ∷ (head.next ++ close' ∷ l)))) (inside.all ∙ ap (λ l. one ++ l) same.1)) ∙ regrouped in
    let on = first_on xs all rest (omega (arith, length-append before (for' ∷ open' ∷ (head.first ++ (head.test ++ semi ∷ (head.next ++ close' ∷ one)))))) whole in
    subst (λ x. At (SpellsStmt types loops breaks (suc room) at) starts all x rest) same.0 (record {
      tokens = xs;
      own = first_line xs ∷ inside.own;
      spelled = g.for_of head.line head.line' head.line'' spelled head.first_spelled head.test_spelled head.next_spelled inside.spelled refl;
      all = whole;
      begins = pushed starts (first_line all) (first_line xs) inside.own a.0.0.1 inside.begins on;
      taken = λ t. subst (λ l. word_at w.Else l ≡ None) same.1 (inside.taken t);
    })

looped_by_sound : (types : Names) → Parts types → (end : ℕ) (loops breaks : Bool) (room : ℕ) (inner : Starting tree.Stmt) → SoundFor end (SpellsStmt types true true room) inner
    → (at : ℕ) (before : List Token) (annot : LoopAnnot) → SpellsLoopAnnot types (suc room) at before annot
    → (line : ℕ) (kind : TokenKind) (f : Form) → Begun f kind
    → (starts : List ℕ) (ts : List Token) (x : tree.Stmt × List ℕ) (rest : List Token) → at + length (before ++ token kind line ∷ ts) ≡ end
    → r.looped_by f types room inner annot line (starts ++ first_line (before ++ token kind line ∷ ts) ∷ []) ts ≡ Some (x, rest)
    → At (SpellsStmt types loops breaks (suc room) at) starts (before ++ token kind line ∷ ts) x rest
looped_by_sound types parts end loops breaks room inner sound at before annot spelled line kind form.While b starts ts x rest =
    subst (λ kind. at + length (before ++ token kind line ∷ ts) ≡ end → r.looped_by form.While types room inner annot line (starts ++ first_line (before ++ token kind line ∷ ts) ∷ []) ts ≡ Some (x, rest)
    → At (SpellsStmt types loops breaks (suc room) at) starts (before ++ token kind line ∷ ts) x rest) (sym b)
    (while_sound types parts end loops breaks room inner sound at before annot spelled line starts ts x rest)
looped_by_sound types parts end loops breaks room inner sound at before annot spelled line kind form.Do b starts ts x rest =
    subst (λ kind. at + length (before ++ token kind line ∷ ts) ≡ end → r.looped_by form.Do types room inner annot line (starts ++ first_line (before ++ token kind line ∷ ts) ∷ []) ts ≡ Some (x, rest)
    → At (SpellsStmt types loops breaks (suc room) at) starts (before ++ token kind line ∷ ts) x rest) (sym b)
    (do_sound types parts end loops breaks room inner sound at before annot spelled line starts ts x rest)
looped_by_sound types parts end loops breaks room inner sound at before annot spelled line kind form.For b starts ts x rest =
    subst (λ kind. at + length (before ++ token kind line ∷ ts) ≡ end → r.looped_by form.For types room inner annot line (starts ++ first_line (before ++ token kind line ∷ ts) ∷ []) ts ≡ Some (x, rest)
    → At (SpellsStmt types loops breaks (suc room) at) starts (before ++ token kind line ∷ ts) x rest) (sym b)
    (for_sound types parts end loops breaks room inner sound at before annot spelled line starts ts x rest)
looped_by_sound types parts end loops breaks room inner sound at before annot spelled line kind _ b starts ts x rest = λ place h. absurd cc

looped_sound : (types : Names) → Parts types → (end : ℕ) (loops breaks : Bool) (room : ℕ) (inner : Starting tree.Stmt) → SoundFor end (SpellsStmt types true true room) inner
    → (at : ℕ) (before : List Token) (annot : LoopAnnot) → SpellsLoopAnnot types (suc room) at before annot
    → (starts : List ℕ) (ts : List Token) (x : tree.Stmt × List ℕ) (rest : List Token) → at + length (before ++ ts) ≡ end
    → r.looped types room inner annot (starts ++ first_line (before ++ ts) ∷ []) ts ≡ Some (x, rest)
    → At (SpellsStmt types loops breaks (suc room) at) starts (before ++ ts) x rest
unfolding r.looped
looped_sound types parts end loops breaks room inner sound at before annot spelled starts [] x rest place h = absurd cc
looped_sound types parts end loops breaks room inner sound at before annot spelled starts (t ∷ ts) x rest place h =
    looped_by_sound types parts end loops breaks room inner sound at before annot spelled t.line t.kind (form_of t.kind) (begun t.kind) starts ts x rest place h

-- ---- `switch`

switch_if_is : (fits : Bool) (made : tree.Stmt) (starts : List ℕ) (ts : List Token) (x : tree.Stmt × List ℕ) (rest : List Token) → r.switch_if fits made starts ts ≡ Some (x, rest)
    → (fits ≡ true) × (with_starts made starts ≡ x) × (ts ≡ rest)
switch_if_is false made starts ts x rest h = absurd cc
switch_if_is true made starts ts x rest h = let same = pair_is (with_starts made starts) x ts rest h in (refl, same.0, same.1)

both_true : (a b : Bool) → (a && b) ≡ true → (a ≡ true) × (b ≡ true)
both_true true b h = (refl, h)
both_true false b h = absurd cc

switch_sound : (types : Names) → Parts types → (end : ℕ) (loops breaks : Bool) (room : ℕ) (inner : Starting tree.Stmt) → SoundFor end (SpellsStmt types loops true room) inner
    → (at line : ℕ) (starts : List ℕ) (ts : List Token) (x : tree.Stmt × List ℕ) (rest : List Token) → suc at + length ts ≡ end → r.switch_of types room inner line (starts ++ line ∷ []) ts ≡ Some (x, rest)
    → At (SpellsStmt types loops breaks (suc room) at) starts (word w.Switch line ∷ ts) x rest
unfolding r.switch_of
switch_sound types parts end loops breaks room inner sound at line starts ts x rest place h =
    let now = starts ++ line ∷ [] in
    let e = bind_ok (parts_of.test_at types room ts) _ (x, rest) h in
    let o = bind_ok (punct_at p.OpenBrace e.0.1) _ (x, rest) e.2 in
    let b = bind_ok (r.stmts (r.item types room true inner) (length o.0.1) now o.0.1) _ (x, rest) o.2 in
    let last = switch_if_is (parts_of.is_switch b.0.0.0) (tree.switch line e.0.0 b.0.0.0) b.0.0.2 b.0.1 x rest b.2 in
    let fits = both_true (begins_labelled b.0.0.0) (nat_le (defaults b.0.0.0) 1) last.0 in
    let tested = test_sound types parts room ts e.0.0 e.0.1 e.1 in
    let value = tested.value in
    let brace = punct_is p.OpenBrace e.0.1 o.0.0 o.0.1 o.1 in
    let long = ap length tested.all in
    let long' = length-append value (punct p.CloseParen tested.line' ∷ e.0.1) in
    let long'' = ap length brace in
    let inside = stmts_sound (InSwitch types loops room) (SpellsCases types loops room) (cases types loops room) end (r.item types room true inner)
    (switch_item_sound types parts end loops room inner sound) (length o.0.1) (at + length value + 4) now o.0.1 b.0.0 b.0.1 (omega (arith, place, long, long', long'')) b.1 in
    let open' = punct p.OpenParen tested.line in
    let close' = punct p.CloseParen tested.line' in
    let brace' = punct p.OpenBrace o.0.0 in
    let end' = punct p.CloseBrace b.0.0.1 in
    let xs = word w.Switch line ∷ open' ∷ (value ++ close' ∷ brace' ∷ (inside.tokens ++ end' ∷ [])) in
    let regrouped : value ++ (close' ∷ brace' ∷ (inside.tokens ++ end' ∷ rest)) ≡ (value ++ close' ∷ brace' ∷ (inside.tokens ++ end' ∷ [])) ++ rest = simp append_assoc in
    subst (λ x. At (SpellsStmt types loops breaks (suc room) at) starts (word w.Switch line ∷ ts) x rest) last.1 (record {
      tokens = xs;
      own = line ∷ inside.own;
      spelled = g.switch tested.line tested.line' o.0.0 b.0.0.1 tested.spelled inside.spelled fits.0 fits.1 refl;
      all = ap (λ l. word w.Switch line ∷ l)
          (tested.all ∙ ap (λ l. open' ∷ l) (ap (λ l. value ++ close' ∷ l) (brace ∙ ap (λ l. brace' ∷ l) (inside.all ∙ ap (λ l. inside.tokens ++ end' ∷ l) last.2)) ∙ regrouped));
      begins = pushed starts line line inside.own b.0.0.2 inside.begins refl;
      taken = λ t. absurd cc;
    })

-- ---- annotations

-- the annotation of a loop behind its opening
record LoopAnnotAt (types : Names) (room at line : ℕ) (ts : List Token) (a : LoopAnnot) (rest : List Token) : Type 0 where
  tokens : List Token
  spelled : SpellsLoopAnnot types room at tokens a
  all : annot_open line ∷ ts ≡ tokens ++ rest
  first : first_line tokens ≡ line
  some : 1 ≤ length tokens

-- the annotation that was read, and its end
abbrev closed_annot : Option (LoopAnnot × List Token) → Option (LoopAnnot × List Token)
closed_annot o = o >>= λ a. annot_close_at a.1 >>= λ x. Some (a.0, x.1)

loop_annot_sound : (types : Names) → Parts types → (room end at line : ℕ) (ts : List Token) (a : LoopAnnot) (rest : List Token) → suc at + length ts ≡ end → parts_of.loop_annot_at types room end ts ≡ Some (a, rest)
    → LoopAnnotAt types room at line ts a rest
unfolding parts_of.loop_annot_at
loop_annot_sound types parts room end at line ts a rest place h =
    let within : nat_le (length ts) end ≡ true = grind (arith, nat_tests) in
    let h' = subst (λ b. cond b (closed_annot (loop_at types room end ts)) None ≡ Some (a, rest)) within h in
    let x = bind_ok (loop_at types room end ts) _ (a, rest) h' in
    let y = bind_ok (annot_close_at x.0.1) _ (a, rest) x.2 in
    let same = pair_is x.0.0 a y.0.1 rest y.2 in
    let took = parts.loop_sound room end ts x.0.0 x.0.1 (omega (arith, place)) x.1 in
    let close' = annot_close y.0.0 in
    let here : end - length ts ≡ suc at = omega (arith, place) in
    record {
      tokens = annot_open line ∷ (took.0 ++ close' ∷ []);
      spelled = subst (SpellsLoopAnnot types room at (annot_open line ∷ (took.0 ++ close' ∷ []))) same.0
          (g.annotated line y.0.0 (subst (λ at. SpellsLoop types room at took.0 x.0.0) here took.2) refl);
      all = ap (λ l. annot_open line ∷ l)
          (took.1 ∙ ap (λ l. took.0 ++ l) (close_is x.0.1 y.0.0 y.0.1 y.1 ∙ ap (λ l. close' ∷ l) same.1) ∙ sym (append_assoc took.0 (close' ∷ []) rest));
      first = refl;
      some = omega arith;
    }

-- a loop with its annotation
annotated_sound : (types : Names) → Parts types → (end : ℕ) (loops breaks : Bool) (room : ℕ) (inner : Starting tree.Stmt) → SoundFor end (SpellsStmt types true true room) inner
    → (at line : ℕ) (starts : List ℕ) (ts : List Token) (x : tree.Stmt × List ℕ) (rest : List Token) → suc at + length ts ≡ end
    → (parts_of.loop_annot_at types (suc room) end ts >>= λ a. r.looped types room inner a.0 (starts ++ line ∷ []) a.1) ≡ Some (x, rest)
    → At (SpellsStmt types loops breaks (suc room) at) starts (annot_open line ∷ ts) x rest
annotated_sound types parts end loops breaks room inner sound at line starts ts x rest place h =
    let a = bind_ok (parts_of.loop_annot_at types (suc room) end ts) _ (x, rest) h in
    let y = loop_annot_sound types parts (suc room) end at line ts a.0.0 a.0.1 place a.1 in
    let on : line ≡ first_line (y.tokens ++ a.0.1) = ap first_line y.all in
    let long = ap length y.all in
    let h' = subst (λ line. r.looped types room inner a.0.0 (starts ++ line ∷ []) a.0.1 ≡ Some (x, rest)) on a.2 in
    subst (λ ts. At (SpellsStmt types loops breaks (suc room) at) starts ts x rest) (sym y.all)
    (looped_sound types parts end loops breaks room inner sound at y.tokens a.0.0 y.spelled starts a.0.1 x rest (omega (arith, place, long)) h')

-- ---- every statement

-- with no room
flat_sound : (types : Names) → Parts types → (end : ℕ) (inner : Inside) (loops breaks : Bool) (at line : ℕ) (kind : TokenKind) (f : Form) → Begun f kind
    → (starts : List ℕ) (ts : List Token) (x : tree.Stmt × List ℕ) (rest : List Token)
    → r.stmt_by types end 0 inner loops breaks line f (starts ++ line ∷ []) ts (token kind line ∷ ts) ≡ Some (x, rest)
    → At (SpellsStmt types loops breaks 0 at) starts (token kind line ∷ ts) x rest
unfolding r.annotated
flat_sound types parts end inner loops breaks at line kind form.Block b starts ts x rest h = absurd cc
flat_sound types parts end inner loops breaks at line kind form.If b starts ts x rest h = absurd cc
flat_sound types parts end inner loops breaks at line kind form.While b starts ts x rest h = absurd cc
flat_sound types parts end inner loops breaks at line kind form.Do b starts ts x rest h = absurd cc
flat_sound types parts end inner loops breaks at line kind form.For b starts ts x rest h = absurd cc
flat_sound types parts end inner loops breaks at line kind form.Switch b starts ts x rest h = absurd cc
flat_sound types parts end inner loops breaks at line kind form.Annotated b starts ts x rest h =
    elim (keyword_at (codes "assert") ts) as (λ o. r.annotated_by o types end 0 inner (starts ++ line ∷ []) ts ≡ Some (x, rest) → At (SpellsStmt types loops breaks 0 at) starts (token kind line ∷ ts) x rest) [
      | Some y ↦ (λ h.
          subst (λ kind. At (SpellsStmt types loops breaks 0 at) starts (token kind line ∷ ts) x rest) (sym b)
          (alone_at types loops breaks 0 at starts (annot_open line ∷ ts) x rest (parts_of.assertion_at types 0 ts) (λ a read. assertion_sound types parts loops breaks 0 line ts a rest read) h))
      | None ↦ (λ h. absurd cc)
    ]
    h
flat_sound types parts end inner loops breaks at line kind _ b starts ts x rest h =
    alone_at types loops breaks 0 at starts (token kind line ∷ ts) x rest (parts_of.plain_at types 0 loops breaks (token kind line ∷ ts)) (λ a read. plain_sound types parts loops breaks 0 (token kind line ∷ ts) a rest read) h

-- what reads the statements in one
abbrev InsideSound : Names → (end room : ℕ) → Inside → Type 0
InsideSound types end room inner = (loops breaks : Bool) → SoundFor end (SpellsStmt types loops breaks room) (inner loops breaks)

deep_sound : (types : Names) → Parts types → (end room : ℕ) (inner : Inside) → InsideSound types end room inner → (loops breaks : Bool) (at line : ℕ) (kind : TokenKind) (f : Form) → Begun f kind
    → (starts : List ℕ) (ts : List Token) (x : tree.Stmt × List ℕ) (rest : List Token) → suc at + length ts ≡ end
    → deep_by types end room inner loops breaks line f (starts ++ line ∷ []) ts (token kind line ∷ ts) ≡ Some (x, rest)
    → At (SpellsStmt types loops breaks (suc room) at) starts (token kind line ∷ ts) x rest
deep_sound types parts end room inner sound loops breaks at line kind form.Block b starts ts x rest place h =
    subst (λ kind. At (SpellsStmt types loops breaks (suc room) at) starts (token kind line ∷ ts) x rest) (sym b)
    (braces_at types loops breaks room at line (SpellsStmt types loops breaks (suc room) at) (λ tokens last inside own s. g.block s) starts ts x rest
    (braces_sound types parts end loops breaks room (inner loops breaks) (sound loops breaks) at line (starts ++ line ∷ []) ts x rest place h))
deep_sound types parts end room inner sound loops breaks at line kind form.If b starts ts x rest place h =
    subst (λ kind. At (SpellsStmt types loops breaks (suc room) at) starts (token kind line ∷ ts) x rest) (sym b)
    (choice_sound types parts end loops breaks room (inner loops breaks) (sound loops breaks) at line starts ts x rest place h)
deep_sound types parts end room inner sound loops breaks at line kind form.While b starts ts x rest place h =
    looped_sound types parts end loops breaks room (inner true true) (sound true true) at [] (loop_of []) (g.none refl) starts (token kind line ∷ ts) x rest (omega (arith, place)) h
deep_sound types parts end room inner sound loops breaks at line kind form.Do b starts ts x rest place h =
    looped_sound types parts end loops breaks room (inner true true) (sound true true) at [] (loop_of []) (g.none refl) starts (token kind line ∷ ts) x rest (omega (arith, place)) h
deep_sound types parts end room inner sound loops breaks at line kind form.For b starts ts x rest place h =
    looped_sound types parts end loops breaks room (inner true true) (sound true true) at [] (loop_of []) (g.none refl) starts (token kind line ∷ ts) x rest (omega (arith, place)) h
deep_sound types parts end room inner sound loops breaks at line kind form.Switch b starts ts x rest place h =
    subst (λ kind. At (SpellsStmt types loops breaks (suc room) at) starts (token kind line ∷ ts) x rest) (sym b)
    (switch_sound types parts end loops breaks room (inner loops true) (sound loops true) at line starts ts x rest place h)
deep_sound types parts end room inner sound loops breaks at line kind form.Annotated b starts ts x rest place h =
    elim (keyword_at (codes "assert") ts) as
    (λ o. deep_annotated o types end room inner (starts ++ line ∷ []) ts ≡ Some (x, rest) → At (SpellsStmt types loops breaks (suc room) at) starts (token kind line ∷ ts) x rest) [
      | Some y ↦ (λ h.
          subst (λ kind. At (SpellsStmt types loops breaks (suc room) at) starts (token kind line ∷ ts) x rest) (sym b)
          (alone_at types loops breaks (suc room) at starts (annot_open line ∷ ts) x rest (parts_of.assertion_at types (suc room) ts) (λ a read. assertion_sound types parts loops breaks (suc room) line ts a rest read) h))
      | None ↦ (λ h.
          subst (λ kind. At (SpellsStmt types loops breaks (suc room) at) starts (token kind line ∷ ts) x rest) (sym b)
          (annotated_sound types parts end loops breaks room (inner true true) (sound true true) at line starts ts x rest place h))
    ]
    h
deep_sound types parts end room inner sound loops breaks at line kind _ b starts ts x rest place h =
    alone_at types loops breaks (suc room) at starts (token kind line ∷ ts) x rest (parts_of.plain_at types (suc room) loops breaks (token kind line ∷ ts))
    (λ a read. plain_sound types parts loops breaks (suc room) (token kind line ∷ ts) a rest read) h

pub stmt_sound : (types : Names) → Parts types → (end room : ℕ) → InsideSound types end room (r.stmt types end room)
unfolding r.stmt
stmt_sound types parts end zero loops breaks at starts [] x rest place h = absurd cc
stmt_sound types parts end zero loops breaks at starts (t ∷ ts) x rest place h =
    flat_sound types parts end (λ loops breaks starts ts. None) loops breaks at t.line t.kind (form_of t.kind) (begun t.kind) starts ts x rest h
stmt_sound types parts end (suc room) loops breaks at starts [] x rest place h = absurd cc
stmt_sound types parts end (suc room) loops breaks at starts (t ∷ ts) x rest place h =
    deep_sound types parts end room (r.stmt types end room) (stmt_sound types parts end room) loops breaks at t.line t.kind (form_of t.kind) (begun t.kind) starts ts x rest (omega (arith, place))
    (sym (deep_is types end room (r.stmt types end room) loops breaks t.line (form_of t.kind) (starts ++ t.line ∷ []) ts (t ∷ ts)) ∙ h)

-- ---- the body of a function

pub block_sound : (types : Names) → Parts types → (end at : ℕ) (ts : List Token) (b : Body) (rest : List Token) → at + length ts ≡ end → r.block_at types end ts ≡ Some (b, rest)
    → Took (λ xs b. SpellsBlock types false false DEEPEST at xs b.line b.end b.stmts b.starts) ts b rest
unfolding r.block_at
block_sound types parts end at ts b rest place h =
    let o = bind_ok (punct_at p.OpenBrace ts) _ (b, rest) h in
    let inner = r.stmt types end MOST_WITHIN false false in
    let y = bind_ok (r.stmts (r.item types MOST_WITHIN false inner) (length o.0.1) [] o.0.1) _ (b, rest) o.2 in
    let same = pair_is (body_of o.0.0 y.0.0) b y.0.1 rest y.2 in
    let brace = punct_is p.OpenBrace ts o.0.0 o.0.1 o.1 in
    let long = ap length brace in
    let z = stmts_sound (InBlock types false false MOST_WITHIN) (SpellsStmts types false false MOST_WITHIN) (blocks types false false MOST_WITHIN) end (r.item types MOST_WITHIN false inner)
    (block_item_sound types parts end false false MOST_WITHIN inner (stmt_sound types parts end MOST_WITHIN false false)) (length o.0.1) (suc at) [] o.0.1 y.0.0 y.0.1 (omega (arith, place, long)) y.1 in
    let open' = punct p.OpenBrace o.0.0 in
    let close' = punct p.CloseBrace y.0.0.1 in
    let xs = open' ∷ (z.tokens ++ close' ∷ []) in
    let spelled : SpellsBlock types false false DEEPEST at xs o.0.0 y.0.0.1 y.0.0.0 y.0.0.2 =
    subst (SpellsBlock types false false DEEPEST at xs o.0.0 y.0.0.1 y.0.0.0) (sym z.begins) (g.between z.spelled refl) in (
      xs,
      brace ∙ ap (λ l. open' ∷ l) (z.all ∙ ap (λ l. z.tokens ++ close' ∷ l) same.1 ∙ sym (append_assoc z.tokens (close' ∷ []) rest)),
      subst (λ (b : Body). SpellsBlock types false false DEEPEST at xs b.line b.end b.stmts b.starts) same.0 spelled,
    )
