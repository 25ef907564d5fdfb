-- What is read as an operand, behind `==>` or as a whole predicate is spelled so.
use Rattle.std.proofs.Common.{◌≡◌, ℕ, zero, suc, Bool, true, false, List, [], ◌∷◌, ◌++◌, length, Some, None, refl, sym, ap, ◌∙◌, subst, arith, append_assoc}
use Rattle.c_syntax.specs.declared.token.Token.{Token}
use Rattle.c_syntax.specs.declared.token.TokenKind.{TokenKind}
use Rattle.c_syntax.specs.declared.token.TokenKind.TheVariants as k
use Rattle.c_syntax.specs.declared.token.Punct.{Punct}
use Rattle.c_syntax.specs.declared.token.Punct.TheVariants as p
use Rattle.c_syntax.specs.declared.token.Word.{Word}
use Rattle.c_syntax.specs.declared.token.Word.TheVariants as w
use Rattle.c_syntax.specs.Expr as e
use Rattle.c_syntax.specs.Term as t
use Rattle.c_syntax.specs.Pred as r
use Rattle.c_grammar.specs.Tokens.{Names, token, punct, word, name}
use Rattle.c_grammar.specs.Preds as g
use Rattle.c_grammar.specs.Preds.{SpellsAtom, SpellsOperand, SpellsJoined, SpellsImplied, SpellsIff, SpellsPred, SpellsBinders, connected}
use Rattle.c_grammar.specs.Reading.{Reader, ◌>>=◌, nothing, punct_at}
use Rattle.c_grammar.proofs.Readers.{Sound, bind_ok, got, pair_is}
use Rattle.c_grammar.proofs.SingleTokens.{punct_is}
use Rattle.parse_preds.specs.Read.{ends_pred, connective_at, seen_as, atom_at, Form, an_operand, an_implied, a_whole, body_at, bound_at, value_at, quantified, let_at, operand_by, operand_over, joined_over, implies_by, implied_over, iff_at, iff_of, iff_over, arms_at, cond_by, whole_over, form_over, turned, none_below, form_at, pred_at}
use Rattle.parse_preds.proofs.Ends.{connective_is, pred_stops, no_connective}
use Rattle.parse_preds.proofs.Below.{Below}
use Rattle.parse_preds.proofs.Trailing.{Trailing, Reached, Reaches, Joins, Halts, linked_reaches, levels_reach}
use Rattle.parse_preds.proofs.Reading.{iff_more}
use Rattle.parse_preds.proofs.Sound.{seen_ok, Inside, SomePred, atom_sound, Spells, BelowReaches, body_ok, bound_ok, value_ok}

-- ---- operands

-- a predicate below, whether it trails or not
below_inside : (types : Names) (room : ℕ) (below : Form → Reader r.Pred) → BelowReaches types room below → Inside (SomePred types) room (below a_whole)
below_inside types room below sound ts a rest h =
    let x = sound a_whole ts a rest h in
    (x.0, x.1, (x.2.0, x.2.1, (x.2.2, x.2.3)))

atom_reaches : (types : Names) → Below types → (room : ℕ) (below : Form → Reader r.Pred) → BelowReaches types room below → Reaches (SpellsOperand types room) (atom_at types room (below a_whole))
atom_reaches types laws room below sound ts a rest h =
    let x = atom_sound types laws room (below a_whole) (below_inside types room below sound) ts a rest h in
    (x.0, x.1, false, g.of_atom x.2, λ no'. absurd cc)

-- what a quantifier made of binders and a body
abbrev Made : Names → ℕ → (first : Word) → (line : ℕ) → (List e.VarDecl → r.Pred → r.Pred) → Type 0
Made types room first line make =
    (trails : Bool) (line' : ℕ) (binders body : List Token) (xs : List e.VarDecl) (a : r.Pred) → SpellsBinders types binders xs → SpellsPred types room trails body a
    → SpellsOperand types room true (word first line ∷ (binders ++ punct p.Semicolon line' ∷ body)) (make xs a)

quantified_reaches : (types : Names) (room : ℕ) (go : Reader r.Pred) → Reaches (SpellsPred types room) go → (first : Word) (line : ℕ) (make : List e.VarDecl → r.Pred → r.Pred) → Made types room first line make
    → (ts : List Token) (a : r.Pred) (rest : List Token) → quantified types go make ts ≡ Some (a, rest) → Reached (SpellsOperand types room) (word first line ∷ ts) a rest
quantified_reaches types room go sound first line make made ts a rest h =
    let x = bind_ok (bound_at types ts) (λ (xs : List e.VarDecl × List Token). seen_as (make xs.0) (body_at go xs.1)) (a, rest) h in
    let b = bound_ok types ts x.0.0 x.0.1 x.1 in
    let s = seen_ok (make x.0.0) (body_at go x.0.1) a rest x.2 in
    let y = body_ok go x.0.1 s.0 rest s.1 in
    let body = sound x.0.1 s.0 rest y.0 in
    let semi = punct p.Semicolon b.1 in
    let all = word first line ∷ (b.0 ++ semi ∷ body.0) in (
      all,
      ap (λ l. word first line ∷ l) (b.2 ∙ ap (λ l. b.0 ++ semi ∷ l) body.1 ∙ sym (append_assoc b.0 (semi ∷ body.0) rest)),
      true,
      subst (SpellsOperand types room true all) s.2 (made body.2 b.1 b.0 body.0 x.0.0 s.0 b.3 body.3),
      λ trails. y.1,
    )

let_reaches : (types : Names) → Below types → (room : ℕ) (go : Reader r.Pred) → Reaches (SpellsPred types room) go → (line : ℕ) (ts : List Token) (a : r.Pred) (rest : List Token)
    → let_at types room go line ts ≡ Some (a, rest) → Reached (SpellsOperand types room) (word w.Let line ∷ ts) a rest
let_reaches types laws room go sound line ts a rest h =
    let x = bind_ok (value_at types room ts) (λ (v : (List ℕ × t.Term) × List Token). seen_as (r.let_in line v.0.0 v.0.1) (body_at go v.1)) (a, rest) h in
    let v = value_ok types laws room ts x.0.0 x.0.1 x.1 in
    let s = seen_ok (r.let_in line x.0.0.0 x.0.0.1) (body_at go x.0.1) a rest x.2 in
    let y = body_ok go x.0.1 s.0 rest s.1 in
    let body = sound x.0.1 s.0 rest y.0 in
    let semi = punct p.Semicolon v.third in
    let front = word w.Let line ∷ name x.0.0.0 v.first ∷ punct p.Assign v.second ∷ [] in
    let all = front ++ (v.value ++ semi ∷ body.0) in (
      all,
      ap (λ l. word w.Let line ∷ l) v.all ∙ ap (λ l. front ++ l) (ap (λ l. v.value ++ semi ∷ l) body.1 ∙ sym (append_assoc v.value (semi ∷ body.0) rest)),
      true,
      subst (SpellsOperand types room true all) s.2 (g.let_in v.first v.second v.third v.free v.spelled body.3 refl),
      λ trails. y.1,
    )

not_reaches : (types : Names) (room : ℕ) (below : Form → Reader r.Pred) → BelowReaches types room below → (line : ℕ) (ts : List Token) (a : r.Pred) (rest : List Token)
    → seen_as (r.not_of line) (below an_operand ts) ≡ Some (a, rest) → Reached (SpellsOperand types room) (punct p.Not line ∷ ts) a rest
not_reaches types room below sound line ts a rest h =
    let s = seen_ok (r.not_of line) (below an_operand ts) a rest h in
    let x = sound an_operand ts s.0 rest s.1 in
    let all = punct p.Not line ∷ x.2.0 in (
      all,
      ap (λ l. punct p.Not line ∷ l) x.2.1,
      x.2.2,
      subst (λ room. SpellsOperand types room x.2.2 all a) (sym x.1) (subst (SpellsOperand types (suc x.0) x.2.2 all) s.2 (g.not_of x.2.3)),
      x.2.4,
    )

operand_by_reaches : (types : Names) → Below types → (room : ℕ) (below : Form → Reader r.Pred) → BelowReaches types room below → (go : Reader r.Pred) → Reaches (SpellsPred types room) go
    → (line : ℕ) (kind : TokenKind) (ts : List Token) (a : r.Pred) (rest : List Token) → operand_by types room below go line kind ts (token kind line ∷ ts) ≡ Some (a, rest)
    → Reached (SpellsOperand types room) (token kind line ∷ ts) a rest
operand_by_reaches types laws room below sound go whole line (k.Punct p.Not) ts a rest h = not_reaches types room below sound line ts a rest h
operand_by_reaches types laws room below sound go whole line (k.Word w.Forall) ts a rest h =
    quantified_reaches types room go whole w.Forall line (r.for_all line) (λ trails line' binders body xs a b s. g.for_all line' b s refl) ts a rest h
operand_by_reaches types laws room below sound go whole line (k.Word w.Exists) ts a rest h =
    quantified_reaches types room go whole w.Exists line (r.for_some line) (λ trails line' binders body xs a b s. g.for_some line' b s refl) ts a rest h
operand_by_reaches types laws room below sound go whole line (k.Word w.Let) ts a rest h = let_reaches types laws room go whole line ts a rest h
operand_by_reaches types laws room below sound go whole line kind ts a rest h = atom_reaches types laws room below sound (token kind line ∷ ts) a rest h

operand_reaches : (types : Names) → Below types → (room : ℕ) (below : Form → Reader r.Pred) → BelowReaches types room below → (go : Reader r.Pred) → Reaches (SpellsPred types room) go
    → Reaches (SpellsOperand types room) (operand_over types room below go)
operand_reaches types laws room below sound go whole [] a rest h = absurd cc
operand_reaches types laws room below sound go whole (t ∷ ts) a rest h = operand_by_reaches types laws room below sound go whole t.line t.kind ts a rest h

-- ---- connectives

joins : (types : Names) (room m : ℕ) → Joins (SpellsJoined types (suc m) room) (SpellsJoined types m room) connected (connective_at (suc m))
joins types room m ts c line after h =
    let q = connective_is (suc m) ts c line after h in
    (punct q.0 line ∷ [], q.1, λ trails left right a b sa sb. g.joined line q.0 (omega arith) q.2 q.3 sa sb refl refl)

widens : (types : Names) (room n : ℕ) (trails : Bool) (xs : List Token) (a : r.Pred) → SpellsJoined types n room trails xs a → SpellsJoined types (suc n) room trails xs a
widens types room n trails xs a (g.of_operand s) = g.of_operand s
widens types room n trails xs a (g.joined line q le is level sa sb eq made) = g.joined line q (omega (arith, le)) is level sa sb eq made

reaches_joined : (types : Names) (room : ℕ) (operand : Reader r.Pred) → Reaches (SpellsOperand types room) operand → Reaches (SpellsJoined types 3 room) (joined_over operand)
reaches_joined types room operand sound =
    levels_reach (λ n. SpellsJoined types n room) connected connective_at (joins types room) (λ m ts ends. no_connective (suc m) ts ends) (widens types room) 3 operand
    (λ ts a rest h. let x = sound ts a rest h in (x.0, x.1, x.2, g.of_operand x.3, x.4))

-- ---- implications

-- before a token that goes on with it, nothing trails
not_trailing_before : (q : Punct) (S : Trailing) (trails : Bool) (xs : List Token) (a : r.Pred) (ts : List Token) (x : ℕ × List Token) → ((ts : List Token) → ends_pred ts ≡ true → punct_at q ts ≡ None)
    → punct_at q ts ≡ Some x → S trails xs a → (trails ≡ true → ends_pred ts ≡ true) → S false xs a
not_trailing_before q S false xs a ts x stops some s ends = s
not_trailing_before q S true xs a ts x stops some s ends = let none = stops ts (ends refl) in absurd cc

implied_reaches : (types : Names) (room : ℕ) (below : Form → Reader r.Pred) → BelowReaches types room below → (operand : Reader r.Pred) → Reaches (SpellsOperand types room) operand
    → Reaches (SpellsImplied types room) (implied_over below operand)
implied_reaches types room below sound operand sound' ts a rest h =
    let x = bind_ok (joined_over operand ts) (λ (a : r.Pred × List Token). implies_by (punct_at p.Implies a.1) (below an_implied) a.0 a.1) (a, rest) h in
    let left = reaches_joined types room operand sound' ts x.0.0 x.0.1 x.1 in
    elim (punct_at p.Implies x.0.1) as (λ o. punct_at p.Implies x.0.1 ≡ o → implies_by o (below an_implied) x.0.0 x.0.1 ≡ Some (a, rest) → Reached (SpellsImplied types room) ts a rest) [
      | None ↦ (λ none h.
          let same = pair_is x.0.0 a x.0.1 rest h in (
            left.0,
            left.1 ∙ ap (λ l. left.0 ++ l) same.1,
            left.2,
            subst (SpellsImplied types room left.2 left.0) same.0 (g.of_joined left.3),
            λ t. ap ends_pred (sym same.1) ∙ left.4 t,
          ))
      | Some found ↦ (λ some h.
          let s = seen_ok (r.implies found.0 x.0.0) (below an_implied found.1) a rest h in
          let right = sound an_implied found.1 s.0 rest s.1 in
          let tok = punct p.Implies found.0 in
          let left' = not_trailing_before p.Implies (SpellsJoined types 3 room) left.2 left.0 x.0.0 x.0.1 found (pred_stops p.Implies refl) some left.3 left.4 in
          let left'' = subst (λ room. SpellsJoined types 3 room false left.0 x.0.0) right.1 left' in
          let all = left.0 ++ tok ∷ right.2.0 in (
            all,
            left.1 ∙ ap (λ l. left.0 ++ l) (punct_is p.Implies x.0.1 found.0 found.1 some ∙ ap (λ l. tok ∷ l) right.2.1) ∙ sym (append_assoc left.0 (tok ∷ right.2.0) rest),
            right.2.2,
            subst (λ room. SpellsImplied types room right.2.2 all a) (sym right.1) (subst (SpellsImplied types (suc right.0) right.2.2 all) s.2 (g.implies left'' right.2.3 refl)),
            right.2.4,
          ))
    ]
    refl x.2

-- ---- equivalences

iff_is : (ts : List Token) (q : Punct) (line : ℕ) (after : List Token) → iff_at 1 ts ≡ Some ((q, line), after) → ts ≡ punct p.Iff line ∷ after
iff_is ts q line after h =
    let x = bind_ok (punct_at p.Iff ts) (λ (x : ℕ × List Token). Some ((p.Iff, x.0), x.1)) ((q, line), after) h in
    let made : Punct × ℕ = (p.Iff, x.0.0) in
    let given : Punct × ℕ = (q, line) in
    let same = pair_is made given x.0.1 after x.2 in
    punct_is p.Iff ts x.0.0 x.0.1 x.1 ∙ ap (λ (y : Punct × ℕ). punct p.Iff y.1 ∷ x.0.1) same.0 ∙ ap (λ l. punct p.Iff line ∷ l) same.1

iff_joins : (types : Names) (room : ℕ) → Joins (SpellsIff types room) (SpellsImplied types room) iff_of (iff_at 1)
iff_joins types room ts q line after h =
    (punct p.Iff line ∷ [], iff_is ts q line after h, λ trails left right a b sa sb. g.iff sa sb refl)

iff_halts : Halts (iff_at 1)
iff_halts ts ends = rw (pred_stops p.Iff refl ts ends) refl

iff_reaches : (types : Names) (room : ℕ) (implied : Reader r.Pred) → Reaches (SpellsImplied types room) implied → Reaches (SpellsIff types room) (iff_over implied)
iff_reaches types room implied sound ts a rest h =
    linked_reaches (SpellsIff types room) (SpellsImplied types room) iff_of (iff_at 1) (iff_joins types room) iff_halts (λ trails xs a s. g.of_implied s) implied sound ts a rest (sym (iff_more implied ts) ∙ h)

-- ---- whole predicates

-- the arms of a conditional
record Arms (types : Names) (room : ℕ) (ts : List Token) (a b : r.Pred) (rest : List Token) : Type 0 where
  deeper : ℕ
  is : room ≡ suc deeper
  line' : ℕ
  first : Bool
  second : Bool
  left : List Token
  right : List Token
  one : SpellsPred types deeper first left a
  two : SpellsPred types deeper second right b
  all : ts ≡ left ++ punct p.Colon line' ∷ (right ++ rest)
  ends : second ≡ true → ends_pred rest ≡ true

suc_same : (m n : ℕ) → suc m ≡ suc n → m ≡ n
suc_same m n h = omega arith

arms_ok : (types : Names) (room : ℕ) (below : Form → Reader r.Pred) → BelowReaches types room below → (ts : List Token) (arms : r.Pred × r.Pred) (rest : List Token)
    → arms_at (below a_whole) ts ≡ Some (arms, rest) → Arms types room ts arms.0 arms.1 rest
arms_ok types room below sound ts arms rest h =
    let b = bind_ok (below a_whole ts) (λ (b : r.Pred × List Token). punct_at p.Colon b.1 >>= λ c. below a_whole c.1 >>= λ d. got (b.0, d.0) d.1) (arms, rest) h in
    let c = bind_ok (punct_at p.Colon b.0.1) (λ (c : ℕ × List Token). below a_whole c.1 >>= λ d. got (b.0.0, d.0) d.1) (arms, rest) b.2 in
    let d = bind_ok (below a_whole c.0.1) (λ (d : r.Pred × List Token). got (b.0.0, d.0) d.1) (arms, rest) c.2 in
    let made : r.Pred × r.Pred = (b.0.0, d.0.0) in
    let same = pair_is made arms d.0.1 rest d.2 in
    let one = sound a_whole ts b.0.0 b.0.1 b.1 in
    let two = sound a_whole c.0.1 d.0.0 d.0.1 d.1 in
    let level : two.0 ≡ one.0 = suc_same two.0 one.0 (sym two.1 ∙ one.1) in
    record {
      deeper = one.0;
      is = one.1;
      line' = c.0.0;
      first = one.2.2;
      second = two.2.2;
      left = one.2.0;
      right = two.2.0;
      one = subst (SpellsPred types one.0 one.2.2 one.2.0) (ap (λ (x : r.Pred × r.Pred). x.0) same.0) one.2.3;
      two = subst (SpellsPred types one.0 two.2.2 two.2.0) (ap (λ (x : r.Pred × r.Pred). x.1) same.0) (subst (λ room. SpellsPred types room two.2.2 two.2.0 d.0.0) level two.2.3);
      all =
          one.2.1
          ∙ ap (λ l. one.2.0 ++ l) (punct_is p.Colon b.0.1 c.0.0 c.0.1 c.1 ∙ ap (λ l. punct p.Colon c.0.0 ∷ l) (two.2.1 ∙ ap (λ l. two.2.0 ++ l) same.1));
      ends = λ t. ap ends_pred (sym same.1) ∙ two.2.4 t;
    }

whole_reaches : (types : Names) (room : ℕ) (below : Form → Reader r.Pred) → BelowReaches types room below → (implied : Reader r.Pred) → Reaches (SpellsImplied types room) implied
    → Reaches (SpellsPred types room) (whole_over below implied)
whole_reaches types room below sound implied sound' ts a rest h =
    let x = bind_ok (iff_over implied ts) (λ (a : r.Pred × List Token). cond_by (punct_at p.Question a.1) (below a_whole) a.0 a.1) (a, rest) h in
    let test = iff_reaches types room implied sound' ts x.0.0 x.0.1 x.1 in
    elim (punct_at p.Question x.0.1) as (λ o. punct_at p.Question x.0.1 ≡ o → cond_by o (below a_whole) x.0.0 x.0.1 ≡ Some (a, rest) → Reached (SpellsPred types room) ts a rest) [
      | None ↦ (λ none h.
          let same = pair_is x.0.0 a x.0.1 rest h in (
            test.0,
            test.1 ∙ ap (λ l. test.0 ++ l) same.1,
            test.2,
            subst (SpellsPred types room test.2 test.0) same.0 (g.of_iff test.3),
            λ t. ap ends_pred (sym same.1) ∙ test.4 t,
          ))
      | Some found ↦ (λ some h.
          let s = seen_ok (λ (arms : r.Pred × r.Pred). r.cond found.0 x.0.0 arms.0 arms.1) (arms_at (below a_whole) found.1) a rest h in
          let arms = arms_ok types room below sound found.1 s.0 rest s.1 in
          let tok = punct p.Question found.0 in
          let colon = punct p.Colon arms.line' in
          let test' = not_trailing_before p.Question (SpellsIff types room) test.2 test.0 x.0.0 x.0.1 found (pred_stops p.Question refl) some test.3 test.4 in
          let test'' = subst (λ room. SpellsIff types room false test.0 x.0.0) arms.is test' in
          let behind = tok ∷ (arms.left ++ colon ∷ arms.right) in
          let all = test.0 ++ behind in (
            all,
            test.1
                ∙ ap (λ l. test.0 ++ l) (punct_is p.Question x.0.1 found.0 found.1 some ∙ ap (λ l. tok ∷ l) (arms.all ∙ sym (append_assoc arms.left (colon ∷ arms.right) rest)))
                ∙ sym (append_assoc test.0 behind rest),
            arms.second,
            subst (λ room. SpellsPred types room arms.second all a) (sym arms.is) (subst (SpellsPred types (suc arms.deeper) arms.second all) s.2 (g.cond arms.line' test'' arms.one arms.two refl)),
            arms.ends,
          ))
    ]
    refl x.2

-- ---- by room and turns

over_reaches : (types : Names) → Below types → (room : ℕ) (below : Form → Reader r.Pred) → BelowReaches types room below → (go : Reader r.Pred) → Reaches (SpellsPred types room) go
    → (form : Form) → Reaches (Spells types room form) (form_over types room below go form)
over_reaches types laws room below sound go whole an_operand = operand_reaches types laws room below sound go whole
over_reaches types laws room below sound go whole an_implied = implied_reaches types room below sound (operand_over types room below go) (operand_reaches types laws room below sound go whole)
over_reaches types laws room below sound go whole a_whole =
    whole_reaches types room below sound (implied_over below (operand_over types room below go)) (implied_reaches types room below sound (operand_over types room below go) (operand_reaches types laws room below sound go whole))

turned_reaches : (types : Names) → Below types → (room : ℕ) (below : (turns : ℕ) → Form → Reader r.Pred) → ((turns : ℕ) → BelowReaches types room (below turns)) → (turns : ℕ) (form : Form)
    → Reaches (Spells types room form) (turned types room below turns form)
unfolding turned
turned_reaches types laws room below sound zero form = over_reaches types laws room (below zero) (sound zero) nothing (λ ts a rest h. absurd cc) form
turned_reaches types laws room below sound (suc turns) form =
    over_reaches types laws room (below (suc turns)) (sound (suc turns)) (turned types room below turns a_whole) (turned_reaches types laws room below sound turns a_whole) form

pub form_reaches : (types : Names) → Below types → (room turns : ℕ) (form : Form) → Reaches (Spells types room form) (form_at types room turns form)
unfolding form_at
form_reaches types laws zero turns form = turned_reaches types laws 0 none_below (λ turns form ts a rest h. absurd cc) turns form
form_reaches types laws (suc room) turns form =
    turned_reaches types laws (suc room) (form_at types room) (λ turns form ts a rest h. (room, refl, form_reaches types laws room turns form ts a rest h)) turns form

-- what is read as a predicate is spelled so
pub pred_sound : (types : Names) → Below types → (room : ℕ) → Sound (λ xs a. (trails : Bool) × SpellsPred types room trails xs a) (pred_at types room)
unfolding pred_at
pred_sound types laws room ts a rest h =
    let x = form_reaches types laws room (length ts) a_whole ts a rest h in
    (x.0, x.1, (x.2, x.3))
