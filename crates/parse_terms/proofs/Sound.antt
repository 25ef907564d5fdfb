-- What the readers read is spelled so.
use Rattle.std.proofs.Common.{◌≡◌, ℕ, zero, suc, Bool, true, false, cond, List, [], ◌∷◌, ◌++◌, length, Some, None, refl, sym, ap, ◌∙◌, subst, arith, append_assoc, append-nil}
use Rattle.c_syntax.specs.declared.token.Token.{Token}
use Rattle.c_syntax.specs.declared.token.TokenKind.{TokenKind}
use Rattle.c_syntax.specs.declared.token.TokenKind.TheVariants as k
use Rattle.c_syntax.specs.declared.token.Punct.{Punct}
use Rattle.c_syntax.specs.declared.token.Punct.TheVariants as p
use Rattle.c_syntax.specs.declared.token.Word.{Word}
use Rattle.c_syntax.specs.declared.token.Word.TheVariants as w
use Rattle.c_syntax.specs.declared.expr.UnOp.{UnOp}
use Rattle.c_syntax.specs.declared.expr.BinOp.TheVariants as o
use Rattle.c_syntax.specs.Term as t
use Rattle.c_grammar.specs.Tokens.{Names, is_type, token, punct, word, name}
use Rattle.c_grammar.specs.Operators.{loosest, field_of}
use Rattle.c_grammar.specs.Terms as g
use Rattle.c_grammar.specs.Terms.{Place, anywhere, in_set, in_chain, inside_of, term_unop_of}
use Rattle.c_grammar.specs.Reading.{Reader, nothing, punct_at, name_at, levels}
use Rattle.c_grammar.proofs.Readers.{Took, Sound, bind_ok, got, pair_is}
use Rattle.c_grammar.proofs.Levels.{Joins, levels_sound}
use Rattle.c_grammar.proofs.SingleTokens.{punct_is, name_is}
use Rattle.parse_types.specs.Read.{type_name_at}
use Rattle.parse_types.proofs.Laws.{type_name_sound}
use Rattle.parse_terms.specs.declared.tokens.Selector.{Selector}
use Rattle.parse_terms.specs.declared.tokens.Selector.TheVariants as selector
use Rattle.parse_terms.specs.Read as r
use Rattle.parse_terms.proofs.Reading.{inner_is, inner_none}
use Rattle.parse_terms.proofs.SoundParts.{Inside, again, ends_with, operator_is, prefix_is, cast_is, selects, selector_is, Closed, closed_is, SpellsArguments, args_sound, SpellsGroup, plain, spread_out, group_parens, offset_brackets, offset_sound}

-- ---- operands

abbrev Primary : (types : Names) (place : Place) (room : ℕ) → (ts : List Token) → t.Term → List Token → Type 0
Primary types place room ts a rest = Took (g.SpellsTermPrimary types place room) ts a rest

-- a token alone
alone : (types : Names) (place : Place) (room : ℕ) (tok : Token) (a : t.Term) → g.SpellsTermPrimary types place room (tok ∷ []) a → (ts : List Token) (b : t.Term) (rest : List Token) → got a ts ≡ got b rest
    → Primary types place room (tok ∷ ts) b rest
alone types place room tok a s ts b rest h =
    let same = pair_is a b ts rest h in
    (tok ∷ [], ap (λ l. tok ∷ l) same.1, subst (λ b. g.SpellsTermPrimary types place room (tok ∷ []) b) same.0 s)

called_sound : (types : Names) (place : Place) (room line : ℕ) (x : List ℕ) (args : Reader (List t.Term)) → is_type types x ≡ false → Inside (λ less. Closed (SpellsArguments types (inside_of place) less)) room args
    → (ts : List Token) (a : t.Term) (rest : List Token) → r.called x line (punct_at p.OpenParen ts) args ts ≡ Some (a, rest) → Primary types place room (name x line ∷ ts) a rest
called_sound types place room line x args new inside ts a rest h =
    elim (punct_at p.OpenParen ts) as (λ o. punct_at p.OpenParen ts ≡ o → r.called x line o args ts ≡ Some (a, rest) → Primary types place room (name x line ∷ ts) a rest) [
      | None ↦ (λ none h. alone types place room (name x line) (t.name line x) (g.variable new) ts a rest h)
      | Some open' ↦ (λ some h.
          let y = bind_ok (args open'.1) _ (a, rest) h in
          let same = pair_is (t.call line x (t.terms_of y.0.0)) a y.0.1 rest y.2 in
          let z = inside open'.1 y.0.0 y.0.1 y.1 in
          let tok = punct p.OpenParen open'.0 in
          let c = z.2.2 in (
            name x line ∷ tok ∷ z.2.0,
            ap (λ l. name x line ∷ l) (punct_is p.OpenParen ts open'.0 open'.1 some ∙ ap (λ l. tok ∷ l) (z.2.1 ∙ ap (λ l. z.2.0 ++ l) same.1)),
            subst (λ a. g.SpellsTermPrimary types place room (name x line ∷ tok ∷ z.2.0) a) same.0
                (subst (λ room. g.SpellsTermPrimary types place room (name x line ∷ tok ∷ z.2.0) (t.call line x (t.terms_of y.0.0))) (sym z.1)
                (g.call open'.0 c.1 new c.3 (ap (λ l. name x line ∷ tok ∷ l) c.2))),
          ))
    ]
    refl h

named_sound : (types : Names) (place : Place) (room line : ℕ) (x : List ℕ) (args : Reader (List t.Term)) → Inside (λ less. Closed (SpellsArguments types (inside_of place) less)) room args
    → (ts : List Token) (a : t.Term) (rest : List Token) → r.named types x line args ts ≡ Some (a, rest) → Primary types place room (name x line ∷ ts) a rest
named_sound types place room line x args inside ts a rest h =
    elim (is_type types x) as (λ b. is_type types x ≡ b → cond b None (r.called x line (punct_at p.OpenParen ts) args ts) ≡ Some (a, rest) → Primary types place room (name x line ∷ ts) a rest) [
      | false ↦ (λ new h. called_sound types place room line x args new inside ts a rest h)
      | true ↦ (λ old h. absurd cc)
    ]
    refl h

old_sound : (types : Names) (place : Place) (room line : ℕ) (inner : Reader t.Term) → Inside (g.SpellsTerm types (inside_of place)) room inner → (ts : List Token) (a : t.Term) (rest : List Token)
    → r.old_at line inner ts ≡ Some (a, rest) → Primary types place room (word w.Old line ∷ ts) a rest
old_sound types place room line inner inside ts a rest h =
    let open' = bind_ok (punct_at p.OpenParen ts) _ (a, rest) h in
    let y = bind_ok (r.closed (inner open'.0.1)) _ (a, rest) open'.2 in
    let same = pair_is (t.old line y.0.0) a y.0.1 rest y.2 in
    let z = closed_is (inner open'.0.1) y.0.0 y.0.1 y.1 in
    let end = punct p.CloseParen z.0 in
    let x = inside open'.0.1 y.0.0 (end ∷ y.0.1) z.1 in
    let first = word w.Old line in
    let tok = punct p.OpenParen open'.0.0 in
    let xs = first ∷ tok ∷ (x.2.0 ++ end ∷ []) in (
      xs,
      ap (λ l. first ∷ l) (punct_is p.OpenParen ts open'.0.0 open'.0.1 open'.1 ∙ ap (λ l. tok ∷ l) (ends_with open'.0.1 x.2.0 (end ∷ y.0.1) y.0.1 end x.2.1 refl ∙ ap (λ l. (x.2.0 ++ end ∷ []) ++ l) same.1)),
      subst (λ a. g.SpellsTermPrimary types place room xs a) same.0
          (subst (λ room. g.SpellsTermPrimary types place room xs (t.old line y.0.0)) (sym x.1) (g.old open'.0.0 z.0 x.2.2 refl)),
    )

label_sound : (types : Names) (place : Place) (room line : ℕ) (inner : Reader t.Term) → Inside (g.SpellsTerm types (inside_of place)) room inner → (ts : List Token) (a : t.Term) (rest : List Token)
    → r.label_at line inner ts ≡ Some (a, rest) → Primary types place room (word w.At line ∷ ts) a rest
label_sound types place room line inner inside ts a rest h =
    let open' = bind_ok (punct_at p.OpenParen ts) _ (a, rest) h in
    let y = bind_ok (inner open'.0.1) _ (a, rest) open'.2 in
    let comma = bind_ok (punct_at p.Comma y.0.1) _ (a, rest) y.2 in
    let label = bind_ok (name_at comma.0.1) _ (a, rest) comma.2 in
    let end = bind_ok (punct_at p.CloseParen label.0.1) _ (a, rest) label.2 in
    let same = pair_is (t.at_label line y.0.0 label.0.0.0) a end.0.1 rest end.2 in
    let x = inside open'.0.1 y.0.0 y.0.1 y.1 in
    let first = word w.At line in
    let tok = punct p.OpenParen open'.0.0 in
    let last' = punct p.Comma comma.0.0 ∷ name label.0.0.0 label.0.0.1 ∷ punct p.CloseParen end.0.0 ∷ [] in
    let xs = first ∷ tok ∷ (x.2.0 ++ last') in
    let behind : y.0.1 ≡ last' ++ rest =
    punct_is p.Comma y.0.1 comma.0.0 comma.0.1 comma.1
    ∙ ap (λ l. punct p.Comma comma.0.0 ∷ l) (name_is comma.0.1 label.0.0 label.0.1 label.1
    ∙ ap (λ l. name label.0.0.0 label.0.0.1 ∷ l) (punct_is p.CloseParen label.0.1 end.0.0 end.0.1 end.1 ∙ ap (λ l. punct p.CloseParen end.0.0 ∷ l) same.1))
    in (
      xs,
      ap (λ l. first ∷ l) (punct_is p.OpenParen ts open'.0.0 open'.0.1 open'.1 ∙ ap (λ l. tok ∷ l) (x.2.1 ∙ ap (λ l. x.2.0 ++ l) behind ∙ sym (append_assoc x.2.0 last' rest))),
      subst (λ a. g.SpellsTermPrimary types place room xs a) same.0
          (subst (λ room. g.SpellsTermPrimary types place room xs (t.at_label line y.0.0 label.0.0.0)) (sym x.1) (g.at_label open'.0.0 comma.0.0 label.0.0.1 end.0.0 x.2.2 refl)),
    )

worded_sound : (types : Names) (place : Place) (room line : ℕ) (inner : Reader t.Term) → Inside (g.SpellsTerm types (inside_of place)) room inner → (v : Word) (ts : List Token) (a : t.Term) (rest : List Token)
    → r.worded v line inner ts ≡ Some (a, rest) → Primary types place room (word v line ∷ ts) a rest
worded_sound types place room line inner inside w.Result ts a rest h = alone types place room (word w.Result line) (t.result line) g.result ts a rest h
worded_sound types place room line inner inside w.Null ts a rest h = alone types place room (word w.Null line) (t.null line) g.null ts a rest h
worded_sound types place room line inner inside w.Old ts a rest h = old_sound types place room line inner inside ts a rest h
worded_sound types place room line inner inside w.At ts a rest h = label_sound types place room line inner inside ts a rest h
worded_sound types place room line inner inside _ ts a rest h = absurd cc

parens_sound : (types : Names) (place : Place) (room line : ℕ) (group : Reader t.Term) → Inside (SpellsGroup types (inside_of place)) room group → (ts : List Token) (a : t.Term) (rest : List Token)
    → r.closed (group ts) ≡ Some (a, rest) → Primary types place room (punct p.OpenParen line ∷ ts) a rest
parens_sound types place room line group inside ts a rest h =
    let z = closed_is (group ts) a rest h in
    let end = punct p.CloseParen z.0 in
    let x = inside ts a (end ∷ rest) z.1 in
    let tok = punct p.OpenParen line in
    let xs = tok ∷ (x.2.0 ++ end ∷ []) in (
      xs,
      ap (λ l. tok ∷ l) (ends_with ts x.2.0 (end ∷ rest) rest end x.2.1 refl),
      subst (λ room. g.SpellsTermPrimary types place room xs a) (sym x.1) (group_parens types place x.0 line z.0 x.2.0 a x.2.2),
    )

-- what the readers of parts have to be
record Sounds (types : Names) (place : Place) (room : ℕ) (same : Reader t.Term) (args : Reader (List t.Term)) (inner group : Reader t.Term) : Type 0 where
  same_sound : Inside (g.SpellsTermUnary types place) room same
  args_are : Inside (λ less. Closed (SpellsArguments types (inside_of place) less)) room args
  inner_are : Inside (g.SpellsTerm types (inside_of place)) room inner
  groups_are : Inside (SpellsGroup types (inside_of place)) room group

primary_by_sound : (types : Names) (place : Place) (room : ℕ) (same : Reader t.Term) (args : Reader (List t.Term)) (inner group : Reader t.Term) → Sounds types place room same args inner group
    → (line : ℕ) (kind : TokenKind) (ts : List Token) (a : t.Term) (rest : List Token) → r.primary_by types args inner group line kind ts ≡ Some (a, rest) → Primary types place room (token kind line ∷ ts) a rest
primary_by_sound types place room same args inner group s line (k.Number value base suffix) ts a rest h =
    alone types place room (token (k.Number value base suffix) line) (t.number line (token (k.Number value base suffix) line)) g.constant ts a rest h
primary_by_sound types place room same args inner group s line (k.Char value) ts a rest h = alone types place room (token (k.Char value) line) (t.char line value) g.character ts a rest h
primary_by_sound types place room same args inner group s line (k.Name x) ts a rest h = named_sound types place room line x args s.args_are ts a rest h
primary_by_sound types place room same args inner group s line (k.Word v) ts a rest h = worded_sound types place room line inner s.inner_are v ts a rest h
primary_by_sound types place room same args inner group s line (k.Punct p.OpenParen) ts a rest h = parens_sound types place room line group s.groups_are ts a rest h
primary_by_sound types place room same args inner group s line _ ts a rest h = absurd cc

primary_sound : (types : Names) (place : Place) (room : ℕ) (same : Reader t.Term) (args : Reader (List t.Term)) (inner group : Reader t.Term) → Sounds types place room same args inner group
    → Sound (g.SpellsTermPrimary types place room) (r.primary types args inner group)
unfolding r.primary
primary_sound types place room same args inner group s [] a rest h = absurd cc
primary_sound types place room same args inner group s (t ∷ ts) a rest h = primary_by_sound types place room same args inner group s t.line t.kind ts a rest h

-- the tokens in `before` spell what was read, and the tokens at the front go on with it
abbrev GoesOn : (types : Names) (place : Place) (room : ℕ) → (before ts : List Token) → t.Term → List Token → Type 0
GoesOn types place room before ts a rest = (xs : List Token) × (ts ≡ xs ++ rest) × g.SpellsTermPostfix types place room (before ++ xs) a

field_sound : (types : Names) (place : Place) (room line : ℕ) (q : Punct) (arrow : Bool) → field_of q ≡ Some arrow → (before : List Token) (a : t.Term) → g.SpellsTermPostfix types place room before a
    → (ts : List Token) (b : t.Term) (rest : List Token) → r.field_at arrow line a ts ≡ Some (b, rest) → GoesOn types place room before (punct q line ∷ ts) b rest
field_sound types place room line q arrow which before a s ts b rest h =
    let f = bind_ok (name_at ts) _ (b, rest) h in
    let same = pair_is (t.field line a f.0.0.0 arrow) b f.0.1 rest f.2 in
    let tok = punct q line in
    let xs = tok ∷ name f.0.0.0 f.0.0.1 ∷ [] in
    (xs, ap (λ l. tok ∷ l) (name_is ts f.0.0 f.0.1 f.1 ∙ ap (λ l. name f.0.0.0 f.0.0.1 ∷ l) same.1), subst (λ b. g.SpellsTermPostfix types place room (before ++ xs) b) same.0 (g.field f.0.0.1 q which s refl))

index_sound : (types : Names) (place : Place) (room line : ℕ) (inner : Reader t.Term) → Inside (g.SpellsTerm types (inside_of place)) room inner → (before : List Token) (a : t.Term) → g.SpellsTermPostfix types place room before a
    → (ts : List Token) (b : t.Term) (rest : List Token) → r.index_at place inner line a ts ≡ Some (b, rest) → GoesOn types place room before (punct p.OpenBracket line ∷ ts) b rest
index_sound types place room line inner inside before a s ts b rest h =
    let at = bind_ok (r.offset_at place inner ts) _ (b, rest) h in
    let end = bind_ok (punct_at p.CloseBracket at.0.1) _ (b, rest) at.2 in
    let same = pair_is (t.index line a at.0.0) b end.0.1 rest end.2 in
    let x = offset_sound types place room inner inside ts at.0.0 at.0.1 at.1 in
    let tok = punct p.OpenBracket line in
    let last' = punct p.CloseBracket end.0.0 in
    let xs = tok ∷ (x.2.0 ++ last' ∷ []) in
    let base = subst (λ room. g.SpellsTermPostfix types place room before a) x.1 s in (
      xs,
      ap (λ l. tok ∷ l) (ends_with ts x.2.0 at.0.1 end.0.1 last' x.2.1 (punct_is p.CloseBracket at.0.1 end.0.0 end.0.1 end.1) ∙ ap (λ l. (x.2.0 ++ last' ∷ []) ++ l) same.1),
      subst (λ b. g.SpellsTermPostfix types place room (before ++ xs) b) same.0
          (subst (λ room. g.SpellsTermPostfix types place room (before ++ xs) (t.index line a at.0.0)) (sym x.1) (offset_brackets types place x.0 line end.0.0 before x.2.0 a at.0.0 base x.2.2)),
    )

selected_sound : (types : Names) (place : Place) (room line : ℕ) (inner : Reader t.Term) → Inside (g.SpellsTerm types (inside_of place)) room inner → (which : Selector) (before : List Token) (a : t.Term)
    → g.SpellsTermPostfix types place room before a → (ts : List Token) (b : t.Term) (rest : List Token) → r.selected place inner which line a ts ≡ Some (b, rest)
    → GoesOn types place room before (punct (selects which) line ∷ ts) b rest
selected_sound types place room line inner inside selector.Index before a s ts b rest h = index_sound types place room line inner inside before a s ts b rest h
selected_sound types place room line inner inside selector.Dot before a s ts b rest h = field_sound types place room line p.Dot false refl before a s ts b rest h
selected_sound types place room line inner inside selector.Arrow before a s ts b rest h = field_sound types place room line p.Arrow true refl before a s ts b rest h

no_part : (types : Names) (place : Place) (room : ℕ) (before : List Token) (a : t.Term) → g.SpellsTermPostfix types place room before a → (ts : List Token) (b : t.Term) (rest : List Token) → got a ts ≡ got b rest
    → GoesOn types place room before ts b rest
no_part types place room before a s ts b rest h =
    let same = pair_is a b ts rest h in
    ([], same.1, subst (λ b. g.SpellsTermPostfix types place room (before ++ []) b) same.0 (subst (λ l. g.SpellsTermPostfix types place room l a) (sym (append-nil before)) s))

parts_sound : (types : Names) (place : Place) (room : ℕ) (inner : Reader t.Term) → Inside (g.SpellsTerm types (inside_of place)) room inner → (turns : ℕ) (before : List Token) (a : t.Term)
    → g.SpellsTermPostfix types place room before a → (ts : List Token) (b : t.Term) (rest : List Token) → r.parts place inner turns a ts ≡ Some (b, rest) → GoesOn types place room before ts b rest
unfolding r.parts
parts_sound types place room inner inside zero before a s ts b rest h = no_part types place room before a s ts b rest h
parts_sound types place room inner inside (suc turns) before a s ts b rest h =
    elim (r.selector_at ts) as (λ o. r.selector_at ts ≡ o → r.parted o place inner a ts (r.parts place inner turns) ≡ Some (b, rest) → GoesOn types place room before ts b rest) [
      | None ↦ (λ none h. no_part types place room before a s ts b rest h)
      | Some x ↦ (λ some h.
          let next = bind_ok (r.selected place inner x.0.0 x.0.1 a x.1) _ (b, rest) h in
          let part = selected_sound types place room x.0.1 inner inside x.0.0 before a s x.1 next.0.0 next.0.1 next.1 in
          let more = parts_sound types place room inner inside turns (before ++ part.0) next.0.0 part.2 next.0.1 b rest next.2 in (
            part.0 ++ more.0,
            selector_is ts x.0.0 x.0.1 x.1 some ∙ part.1 ∙ ap (λ l. part.0 ++ l) more.1 ∙ sym (append_assoc part.0 more.0 rest),
            subst (λ l. g.SpellsTermPostfix types place room l b) (append_assoc before part.0 more.0) more.2,
          ))
    ]
    refl h

postfix_sound : (types : Names) (place : Place) (room : ℕ) (same : Reader t.Term) (args : Reader (List t.Term)) (inner group : Reader t.Term) → Sounds types place room same args inner group
    → Sound (g.SpellsTermPostfix types place room) (r.postfix types place args inner group)
unfolding r.postfix
postfix_sound types place room same args inner group s ts a rest h =
    let first = bind_ok (r.primary types args inner group ts) _ (a, rest) h in
    let base = primary_sound types place room same args inner group s ts first.0.0 first.0.1 first.1 in
    let more = parts_sound types place room inner s.inner_are (length first.0.1) base.0 first.0.0 (g.of_primary base.2) first.0.1 a rest first.2 in
    (base.0 ++ more.0, base.1 ∙ ap (λ l. base.0 ++ l) more.1 ∙ sym (append_assoc base.0 more.0 rest), more.2)

prefixed_sound : (types : Names) (place : Place) (room line : ℕ) (same : Reader t.Term) → Inside (g.SpellsTermUnary types place) room same → (q : Punct) (op : UnOp) → term_unop_of place q ≡ Some op
    → (ts : List Token) (a : t.Term) (rest : List Token) → r.prefixed same op line ts ≡ Some (a, rest) → Took (g.SpellsTermUnary types place room) (punct q line ∷ ts) a rest
prefixed_sound types place room line same inside q op which ts a rest h =
    let y = bind_ok (same ts) _ (a, rest) h in
    let is = pair_is (t.unary line op y.0.0) a y.0.1 rest y.2 in
    let x = inside ts y.0.0 y.0.1 y.1 in
    let xs = punct q line ∷ x.2.0 in (
      xs,
      ap (λ l. punct q line ∷ l) (x.2.1 ∙ ap (λ l. x.2.0 ++ l) is.1),
      subst (λ a. g.SpellsTermUnary types place room xs a) is.0 (subst (λ room. g.SpellsTermUnary types place room xs (t.unary line op y.0.0)) (sym x.1) (g.prefixed which x.2.2)),
    )

cast_sound : (types : Names) (place : Place) (room line : ℕ) (same : Reader t.Term) → Inside (g.SpellsTermUnary types place) room same → (ts : List Token) (a : t.Term) (rest : List Token)
    → r.cast types same line ts ≡ Some (a, rest) → Took (g.SpellsTermUnary types place room) (punct p.OpenParen line ∷ ts) a rest
cast_sound types place room line same inside ts a rest h =
    let type' = bind_ok (type_name_at types ts) _ (a, rest) h in
    let end = bind_ok (punct_at p.CloseParen type'.0.1) _ (a, rest) type'.2 in
    let y = bind_ok (same end.0.1) _ (a, rest) end.2 in
    let is = pair_is (t.cast line type'.0.0 y.0.0) a y.0.1 rest y.2 in
    let front = type_name_sound types ts type'.0.0 type'.0.1 type'.1 in
    let x = inside end.0.1 y.0.0 y.0.1 y.1 in
    let tok = punct p.CloseParen end.0.0 in
    let xs = punct p.OpenParen line ∷ (front.0 ++ tok ∷ x.2.0) in (
      xs,
      ap (λ l. punct p.OpenParen line ∷ l)
          (front.1 ∙ ap (λ l. front.0 ++ l) (punct_is p.CloseParen type'.0.1 end.0.0 end.0.1 end.1 ∙ ap (λ l. tok ∷ l) (x.2.1 ∙ ap (λ l. x.2.0 ++ l) is.1)) ∙ sym (append_assoc front.0 (tok ∷ x.2.0) rest)),
      subst (λ a. g.SpellsTermUnary types place room xs a) is.0
          (subst (λ room. g.SpellsTermUnary types place room xs (t.cast line type'.0.0 y.0.0)) (sym x.1) (g.cast end.0.0 front.2 x.2.2 refl)),
    )

operand_sound : (types : Names) (place : Place) (room : ℕ) (same : Reader t.Term) (args : Reader (List t.Term)) (inner group : Reader t.Term) → Sounds types place room same args inner group
    → Sound (g.SpellsTermUnary types place room) (r.operand types place same args inner group)
operand_sound types place room same args inner group s ts a rest h =
    elim (r.prefix_at place ts) as (λ o. r.prefix_at place ts ≡ o → r.operand_by o (r.cast_at types ts) types same (r.postfix types place args inner group) ts ≡ Some (a, rest) → Took (g.SpellsTermUnary types place room) ts a rest) [
      | Some op ↦ (λ some h.
          let q = prefix_is place ts op.0.0 op.0.1 op.1 some in
          let x = prefixed_sound types place room op.0.1 same s.same_sound q.0 op.0.0 q.2 op.1 a rest h in
          (x.0, q.1 ∙ x.1, x.2))
      | None ↦ (λ none h.
          elim (r.cast_at types ts) as (λ o. r.cast_at types ts ≡ o → r.operand_by None o types same (r.postfix types place args inner group) ts ≡ Some (a, rest) → Took (g.SpellsTermUnary types place room) ts a rest) [
            | Some opened ↦ (λ some h.
                let x = cast_sound types place room opened.0 same s.same_sound opened.1 a rest h in
                (x.0, cast_is types ts opened.0 opened.1 some ∙ x.1, x.2))
            | None ↦ (λ none h.
                let x = postfix_sound types place room same args inner group s ts a rest h in
                (x.0, x.1, g.of_postfix x.2))
          ]
          refl h)
    ]
    refl h

-- ---- operators

joins : (types : Names) (place : Place) (room : ℕ) → Joins (λ n. g.SpellsTermBinary types place n room) r.joined r.operator
joins types place room m ts op line after h =
    let x = operator_is (suc m) ts op line after h in
    (punct x.0 line ∷ [], x.1, λ left right a b s s'. g.binary {n = suc m} {m = m} x.0 (omega arith) x.2 x.3 s s' refl)

wider : {types : Names} {place : Place} {n room : ℕ} {xs : List Token} {a : t.Term} → g.SpellsTermBinary types place n room xs a → g.SpellsTermBinary types place (suc n) room xs a
wider (g.of_unary s) = g.of_unary s
wider (g.binary q le is at s s' eq) = g.binary q (omega (arith, le)) is at s s' eq

pub binary_sound : (types : Names) (place : Place) (n room : ℕ) (read : Reader t.Term) → Sound (g.SpellsTermUnary types place room) read → Sound (g.SpellsTermBinary types place n room) (levels r.joined r.operator n read)
binary_sound types place n room read sound =
    levels_sound (λ n. g.SpellsTermBinary types place n room) r.joined r.operator (joins types place room) (λ n xs a s. wider s) n read
    (λ ts a rest h. let x = sound ts a rest h in (x.0, x.1, g.of_unary x.2))

choice_sound : (types : Names) (place : Place) (room line : ℕ) (deeper : Reader t.Term) → Inside (g.SpellsTerm types place) room deeper → (before : List Token) (a : t.Term) → g.SpellsTermBinary types place loosest room before a
    → (ts : List Token) (b : t.Term) (rest : List Token) → r.choice deeper a line ts ≡ Some (b, rest)
    → (xs : List Token) × (punct p.Question line ∷ ts ≡ xs ++ rest) × g.SpellsTerm types place room (before ++ xs) b
choice_sound types place room line deeper inside before a s ts b rest h =
    let first = bind_ok (deeper ts) _ (b, rest) h in
    let colon = bind_ok (punct_at p.Colon first.0.1) _ (b, rest) first.2 in
    let second = bind_ok (deeper colon.0.1) _ (b, rest) colon.2 in
    let is = pair_is (t.cond line a first.0.0 second.0.0) b second.0.1 rest second.2 in
    let x = inside ts first.0.0 first.0.1 first.1 in
    let y = again (g.SpellsTerm types place) room x.0 deeper inside x.1 colon.0.1 second.0.0 second.0.1 second.1 in
    let tok = punct p.Question line in
    let mid = punct p.Colon colon.0.0 in
    let xs = tok ∷ (x.2.0 ++ mid ∷ y.0) in
    let test = subst (λ room. g.SpellsTermBinary types place loosest room before a) x.1 s in (
      xs,
      ap (λ l. tok ∷ l)
          (x.2.1 ∙ ap (λ l. x.2.0 ++ l) (punct_is p.Colon first.0.1 colon.0.0 colon.0.1 colon.1 ∙ ap (λ l. mid ∷ l) (y.1 ∙ ap (λ l. y.0 ++ l) is.1)) ∙ sym (append_assoc x.2.0 (mid ∷ y.0) rest)),
      subst (λ b. g.SpellsTerm types place room (before ++ xs) b) is.0
          (subst (λ room. g.SpellsTerm types place room (before ++ xs) (t.cond line a first.0.0 second.0.0)) (sym x.1) (g.cond colon.0.0 test x.2.2 y.2 refl)),
    )

term_over_sound : (types : Names) (place : Place) (room : ℕ) (operand deeper : Reader t.Term) → Sound (g.SpellsTermUnary types place room) operand → Inside (g.SpellsTerm types place) room deeper
    → Sound (g.SpellsTerm types place room) (r.term operand deeper)
term_over_sound types place room operand deeper sound inside ts b rest h =
    let first = bind_ok (levels r.joined r.operator loosest operand ts) _ (b, rest) h in
    let left = binary_sound types place loosest room operand sound ts first.0.0 first.0.1 first.1 in
    elim (punct_at p.Question first.0.1) as (λ o. punct_at p.Question first.0.1 ≡ o → r.chosen o deeper first.0.0 first.0.1 ≡ Some (b, rest) → Took (g.SpellsTerm types place room) ts b rest) [
      | None ↦ (λ none h.
          let same = pair_is first.0.0 b first.0.1 rest h in
          (left.0, left.1 ∙ ap (λ l. left.0 ++ l) same.1, subst (λ b. g.SpellsTerm types place room left.0 b) same.0 (g.of_binary left.2)))
      | Some question ↦ (λ some h.
          let more = choice_sound types place room question.0 deeper inside left.0 first.0.0 left.2 question.1 b rest h in (
            left.0 ++ more.0,
            left.1 ∙ ap (λ l. left.0 ++ l) (punct_is p.Question first.0.1 question.0 question.1 some ∙ more.1) ∙ sym (append_assoc left.0 more.0 rest),
            more.2,
          ))
    ]
    refl first.2

-- ---- ranges of offsets

record Bounds (types : Names) (place : Place) (room : ℕ) (ts : List Token) (b : t.Term) (rest : List Token) : Type 0 where
  less : ℕ
  one : room ≡ suc less
  opened : ℕ
  dots : ℕ
  end : ℕ
  low : List Token
  high : List Token
  lo : t.Term
  hi : t.Term
  low_spelled : g.SpellsTerm types place less low lo
  high_spelled : g.SpellsTerm types place less high hi
  all : ts ≡ (punct p.OpenParen opened ∷ (low ++ punct p.Range dots ∷ (high ++ punct p.CloseParen end ∷ []))) ++ rest
  is : t.range dots lo hi ≡ b

bounds_is : (types : Names) (place : Place) (room : ℕ) (inner : Reader t.Term) → Inside (g.SpellsTerm types place) room inner → (ts : List Token) (b : t.Term) (rest : List Token) → r.bounds inner ts ≡ Some (b, rest)
    → Bounds types place room ts b rest
bounds_is types place room inner inside ts b rest h =
    let opened = bind_ok (punct_at p.OpenParen ts) _ (b, rest) h in
    let low = bind_ok (inner opened.0.1) _ (b, rest) opened.2 in
    let dots = bind_ok (punct_at p.Range low.0.1) _ (b, rest) low.2 in
    let high = bind_ok (inner dots.0.1) _ (b, rest) dots.2 in
    let end = bind_ok (punct_at p.CloseParen high.0.1) _ (b, rest) high.2 in
    let same = pair_is (t.range dots.0.0 low.0.0 high.0.0) b end.0.1 rest end.2 in
    let x = inside opened.0.1 low.0.0 low.0.1 low.1 in
    let y = again (g.SpellsTerm types place) room x.0 inner inside x.1 dots.0.1 high.0.0 high.0.1 high.1 in
    let tok = punct p.OpenParen opened.0.0 in
    let mid = punct p.Range dots.0.0 in
    let last' = punct p.CloseParen end.0.0 in
    let behind : dots.0.1 ≡ (y.0 ++ last' ∷ []) ++ rest =
    ends_with dots.0.1 y.0 high.0.1 rest last' y.1 (punct_is p.CloseParen high.0.1 end.0.0 end.0.1 end.1 ∙ ap (λ l. last' ∷ l) same.1)
    in
    record {
      less = x.0;
      one = x.1;
      opened = opened.0.0;
      dots = dots.0.0;
      end = end.0.0;
      low = x.2.0;
      high = y.0;
      lo = low.0.0;
      hi = high.0.0;
      low_spelled = x.2.2;
      high_spelled = y.2;
      all =
          punct_is p.OpenParen ts opened.0.0 opened.0.1 opened.1
          ∙ ap (λ l. tok ∷ l) (x.2.1 ∙ ap (λ l. x.2.0 ++ l) (punct_is p.Range low.0.1 dots.0.0 dots.0.1 dots.1 ∙ ap (λ l. mid ∷ l) behind) ∙ sym (append_assoc x.2.0 (mid ∷ (y.0 ++ last' ∷ [])) rest));
      is = same.0;
    }

spread_sound : (types : Names) (place : Place) (room line : ℕ) (inner : Reader t.Term) → Inside (g.SpellsTerm types (inside_of place)) room inner → (before : List Token) (a : t.Term) → g.SpellsTerm types place room before a
    → (ts : List Token) (b : t.Term) (rest : List Token) → r.spread inner a line ts ≡ Some (b, rest)
    → (xs : List Token) × (punct p.Plus line ∷ ts ≡ xs ++ rest) × g.SpellsSpread types place room (before ++ xs) b
spread_sound types place room line inner inside before a s ts b rest h =
    let y = bind_ok (r.bounds inner ts) _ (b, rest) h in
    let is = pair_is (t.binary line o.Add a y.0.0) b y.0.1 rest y.2 in
    let x = bounds_is types (inside_of place) room inner inside ts y.0.0 y.0.1 y.1 in
    let tok = punct p.Plus line in
    let inside' = punct p.OpenParen x.opened ∷ (x.low ++ punct p.Range x.dots ∷ (x.high ++ punct p.CloseParen x.end ∷ [])) in
    let xs = tok ∷ inside' in
    let first = subst (λ room. g.SpellsTerm types place room before a) x.one s in (
      xs,
      ap (λ l. tok ∷ l) (x.all ∙ ap (λ l. inside' ++ l) is.1),
      subst (λ b. g.SpellsSpread types place room (before ++ xs) b) (ap (λ c. t.binary line o.Add a c) x.is ∙ is.0)
          (subst (λ room. g.SpellsSpread types place room (before ++ xs) (t.binary line o.Add a (t.range x.dots x.lo x.hi))) (sym x.one) (g.spread x.opened x.end first x.low_spelled x.high_spelled refl)),
    )

-- a term, or one with a range of offsets
pub data SpellsSum (types : Names) : (place : Place) (room : ℕ) → List Token → t.Term → Type 0 where
  no_range : {place : Place} {room : ℕ} {all : List Token} {a : t.Term} → g.SpellsTerm types place room all a → SpellsSum types place room all a
  with_range : {place : Place} {room : ℕ} {all : List Token} {a : t.Term} → g.SpellsSpread types place room all a → SpellsSum types place room all a

pub spread_term_sound : (types : Names) (place : Place) (room : ℕ) (whole inner : Reader t.Term) → Sound (g.SpellsTerm types place room) whole → Inside (g.SpellsTerm types (inside_of place)) room inner
    → Sound (SpellsSum types place room) (r.spread_term whole inner)
spread_term_sound types place room whole inner sound inside ts b rest h =
    let first = bind_ok (whole ts) _ (b, rest) h in
    let left = sound ts first.0.0 first.0.1 first.1 in
    elim (punct_at p.Plus first.0.1) as (λ o. punct_at p.Plus first.0.1 ≡ o → r.spread_by o inner first.0.0 first.0.1 ≡ Some (b, rest) → Took (SpellsSum types place room) ts b rest) [
      | None ↦ (λ none h.
          let same = pair_is first.0.0 b first.0.1 rest h in
          (left.0, left.1 ∙ ap (λ l. left.0 ++ l) same.1, subst (λ b. SpellsSum types place room left.0 b) same.0 (no_range left.2)))
      | Some plus ↦ (λ some h.
          let more = spread_sound types place room plus.0 inner inside left.0 first.0.0 left.2 plus.1 b rest h in (
            left.0 ++ more.0,
            left.1 ∙ ap (λ l. left.0 ++ l) (punct_is p.Plus first.0.1 plus.0 plus.1 some ∙ more.1) ∙ sym (append_assoc left.0 more.0 rest),
            with_range more.2,
          ))
    ]
    refl first.2

sum_grouped : {types : Names} {room : ℕ} {xs : List Token} {a : t.Term} → SpellsSum types in_set room xs a → SpellsGroup types in_set room xs a
sum_grouped (no_range s) = plain s
sum_grouped (with_range s) = spread_out s

group_sound : (types : Names) (place : Place) (room : ℕ) (whole inner : Reader t.Term) → Sound (g.SpellsTerm types place room) whole → Inside (g.SpellsTerm types (inside_of place)) room inner
    → Sound (SpellsGroup types place room) (r.group place whole inner)
group_sound types anywhere room whole inner sound inside ts b rest h = let x = sound ts b rest h in (x.0, x.1, plain x.2)
group_sound types in_chain room whole inner sound inside ts b rest h = let x = sound ts b rest h in (x.0, x.1, plain x.2)
group_sound types in_set room whole inner sound inside ts b rest h = let x = spread_term_sound types in_set room whole inner sound inside ts b rest h in (x.0, x.1, sum_grouped x.2)

-- ---- by room

abbrev SpellsPart : (types : Names) → r.Part → Place → (room : ℕ) → List Token → t.Term → Type 0
SpellsPart types r.operands place room xs a = g.SpellsTermUnary types place room xs a
SpellsPart types r.wholes place room xs a = g.SpellsTerm types place room xs a
SpellsPart types r.groups place room xs a = SpellsGroup types place room xs a

over_sound : (types : Names) (room : ℕ) (below : r.Readers) (args : r.Args) → ((part : r.Part) (place : Place) → Inside (SpellsPart types part place) room (below part place))
    → ((place : Place) → Inside (λ less. Closed (SpellsArguments types place less)) room (args place)) → (part : r.Part) (place : Place) → Sound (SpellsPart types part place room) (r.over types below args part place)
over_sound types room below args inside inside_args part place =
    let parts : Sounds types place room (below r.operands place) (args (inside_of place)) (below r.wholes (inside_of place)) (below r.groups (inside_of place)) =
    record { same_sound = inside r.operands place; args_are = inside_args (inside_of place); inner_are = inside r.wholes (inside_of place); groups_are = inside r.groups (inside_of place) }
    in
    let operand = operand_sound types place room (below r.operands place) (args (inside_of place)) (below r.wholes (inside_of place)) (below r.groups (inside_of place)) parts in
    let whole = term_over_sound types place room (r.operand_over types below args place) (below r.wholes place) operand (inside r.wholes place) in
    by_part part operand whole
  where
    by_part : (part : r.Part) → Sound (g.SpellsTermUnary types place room) (r.operand_over types below args place) → Sound (g.SpellsTerm types place room) (r.term_over types below args place)
        → Sound (SpellsPart types part place room) (r.over types below args part place)
    by_part r.operands operand whole = operand
    by_part r.wholes operand whole = whole
    by_part r.groups operand whole = group_sound types place room (r.term_over types below args place) (below r.wholes (inside_of place)) whole (inside r.wholes (inside_of place))

pub read_sound : (types : Names) (room : ℕ) (part : r.Part) (place : Place) → Sound (SpellsPart types part place room) (r.read types room part place)
unfolding r.read
read_sound types zero = over_sound types 0 (λ part place. nothing) (λ place. nothing) (λ part place ts a rest h. absurd cc) (λ place ts a rest h. absurd cc)
read_sound types (suc room) =
    over_sound types (suc room) (r.read types room) (λ place. r.args_at (r.read types room r.wholes place))
    (λ part place ts a rest h. (room, refl, read_sound types room part place ts a rest h))
    (λ place ts a rest h. (room, refl, args_sound types place room (r.read types room r.wholes place) (read_sound types room r.wholes place) ts a rest h))

pub inner_sound : (types : Names) (room : ℕ) (part : r.Part) (place : Place) → Inside (SpellsPart types part place) room (r.inner types room part place)
inner_sound types zero part place ts a rest h = let none = inner_none types 0 part place ts refl in let found : t.Term × List Token = (a, rest) in let h' : None ≡ Some found = sym none ∙ h in absurd cc
inner_sound types (suc room) part place ts a rest h = (room, refl, read_sound types room part place ts a rest (sym (inner_is types room part place ts) ∙ h))
