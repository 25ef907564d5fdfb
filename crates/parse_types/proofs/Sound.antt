-- What the readers of types read is spelled so.
use Rattle.std.proofs.Common.{◌≡◌, ℕ, zero, suc, Bool, true, false, ◌||◌, List, [], ◌∷◌, ◌++◌, length, Some, None, refl, sym, ap, ◌∙◌, subst, append_assoc}
use Rattle.wp_base.specs.declared.kinds.Kind.{Kind}
use Rattle.c_syntax.specs.declared.token.Token.{Token}
use Rattle.c_syntax.specs.declared.token.TokenKind.{TokenKind}
use Rattle.c_syntax.specs.declared.token.TokenKind.TheVariants as k
use Rattle.c_syntax.specs.declared.token.Word.{Word}
use Rattle.c_syntax.specs.declared.token.Word.TheVariants as w
use Rattle.c_syntax.specs.declared.token.Punct.TheVariants as p
use Rattle.c_syntax.specs.Expr as e
use Rattle.c_grammar.specs.Tokens.{Names, is_type, token, punct, word, name}
use Rattle.c_grammar.specs.Types as g
use Rattle.c_grammar.specs.Reading.{punct_at, name_at}
use Rattle.c_grammar.proofs.Readers.{Took, Sound, bind_ok, guard_ok, pair_is}
use Rattle.c_grammar.proofs.SingleTokens.{punct_is, name_is}
use Rattle.parse_types.specs.Read as r
use Rattle.parse_types.proofs.Tokens.{kind_word_is, const_is}

-- ---- what comes in any number

-- the tokens that were taken, and those that are left
abbrev Front : {X : Type 0} → (List Token → X → Type 0) → List Token → X × List Token → Type 0
Front S ts x = (xs : List Token) × (ts ≡ xs ++ x.1) × S xs x.0

words_front : (ts : List Token) → Front g.SpellsWords ts (r.words_at ts)
unfolding r.words_at
words_front [] = ([], refl, g.none)
words_front (t ∷ ts) =
    elim (r.kind_word t.kind) as (λ o. r.kind_word t.kind ≡ o → Front g.SpellsWords (t ∷ ts) (r.words_by o (t ∷ ts) (r.words_at ts))) [
      | None ↦ (λ none. ([], refl, g.none))
      | Some v ↦ (λ some.
          let x = kind_word_is t.kind v some in
          let more = words_front ts in
          (word v t.line ∷ more.0, ap (λ kind. record { kind = kind; line = t.line } ∷ ts) x.0 ∙ ap (λ ts. word v t.line ∷ ts) more.1, g.more x.1 more.2))
    ]
    refl

consts_front : (ts : List Token) → Front g.SpellsConsts ts (r.consts_at ts)
unfolding r.consts_at
consts_front [] = ([], refl, g.none)
consts_front (t ∷ ts) =
    elim (r.is_const t.kind) as (λ b. r.is_const t.kind ≡ b → Front g.SpellsConsts (t ∷ ts) (r.consts_by b (t ∷ ts) (r.consts_at ts))) [
      | false ↦ (λ none. ([], refl, g.none))
      | true ↦ (λ some.
          let x = const_is t.kind some in
          let more = consts_front ts in
          (word w.Const t.line ∷ more.0, ap (λ kind. record { kind = kind; line = t.line } ∷ ts) x ∙ ap (λ ts. word w.Const t.line ∷ ts) more.1, g.more more.2))
    ]
    refl

-- ---- types

kind_sound : (types : Names) (ts : List Token) (x : Kind) (rest : List Token) → r.kind_at ts ≡ Some (x, rest) → Took (g.SpellsSpecifier types) ts (e.kind x) rest
unfolding r.kind_at
kind_sound types ts x rest h =
    let found = bind_ok (g.kind_of (r.words_at ts).0) (λ kind. Some (kind, (r.words_at ts).1)) (x, rest) h in
    let same = pair_is found.0 x (r.words_at ts).1 rest found.2 in
    let front = words_front ts in
    (front.0, front.1 ∙ ap (λ l. front.0 ++ l) same.1, g.kind_words front.2 (found.1 ∙ ap Some same.0))

worded_by_kind : (types : Names) (ts : List Token) (t : e.CType) (rest : List Token) → r.worded w.Int ts ts ≡ Some (t, rest) → Took (g.SpellsSpecifier types) ts t rest
worded_by_kind types ts t rest h =
    let x = bind_ok (r.kind_at ts) (λ x. Some (e.kind x.0, x.1)) (t, rest) h in
    let same = pair_is (e.kind x.0.0) t x.0.1 rest x.2 in
    let took = kind_sound types ts x.0.0 x.0.1 x.1 in
    (took.0, took.1 ∙ ap (λ l. took.0 ++ l) same.1, subst (g.SpellsSpecifier types took.0) same.0 took.2)

worded_sound : (types : Names) (v : Word) (line : ℕ) (ts : List Token) (t : e.CType) (rest : List Token) → r.worded v (word v line ∷ ts) ts ≡ Some (t, rest) → Took (g.SpellsSpecifier types) (word v line ∷ ts) t rest
worded_sound types w.Void line ts t rest h =
    let same = pair_is e.void t ts rest h in
    (word w.Void line ∷ [], ap (λ l. word w.Void line ∷ l) same.1, subst (g.SpellsSpecifier types (word w.Void line ∷ [])) same.0 g.void)
worded_sound types w.Struct line ts t rest h =
    let x = bind_ok (name_at ts) (λ x. Some (e.struct_of x.0.0, x.1)) (t, rest) h in
    let same = pair_is (e.struct_of x.0.0.0) t x.0.1 rest x.2 in
    let xs = word w.Struct line ∷ name x.0.0.0 x.0.0.1 ∷ [] in
    (xs, ap (λ l. word w.Struct line ∷ l) (name_is ts x.0.0 x.0.1 x.1 ∙ ap (λ l. name x.0.0.0 x.0.0.1 ∷ l) same.1), subst (g.SpellsSpecifier types xs) same.0 g.struct_of)
worded_sound types w.Enum line ts t rest h =
    let x = bind_ok (name_at ts) (λ x. Some (e.enum_of x.0.0, x.1)) (t, rest) h in
    let same = pair_is (e.enum_of x.0.0.0) t x.0.1 rest x.2 in
    let xs = word w.Enum line ∷ name x.0.0.0 x.0.0.1 ∷ [] in
    (xs, ap (λ l. word w.Enum line ∷ l) (name_is ts x.0.0 x.0.1 x.1 ∙ ap (λ l. name x.0.0.0 x.0.0.1 ∷ l) same.1), subst (g.SpellsSpecifier types xs) same.0 g.enum_of)
worded_sound types v line ts t rest h = worded_by_kind types (word v line ∷ ts) t rest h

specified_sound : (types : Names) (kind : TokenKind) (line : ℕ) (ts : List Token) (t : e.CType) (rest : List Token) → r.specified types kind (token kind line ∷ ts) ts ≡ Some (t, rest)
    → Took (g.SpellsSpecifier types) (token kind line ∷ ts) t rest
specified_sound types (k.Word v) line ts t rest h = worded_sound types v line ts t rest h
specified_sound types (k.Name x) line ts t rest h =
    let found = guard_ok (is_type types x) (e.named x, ts) (t, rest) h in
    let same = pair_is (e.named x) t ts rest (ap Some found.1) in
    (name x line ∷ [], ap (λ l. name x line ∷ l) same.1, subst (g.SpellsSpecifier types (name x line ∷ [])) same.0 (g.named found.0))
specified_sound types _ line ts t rest h = absurd cc

specifier_sound : (types : Names) → Sound (g.SpellsSpecifier types) (r.specifier_at types)
unfolding r.specifier_at
specifier_sound types [] t rest h = absurd cc
specifier_sound types (first ∷ ts) t rest h = specified_sound types first.kind first.line ts t rest h

pub type_sound : (types : Names) → Sound (g.SpellsType types) (r.type_at types)
unfolding r.type_at
type_sound types ts t rest h =
    let first = consts_front ts in
    let x = bind_ok (r.specifier_at types (r.consts_at ts).1) (λ t. Some (r.with_consts (r.consts_at ts).0 t.0 (r.consts_at t.1))) (t, rest) h in
    let last = consts_front x.0.1 in
    let middle = specifier_sound types (r.consts_at ts).1 x.0.0 x.0.1 x.1 in
    let same = pair_is (g.const_if ((r.consts_at ts).0 || (r.consts_at x.0.1).0) x.0.0) t (r.consts_at x.0.1).1 rest x.2 in
    let all : ts ≡ first.0 ++ (middle.0 ++ (last.0 ++ rest)) = first.1 ∙ ap (λ l. first.0 ++ l) (middle.1 ∙ ap (λ l. middle.0 ++ l) (last.1 ∙ ap (λ l. last.0 ++ l) same.1)) in
    let regrouped : first.0 ++ (middle.0 ++ (last.0 ++ rest)) ≡ (first.0 ++ (middle.0 ++ last.0)) ++ rest = simp append_assoc in
    (first.0 ++ (middle.0 ++ last.0), all ∙ regrouped, g.type first.2 middle.2 last.2 refl (sym same.0))

-- ---- stars

-- what stands at the front, where `const` may come behind a star
star_front : (consts : Bool) (line : ℕ) (ts : List Token) (t t' : e.CType) (xs rest : List Token) → (r.const_at consts ts).1 ≡ xs ++ rest
    → g.SpellsStars consts xs (g.const_if (r.const_at consts ts).0 (e.pointer t)) t' → Took (λ xs t'. g.SpellsStars consts xs t t') (punct p.Star line ∷ ts) t' rest
unfolding r.const_at
star_front false line [] t t' xs rest all s = (punct p.Star line ∷ xs, ap (λ l. punct p.Star line ∷ l) all, g.star s)
star_front true line [] t t' xs rest all s = (punct p.Star line ∷ xs, ap (λ l. punct p.Star line ∷ l) all, g.star s)
star_front false line (x ∷ ts) t t' xs rest all s = (punct p.Star line ∷ xs, ap (λ l. punct p.Star line ∷ l) all, g.star s)
star_front true line (x ∷ ts) t t' xs rest all s =
    elim (r.is_const x.kind) as (λ b. r.is_const x.kind ≡ b → (r.const_taken b x ts).1 ≡ xs ++ rest → g.SpellsStars true xs (g.const_if (r.const_taken b x ts).0 (e.pointer t)) t'
    → Took (λ xs t'. g.SpellsStars true xs t t') (punct p.Star line ∷ x ∷ ts) t' rest) [
      | false ↦ (λ none all s. (punct p.Star line ∷ xs, ap (λ l. punct p.Star line ∷ l) all, g.star s))
      | true ↦ (λ some all s. (
        punct p.Star line ∷ word w.Const x.line ∷ xs,
        ap (λ l. punct p.Star line ∷ l) (ap (λ kind. record { kind = kind; line = x.line } ∷ ts) (const_is x.kind some) ∙ ap (λ l. word w.Const x.line ∷ l) all),
        g.const_star refl s,
      ))
    ]
    refl all s

more_stars_sound : (consts : Bool) (turns : ℕ) (t : e.CType) → Sound (λ xs t'. g.SpellsStars consts xs t t') (r.more_stars consts turns t)
unfolding r.more_stars
more_stars_sound consts zero t ts t' rest h =
    let same = pair_is t t' ts rest h in
    ([], same.1, subst (g.SpellsStars consts [] t) same.0 g.none)
more_stars_sound consts (suc turns) t ts t' rest h =
    elim (punct_at p.Star ts) as (λ o. punct_at p.Star ts ≡ o → r.starred consts o t ts (r.more_stars consts turns) ≡ Some (t', rest) → Took (λ xs t'. g.SpellsStars consts xs t t') ts t' rest) [
      | None ↦ (λ none h.
          let same = pair_is t t' ts rest h in
          ([], same.1, subst (g.SpellsStars consts [] t) same.0 g.none))
      | Some x ↦ (λ some h.
          let c = r.const_at consts x.1 in
          let more = more_stars_sound consts turns (g.const_if c.0 (e.pointer t)) c.1 t' rest h in
          let took = star_front consts x.0 x.1 t t' more.0 rest more.1 more.2 in
          (took.0, punct_is p.Star ts x.0 x.1 some ∙ took.1, took.2))
    ]
    refl h

pub stars_sound : (consts : Bool) (t : e.CType) → Sound (λ xs t'. g.SpellsStars consts xs t t') (r.stars_at consts t)
unfolding r.stars_at
stars_sound consts t ts t' rest h = more_stars_sound consts (length ts) t ts t' rest h

pub type_name_sound : (types : Names) → Sound (g.SpellsTypeName types) (r.type_name_at types)
unfolding r.type_name_at
type_name_sound types ts t rest h =
    let x = bind_ok (r.type_at types ts) (λ t. r.stars_at false t.0 t.1) (t, rest) h in
    let first = type_sound types ts x.0.0 x.0.1 x.1 in
    let last = stars_sound false x.0.0 x.0.1 t rest x.2 in
    (first.0 ++ last.0, first.1 ∙ ap (λ l. first.0 ++ l) last.1 ∙ sym (append_assoc first.0 last.0 rest), g.type_name first.2 last.2 refl)
