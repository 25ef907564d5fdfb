-- What the readers of types and binders read is spelled so.
use Rattle.std.proofs.Common.{◌≡◌, ℕ, zero, suc, true, false, cond, List, [], ◌∷◌, ◌++◌, length, codes, Option, Some, None, refl, sym, ap, ◌∙◌, subst, append_assoc}
use Rattle.std.specs.Str.{bytes_eq}
use Rattle.std.proofs.lemmas.Slice.Eq.{bytes_eq-Decides}
use Rattle.c_syntax.specs.declared.token.Token.{Token}
use Rattle.c_syntax.specs.declared.token.TokenKind.{TokenKind}
use Rattle.c_syntax.specs.declared.token.TokenKind.TheVariants as k
use Rattle.c_syntax.specs.declared.token.Punct.TheVariants as p
use Rattle.c_syntax.specs.Expr as e
use Rattle.c_grammar.specs.Tokens.{Names, is_type, token, punct, name}
use Rattle.c_grammar.specs.Preds as g
use Rattle.c_grammar.specs.Preds.{without_integer, SpellsLogicType, SpellsTyped, SpellsMoreBinders, SpellsBinders}
use Rattle.c_grammar.specs.Reading.{punct_at, keyword_at, keyword_by, new_name_at}
use Rattle.c_grammar.proofs.Readers.{Took, Sound, bind_ok, guard_ok, got, pair_is}
use Rattle.c_grammar.specs.Declarators.{declared}
use Rattle.c_grammar.specs.ListReaders.{with_items}
use Rattle.c_grammar.proofs.SingleTokens.{punct_is, new_name_is}
use Rattle.parse_types.proofs.Laws.{type_name_sound}
use Rattle.parse_preds.specs.Binders.{logic_type_by, logic_type_at, declared_at, typed_at, type_comes, binder_at, comma_binders, more_binders, binders_from, binders_at}

-- texts with the same bytes are equal
pub bytes_same : (x y : List ℕ) → bytes_eq x y ≡ true → x ≡ y
bytes_same x y h = (bytes_eq-Decides x y).0 h

keyword_is : (text : List ℕ) (ts : List Token) (line : ℕ) (after : List Token) → keyword_at text ts ≡ Some (line, after) → ts ≡ name text line ∷ after
keyword_is text [] line after h = absurd cc
keyword_is text (t ∷ ts) line after h = by_kind t.kind h
  where
    by_kind : (kind : TokenKind) → keyword_by text t.line kind ts ≡ Some (line, after) → token kind t.line ∷ ts ≡ name text line ∷ after
    by_kind (k.Name x) h =
        let found : ℕ × List Token = (t.line, ts) in
        let given : ℕ × List Token = (line, after) in
        let g = guard_ok (bytes_eq x text) found given h in
        let same = pair_is t.line line ts after (ap Some g.1) in
        ap (λ x. name x t.line ∷ ts) (bytes_same x text g.0) ∙ ap (λ line. name text line ∷ ts) same.0 ∙ ap (λ ts. name text line ∷ ts) same.1
    by_kind _ h = absurd cc

pub logic_type_sound : (types : Names) → Sound (SpellsLogicType types) (logic_type_at types)
unfolding logic_type_at
logic_type_sound types ts a rest h =
    elim (keyword_at (codes "integer") ts) as (λ o. keyword_at (codes "integer") ts ≡ o → logic_type_by types o ts ≡ Some (a, rest) → Took (SpellsLogicType types) ts a rest) [
      | Some x ↦ (λ some h.
          let same = pair_is e.integer a x.1 rest h in
          let xs = name (codes "integer") x.0 ∷ [] in
          (xs, keyword_is (codes "integer") ts x.0 x.1 some ∙ ap (λ l. name (codes "integer") x.0 ∷ l) same.1, subst (SpellsLogicType types xs) same.0 g.integer))
      | None ↦ (λ none h.
          let x = type_name_sound (without_integer types) ts a rest h in
          (x.0, x.1, g.c_type x.2))
    ]
    refl h

-- a name of the type at the front
declared_sound : (types : Names) (type : e.CType) (ts : List Token) (a : e.VarDecl) (rest : List Token) → declared_at types type ts ≡ Some (a, rest)
    → (x : List ℕ) × (line : ℕ) × (ts ≡ name x line ∷ rest) × (is_type types x ≡ false) × (declared x type line ≡ a)
unfolding declared_at
declared_sound types type ts a rest h =
    let x = bind_ok (new_name_at types ts) (λ (x : (List ℕ × ℕ) × List Token). Some (declared x.0.0 type x.0.1, x.1)) (a, rest) h in
    let same = pair_is (declared x.0.0.0 type x.0.0.1) a x.0.1 rest x.2 in
    let n = new_name_is types ts x.0.0 x.0.1 x.1 in
    (x.0.0.0, x.0.0.1, n.0 ∙ ap (λ l. name x.0.0.0 x.0.0.1 ∷ l) same.1, n.1, same.0)

pub typed_sound : (types : Names) → Sound (SpellsTyped types) (typed_at types)
unfolding typed_at
typed_sound types ts a rest h =
    let x = bind_ok (logic_type_at types ts) (λ (t : e.CType × List Token). declared_at types t.0 t.1) (a, rest) h in
    let first = logic_type_sound types ts x.0.0 x.0.1 x.1 in
    let d = declared_sound types x.0.0 x.0.1 a rest x.2 in
    let xs = first.0 ++ name d.0 d.1 ∷ [] in
    (xs, first.1 ∙ ap (λ l. first.0 ++ l) d.2 ∙ sym (append_assoc first.0 (name d.0 d.1 ∷ []) rest), subst (SpellsTyped types xs) d.4 (g.typed first.2 d.3 refl))

pub with_items_ok : {X : Type 0} (xs : List X) (o : Option (List X × List Token)) (all : List X) (rest : List Token) → with_items xs o ≡ Some (all, rest) → (ys : List X) × (o ≡ Some (ys, rest)) × (xs ++ ys ≡ all)
with_items_ok xs None all rest h = absurd cc
with_items_ok xs (Some y) all rest h =
    let same = pair_is (xs ++ y.0) all y.1 rest h in
    (y.0, ap (λ l. got y.0 l) same.1, same.0)

more_binders_sound : (types : Names) (turns : ℕ) (type : e.CType) → Sound (SpellsMoreBinders types type) (more_binders types turns type)
unfolding more_binders binder_at
more_binders_sound types zero type ts xs rest h =
    let none : List e.VarDecl = [] in
    let same = pair_is none xs ts rest h in
    ([], same.1, subst (SpellsMoreBinders types type []) same.0 g.none)
more_binders_sound types (suc turns) type ts xs rest h =
    elim (punct_at p.Comma ts) as (λ o. punct_at p.Comma ts ≡ o → comma_binders types o type ts (more_binders types turns) ≡ Some (xs, rest) → Took (SpellsMoreBinders types type) ts xs rest) [
      | None ↦ (λ none h.
          let nil : List e.VarDecl = [] in
          let same = pair_is nil xs ts rest h in
          ([], same.1, subst (SpellsMoreBinders types type []) same.0 g.none))
      | Some c ↦ (λ some h.
          let x = bind_ok (binder_at types type c.1) (λ (x : e.VarDecl × List Token). with_items (x.0 ∷ []) (more_binders types turns x.0.ty x.1)) (xs, rest) h in
          let y = with_items_ok (x.0.0 ∷ []) (more_binders types turns x.0.0.ty x.0.1) xs rest x.2 in
          let more = more_binders_sound types turns x.0.0.ty x.0.1 y.0 rest y.1 in
          let comma = punct p.Comma c.0 in
          elim (type_comes types c.1) as (λ b. cond b (typed_at types c.1) (declared_at types type c.1) ≡ Some x.0 → Took (SpellsMoreBinders types type) ts xs rest) [
            | true ↦ (λ read.
                let first = typed_sound types c.1 x.0.0 x.0.1 read in (
                  comma ∷ (first.0 ++ more.0),
                  punct_is p.Comma ts c.0 c.1 some ∙ ap (λ l. comma ∷ l) (first.1 ∙ ap (λ l. first.0 ++ l) more.1 ∙ sym (append_assoc first.0 more.0 rest)),
                  subst (SpellsMoreBinders types type _) y.2 (g.typed c.0 first.2 more.2 refl),
                ))
            | false ↦ (λ read.
                let d = declared_sound types type c.1 x.0.0 x.0.1 read in
                let same : x.0.0.ty ≡ type = ap (λ (x : e.VarDecl). x.ty) (sym d.4) in
                let all = comma ∷ (name d.0 d.1 ∷ more.0) in
                let spelled = g.untyped {line' = d.1} c.0 d.3 (subst (λ type. SpellsMoreBinders types type more.0 y.0) same more.2) in (
                  all,
                  punct_is p.Comma ts c.0 c.1 some ∙ ap (λ l. comma ∷ l) (d.2 ∙ ap (λ l. name d.0 d.1 ∷ l) more.1),
                  subst (SpellsMoreBinders types type all) (ap (λ (x : e.VarDecl). x ∷ y.0) d.4 ∙ y.2) spelled,
                ))
          ]
          x.1)
    ]
    refl h

pub binders_sound : (types : Names) → Sound (SpellsBinders types) (binders_at types)
unfolding binders_at
binders_sound types ts xs rest h =
    let x = bind_ok (typed_at types ts) (λ (x : e.VarDecl × List Token). binders_from types x.0 x.1) (xs, rest) h in
    let y = with_items_ok (x.0.0 ∷ []) (more_binders types (length x.0.1) x.0.0.ty x.0.1) xs rest x.2 in
    let first = typed_sound types ts x.0.0 x.0.1 x.1 in
    let more = more_binders_sound types (length x.0.1) x.0.0.ty x.0.1 y.0 rest y.1 in
    (first.0 ++ more.0, first.1 ∙ ap (λ l. first.0 ++ l) more.1 ∙ sym (append_assoc first.0 more.0 rest), subst (SpellsBinders types _) y.2 (g.binders first.2 more.2 refl))
