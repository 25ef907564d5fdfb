-- The equations of the readers of types and binders.
use Rattle.std.proofs.Common.{◌≡◌, ◌≢◌, ℕ, zero, suc, ◌+◌, Bool, true, false, true≢false, cond, ◌||◌, List, [], ◌∷◌, ◌++◌, Some, None, Result, Err, codes, refl, sym, ap, ◌∙◌, subst, add-one, append-nil}
use Rattle.std.specs.Str.{bytes_eq}
use Rattle.std.specs.Borrow.{Bor}
use Rattle.std.proofs.lemmas.Slice.Eq.{bytes_eq-Decides}
use Rattle.c_syntax.specs.declared.token.Token.{Token}
use Rattle.c_syntax.specs.declared.token.TokenKind.{TokenKind}
use Rattle.c_syntax.specs.declared.token.TokenKind.TheVariants as k
use Rattle.c_syntax.specs.declared.token.Punct.TheVariants as p
use Rattle.c_syntax.specs.Expr as e
use Rattle.c_grammar.specs.declared.fault.Fault.{Fault}
use Rattle.c_grammar.specs.declared.fault.Fault.TheVariants.{Syntax, NoMemory}
use Rattle.c_grammar.specs.Tokens.{Names, is_type}
use Rattle.c_grammar.specs.Preds.{without_integer}
use Rattle.c_grammar.specs.Reading.{◌>>=◌, punct_at, keyword_at, keyword_by}
use Rattle.c_grammar.specs.Views.{Gives}
use Rattle.c_grammar.specs.ListReaders.{with_items}
use Rattle.c_grammar.proofs.Readers.{guard_ok, got}
use Rattle.c_grammar.proofs.Turns.{with_one}
use Rattle.parse_types.specs.Read.{consts_at, specified, specifier_at, with_consts, type_at, stars_at, type_name_at}
use Rattle.parse_preds.specs.Binders.{binder_at, more_binders}

-- ---- a type of C, where `integer` is none

abbrev integer : List ℕ
integer = codes "integer"

-- of two texts one of which is this name, and the other not
apart : (x y : List ℕ) → bytes_eq x integer ≢ bytes_eq y integer → bytes_eq y x ≡ false
apart x y differ = by (bytes_eq y x) refl
  where
    by : (b : Bool) → bytes_eq y x ≡ b → b ≡ false
    by false h = refl
    by true h = absurd (differ (ap (λ z. bytes_eq z integer) (sym ((bytes_eq-Decides y x).0 h))))

left_out : (types : Names) (x : List ℕ) → bytes_eq x integer ≡ true → is_type (without_integer types) x ≡ false
left_out [] x same = refl
left_out (y ∷ types) x same = by (bytes_eq y integer) refl (left_out types x same)
  where
    by : (b : Bool) → bytes_eq y integer ≡ b → is_type (without_integer types) x ≡ false → is_type (cond b (without_integer types) (y ∷ without_integer types)) x ≡ false
    by true is rest = rest
    by false is rest = ap (λ c. c || is_type (without_integer types) x) (apart x y (λ e. true≢false (sym same ∙ e ∙ is))) ∙ rest

kept : (types : Names) (x : List ℕ) → bytes_eq x integer ≡ false → is_type (without_integer types) x ≡ is_type types x
kept [] x other = refl
kept (y ∷ types) x other = by (bytes_eq y integer) refl (kept types x other)
  where
    by : (b : Bool) → bytes_eq y integer ≡ b → is_type (without_integer types) x ≡ is_type types x
        → is_type (cond b (without_integer types) (y ∷ without_integer types)) x ≡ (bytes_eq y x || is_type types x)
    by true is rest = rest ∙ sym (ap (λ c. c || is_type types x) (apart x y (λ e. true≢false (sym is ∙ sym e ∙ other))))
    by false is rest = ap (λ c. bytes_eq y x || c) rest

specifier_none : (types : Names) (ts : List Token) (found : ℕ × List Token) → keyword_at integer ts ≡ Some found → specifier_at (without_integer types) ts ≡ None
unfolding specifier_at
specifier_none types [] found h = refl
specifier_none types (t ∷ ts) found h = by_kind t.kind h
  where
    by_kind : (kind : TokenKind) → keyword_by integer t.line kind ts ≡ Some found → specified (without_integer types) kind (t ∷ ts) ts ≡ None
    by_kind (k.Name x) h =
        let is : bytes_eq x integer ≡ true = (guard_ok (bytes_eq x integer) (t.line, ts) found h).0 in
        ap (λ b. cond b (Some (e.named x, ts)) None) (left_out types x is)
    by_kind _ h = absurd cc

specifier_same : (types : Names) (ts : List Token) → keyword_at integer ts ≡ None → specifier_at (without_integer types) ts ≡ specifier_at types ts
unfolding specifier_at
specifier_same types [] h = refl
specifier_same types (t ∷ ts) h = by_kind t.kind h
  where
    by_name : (x : List ℕ) (b : Bool) → bytes_eq x integer ≡ b → cond b (got t.line ts) None ≡ None → specified (without_integer types) (k.Name x) (t ∷ ts) ts ≡ specified types (k.Name x) (t ∷ ts) ts
    by_name x true is h = absurd cc
    by_name x false is h = ap (λ b. cond b (Some (e.named x, ts)) None) (kept types x is)

    by_kind : (kind : TokenKind) → keyword_by integer t.line kind ts ≡ None → specified (without_integer types) kind (t ∷ ts) ts ≡ specified types kind (t ∷ ts) ts
    by_kind (k.Name x) h = by_name x (bytes_eq x integer) refl h
    by_kind (k.Word w) h = refl
    by_kind _ h = refl

-- where `integer` is named as a type of C, there is none
pub integer_named : (types : Names) (ts named : List Token) (found : ℕ × List Token) → named ≡ (consts_at ts).1 → keyword_at (codes "integer") named ≡ Some found
    → type_name_at (without_integer types) ts ≡ None
unfolding type_name_at type_at
integer_named types ts named found is h =
    ap (λ o. o >>= (λ t. Some (with_consts (consts_at ts).0 t.0 (consts_at t.1))) >>= λ t. stars_at false t.0 t.1) (specifier_none types (consts_at ts).1 found (ap (keyword_at integer) (sym is) ∙ h))

-- and elsewhere it makes no difference
pub other_named : {X : Type 0} (see : X → e.CType) (result : Result (X × Bor (List Token)) Fault) (types : Names) (ts named : List Token) → named ≡ (consts_at ts).1 → keyword_at (codes "integer") named ≡ None
    → Gives see result (type_name_at types ts) → Gives see result (type_name_at (without_integer types) ts)
unfolding type_name_at type_at
other_named see result types ts named is h read =
    let same : specifier_at (without_integer types) (consts_at ts).1 ≡ specifier_at types (consts_at ts).1 = specifier_same types (consts_at ts).1 (ap (keyword_at integer) (sym is) ∙ h) in
    subst (λ o. Gives see result (o >>= (λ t. Some (with_consts (consts_at ts).0 t.0 (consts_at t.1))) >>= λ t. stars_at false t.0 t.1)) (sym same) read

-- ---- binders

pub more_binders_end : (types : Names) (turns : ℕ) (xs : List e.VarDecl) (type : e.CType) (ts : List Token) → turns ≡ 0 → with_items xs (more_binders types turns type ts) ≡ Some (xs, ts)
unfolding more_binders
more_binders_end types turns xs type ts e = rw (e, append-nil) refl

pub more_binders_stop : (types : Names) (turns : ℕ) (xs : List e.VarDecl) (type : e.CType) (ts : List Token) → punct_at p.Comma ts ≡ None → with_items xs (more_binders types turns type ts) ≡ Some (xs, ts)
unfolding more_binders
more_binders_stop types zero xs type ts e = rw append-nil refl
more_binders_stop types (suc turns) xs type ts e = rw (e, append-nil) refl

more_binders_go : (types : Names) (turns turns' : ℕ) (type : e.CType) (ts : List Token) (line : ℕ) (after : List Token) → turns ≡ turns' + 1 → punct_at p.Comma ts ≡ Some (line, after)
    → more_binders types turns type ts ≡ (binder_at types type after >>= λ x. with_items (x.0 ∷ []) (more_binders types turns' x.0.ty x.1))
unfolding more_binders
more_binders_go types turns turns' type ts line after e found = rw (e, add-one, found) refl

pub more_binders_turn : (types : Names) (turns turns' : ℕ) (xs : List e.VarDecl) (x : e.VarDecl) (type : e.CType) (ts : List Token) (line : ℕ) (after rest : List Token) → turns ≡ turns' + 1 → punct_at p.Comma ts ≡ Some (line, after)
    → binder_at types type after ≡ Some (x, rest) → with_items (xs ++ x ∷ []) (more_binders types turns' x.ty rest) ≡ with_items xs (more_binders types turns type ts)
more_binders_turn types turns turns' xs x type ts line after rest one found read =
    with_one xs x (more_binders types turns' x.ty rest)
    ∙ sym (ap (with_items xs) (more_binders_go types turns turns' type ts line after one found ∙ ap (λ o. o >>= λ x. with_items (x.0 ∷ []) (more_binders types turns' x.0.ty x.1)) read))

pub more_binders_fault : {X Z : Type 0} (see : X → e.VarDecl) (see' : Z → List e.VarDecl) (types : Names) (turns turns' : ℕ) (xs : List e.VarDecl) (type : e.CType) (ts : List Token) (line : ℕ) (after : List Token) (e : Fault)
    → turns ≡ turns' + 1 → punct_at p.Comma ts ≡ Some (line, after)
    → Gives see (Err e) (binder_at types type after) → Gives see' (Err e) (with_items xs (more_binders types turns type ts))
more_binders_fault see see' types turns turns' xs type ts line after Syntax one found h = rw (more_binders_go types turns turns' type ts line after one found, h) refl
more_binders_fault see see' types turns turns' xs type ts line after NoMemory one found h = tt
