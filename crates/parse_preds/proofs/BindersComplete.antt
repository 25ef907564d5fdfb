-- What is spelled as a type and a name, or as binders, is read as that.
use Rattle.std.proofs.Common.{◌≡◌, ℕ, zero, suc, ◌≤◌, Bool, true, false, cond, List, [], ◌∷◌, ◌++◌, length, codes, Some, None, refl, sym, ap, ◌∙◌, subst, arith, append_assoc, length-append}
use Rattle.std.specs.Prelude.{◌||◌}
use Rattle.std.specs.Str.{bytes_eq}
use Rattle.c_syntax.specs.declared.token.Token.{Token}
use Rattle.c_syntax.specs.declared.token.TokenKind.{TokenKind}
use Rattle.c_syntax.specs.declared.token.TokenKind.TheVariants as k
use Rattle.c_syntax.specs.declared.token.Punct.TheVariants as p
use Rattle.c_syntax.specs.Expr as e
use Rattle.c_grammar.specs.Tokens.{Names, is_type, punct, name}
use Rattle.c_grammar.specs.Preds as g
use Rattle.c_grammar.specs.Preds.{without_integer, SpellsLogicType, SpellsTyped, SpellsMoreBinders, SpellsBinders}
use Rattle.c_grammar.specs.Reading.{keyword_at, keyword_by}
use Rattle.c_grammar.specs.Declarators.{declared}
use Rattle.c_grammar.specs.ListReaders.{with_items}
use Rattle.parse_types.specs.Read.{starts_type, kind_starts, ends_type_name}
use Rattle.parse_types.proofs.Laws.{type_name_complete, type_name_starts}
use Rattle.parse_preds.proofs.BindersSound.{bytes_same}
use Rattle.parse_preds.specs.Binders.{logic_type_at, declared_at, typed_at, name_comes, type_comes, type_comes_by, binder_at, more_binders, binders_at}

abbrev integer : List ℕ
integer = codes "integer"

-- ---- the names that stand for types

or_second : (a b : Bool) → b ≡ true → (a || b) ≡ true
or_second true b h = refl
or_second false b h = h

-- a name among those without `integer` is another one, and among all
is_other : (types : Names) (x : List ℕ) → is_type (without_integer types) x ≡ true → (bytes_eq x integer ≡ false) × (is_type types x ≡ true)
is_other [] x h = absurd cc
is_other (y ∷ types) x h =
    elim (bytes_eq y integer) as (λ b. bytes_eq y integer ≡ b → is_type (cond b (without_integer types) (y ∷ without_integer types)) x ≡ true → (bytes_eq x integer ≡ false) × ((bytes_eq y x || is_type types x) ≡ true)) [
      | true ↦ (λ same h. let r = is_other types x h in (r.0, or_second (bytes_eq y x) (is_type types x) r.1))
      | false ↦ (λ other h.
          elim (bytes_eq y x) as (λ b. bytes_eq y x ≡ b → (b || is_type (without_integer types) x) ≡ true → (bytes_eq x integer ≡ false) × ((b || is_type types x) ≡ true)) [
            | true ↦ (λ same h. (ap (λ z. bytes_eq z integer) (sym (bytes_same y x same)) ∙ other, refl))
            | false ↦ (λ no' h. is_other types x h)
          ]
          refl h)
    ]
    refl h

kept : (types : Names) (ts : List Token) → starts_type (without_integer types) ts ≡ true → (keyword_at integer ts ≡ None) × (starts_type types ts ≡ true)
unfolding starts_type
kept types [] h = absurd cc
kept types (t ∷ ts) h = by_kind t.kind h
  where
    by_kind : (kind : TokenKind) → kind_starts (without_integer types) kind ≡ true → (keyword_by integer t.line kind ts ≡ None) × (kind_starts types kind ≡ true)
    by_kind (k.Name x) h =
        let o = is_other types x h in
        (rw o.0 refl, o.1)
    by_kind (k.Word w) h = (refl, h)
    by_kind _ h = absurd cc

declared_takes : (types : Names) (type : e.CType) (x : List ℕ) (line : ℕ) (ts : List Token) → is_type types x ≡ false → declared_at types type (name x line ∷ ts) ≡ Some (declared x type line, ts)
unfolding declared_at
declared_takes types type x line ts free = rw free refl

name_ends_type : (x : List ℕ) (line : ℕ) (ts : List Token) → ends_type_name (name x line ∷ ts) ≡ true
unfolding ends_type_name
name_ends_type x line ts = refl

-- ---- a type and a name

logic_type_reads : {types : Names} {xs : List Token} {type : e.CType} → SpellsLogicType types xs type → (rest : List Token) → ends_type_name rest ≡ true → logic_type_at types (xs ++ rest) ≡ Some (type, rest)
unfolding logic_type_at
logic_type_reads g.integer rest ends = refl
logic_type_reads {types} {xs} {type} (g.c_type s) rest ends =
    let other = kept types (xs ++ rest) (type_name_starts (without_integer types) xs type s rest) in
    rw other.0 (type_name_complete (without_integer types) xs type s rest ends)

-- a type with a name behind it tells itself from a name
logic_type_comes : {types : Names} {xs : List Token} {type : e.CType} → SpellsLogicType types xs type → (x : List ℕ) (line : ℕ) (rest : List Token) → type_comes types (xs ++ name x line ∷ rest) ≡ true
unfolding type_comes
logic_type_comes g.integer x line rest = refl
logic_type_comes {types} {xs} {type} (g.c_type s) x line rest =
    let other = kept types (xs ++ name x line ∷ rest) (type_name_starts (without_integer types) xs type s (name x line ∷ rest)) in
    rw other.0 other.1

-- a type and a name are read whatever comes behind them, and tell themselves from a name
typed_reads : {types : Names} {xs : List Token} {x : e.VarDecl} → SpellsTyped types xs x → (rest : List Token) → (typed_at types (xs ++ rest) ≡ Some (x, rest)) × (type_comes types (xs ++ rest) ≡ true)
unfolding typed_at
typed_reads {types} (g.typed {line} {x} {first} {all} {type} s free eq) rest =
    let read = logic_type_reads s (name x line ∷ rest) (name_ends_type x line rest) in
    let split : all ++ rest ≡ first ++ name x line ∷ rest = ap (λ l. l ++ rest) eq ∙ append_assoc first (name x line ∷ []) rest in (
      ap (typed_at types) split ∙ rw read (declared_takes types type x line rest free),
      ap (type_comes types) split ∙ logic_type_comes s x line rest,
    )

pub typed_complete : (types : Names) (xs : List Token) (x : e.VarDecl) → SpellsTyped types xs x → (rest : List Token) → typed_at types (xs ++ rest) ≡ Some (x, rest)
typed_complete types xs x s rest = (typed_reads s rest).0

pub logic_type_complete : (types : Names) (xs : List Token) (type : e.CType) → SpellsLogicType types xs type → (rest : List Token) → ends_type_name rest ≡ true → logic_type_at types (xs ++ rest) ≡ Some (type, rest)
logic_type_complete types xs type s rest ends = logic_type_reads s rest ends

-- ---- binders

-- before a comma or a semicolon a name has no type
untyped_comes : (types : Names) (x : List ℕ) (line : ℕ) (ts : List Token) → is_type types x ≡ false → name_comes ts ≡ false → type_comes types (name x line ∷ ts) ≡ false
unfolding type_comes starts_type
untyped_comes types x line ts free next =
    elim (bytes_eq x integer) as (λ b. type_comes_by types (cond b (Some (line, ts)) None) (name x line ∷ ts) ≡ false) [
      | true ↦ next
      | false ↦ free
    ]

no_name_next : {types : Names} {type : e.CType} {xs : List Token} {bs : List e.VarDecl} → SpellsMoreBinders types type xs bs → (line : ℕ) (rest : List Token) → name_comes (xs ++ punct p.Semicolon line ∷ rest) ≡ false
no_name_next g.none line rest = refl
no_name_next (g.untyped line' free s) line rest = refl
no_name_next (g.typed line' s tail eq) line rest = subst (λ xs. name_comes (xs ++ punct p.Semicolon line ∷ rest) ≡ false) (sym eq) refl

more_binders_step : (types : Names) (turns : ℕ) (type : e.CType) (line : ℕ) (after : List Token) (x : e.VarDecl) (rest : List Token) → binder_at types type after ≡ Some (x, rest)
    → more_binders types (suc turns) type (punct p.Comma line ∷ after) ≡ with_items (x ∷ []) (more_binders types turns x.ty rest)
unfolding more_binders
more_binders_step types turns type line after x rest read = rw read refl

more_binders_over : (types : Names) (turns : ℕ) (type : e.CType) (line : ℕ) (rest : List Token) → more_binders types turns type (punct p.Semicolon line ∷ rest) ≡ Some ([], punct p.Semicolon line ∷ rest)
unfolding more_binders
more_binders_over types zero type line rest = refl
more_binders_over types (suc turns) type line rest = refl

untyped_reads : (types : Names) (type : e.CType) (x : List ℕ) (line : ℕ) (ts : List Token) → is_type types x ≡ false → name_comes ts ≡ false → binder_at types type (name x line ∷ ts) ≡ Some (declared x type line, ts)
unfolding binder_at
untyped_reads types type x line ts free next = rw (untyped_comes types x line ts free next) (declared_takes types type x line ts free)

typed_binder_reads : (types : Names) (type : e.CType) (xs : List Token) (x : e.VarDecl) → SpellsTyped types xs x → (rest : List Token) → binder_at types type (xs ++ rest) ≡ Some (x, rest)
unfolding binder_at
typed_binder_reads types type xs x s rest = let t = typed_reads s rest in rw t.1 t.0

more_binders_complete : {types : Names} {type : e.CType} {xs : List Token} {bs : List e.VarDecl} → SpellsMoreBinders types type xs bs → (turns : ℕ) → length xs ≤ turns → (line : ℕ) (rest : List Token)
    → more_binders types turns type (xs ++ punct p.Semicolon line ∷ rest) ≡ Some (bs, punct p.Semicolon line ∷ rest)
more_binders_complete {types} {type} g.none turns le line rest = more_binders_over types turns type line rest
more_binders_complete (g.untyped line' free s) zero le line rest = absurd (omega arith)
more_binders_complete {types} {type} (g.untyped {line' = l} line' {x} {rest = others} {xs = bs} free s) (suc turns) le line rest =
    more_binders_step types turns type line' (name x l ∷ (others ++ punct p.Semicolon line ∷ rest)) (declared x type l) (others ++ punct p.Semicolon line ∷ rest)
    (untyped_reads types type x l (others ++ punct p.Semicolon line ∷ rest) free (no_name_next s line rest))
    ∙ ap (with_items (declared x type l ∷ [])) (more_binders_complete s turns (omega arith) line rest)
more_binders_complete (g.typed line' {first} {rest = others} s tail eq) zero le line rest = absurd (omega (arith, ap length eq))
more_binders_complete {types} {type} {xs} (g.typed line' {x} {first} {rest = others} {xs = bs} s tail eq) (suc turns) le line rest =
    let behind = others ++ punct p.Semicolon line ∷ rest in
    let split : xs ++ punct p.Semicolon line ∷ rest ≡ punct p.Comma line' ∷ (first ++ behind) =
    ap (λ l. l ++ punct p.Semicolon line ∷ rest) eq ∙ ap (λ l. punct p.Comma line' ∷ l) (append_assoc first others (punct p.Semicolon line ∷ rest)) in
    ap (more_binders types (suc turns) type) split
    ∙ more_binders_step types turns type line' (first ++ behind) x behind (typed_binder_reads types type first x s behind)
    ∙ ap (with_items (x ∷ [])) (more_binders_complete tail turns (omega (arith, ap length eq, length-append first others)) line rest)

pub binders_complete : {types : Names} {xs : List Token} {bs : List e.VarDecl} → SpellsBinders types xs bs → (line : ℕ) (rest : List Token)
    → binders_at types (xs ++ punct p.Semicolon line ∷ rest) ≡ Some (bs, punct p.Semicolon line ∷ rest)
unfolding binders_at
binders_complete {types} {xs} (g.binders {x} {first} {rest = others} {xs = bs} s tail eq) line rest =
    let behind = others ++ punct p.Semicolon line ∷ rest in
    let split : xs ++ punct p.Semicolon line ∷ rest ≡ first ++ behind = ap (λ l. l ++ punct p.Semicolon line ∷ rest) eq ∙ append_assoc first others (punct p.Semicolon line ∷ rest) in
    ap (binders_at types) split
    ∙ rw (typed_complete types first x s behind) (ap (with_items (x ∷ [])) (more_binders_complete tail (length behind) (omega (arith, length-append others (punct p.Semicolon line ∷ rest))) line rest))
