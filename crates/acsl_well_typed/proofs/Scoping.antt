-- The names that a quantifier binds, one after another.
use Rattle.std.proofs.Common.{◌≡◌, ℕ, zero, suc, ◌<◌, Bool, true, false, ◌||◌, if◌then◌else◌, List, [], ◌∷◌, ◌++◌, map, length, get_or, Option, Some, None, Ok, Err, slice_get, refl, ap, sym, ◌∙◌, arith, length-append}
use Rattle.std.specs.Str.{bytes_eq}
use Rattle.std.proofs.lemmas.Slice.Eq.{bytes_eq-Decides}
use Rattle.std.proofs.lemmas.Option.{slice_get-get_or}
use Rattle.c_syntax.specs.Expr as e
use Rattle.c_answers.specs.Answers.{Answer, after, unknown}
use Rattle.name_table.specs.Names.{meaning_among}
use Rattle.name_table.specs.Nesting.{meaning_in, declared_in}
use Rattle.name_table.proofs.Hiding.{hides, enters}
use Rattle.wp_base.specs.declared.kinds.Kind.{Kind}
use Rattle.typed_prog.specs.Types.{kind_of}
use Rattle.c_scopes.specs.declared.symbols.Resolved.{Resolved}
use Rattle.c_scopes.specs.declared.symbols.Symbol.{Symbol}
use Rattle.c_scopes.specs.declared.symbols.Symbol.TheVariants as symbol
use Rattle.typed_prog.specs.declared.operators.Variable.TheVariants as variable
use Rattle.acsl_guards.specs.declared.ranges.Guard.{Guard}
use Rattle.acsl_guards.specs.Mentions.{Names as Binders, names_of, is_among}
use Rattle.acsl_guards.specs.Chains.{stands_in, from_first}
use Rattle.acsl_guards.specs.Guarding.{Candidate, first_with, guard_for, is_integer}
use Rattle.c_syntax.specs.Term as t
use Rattle.acsl_trees.specs.declared.operands.TermType.{TermType}
use Rattle.acsl_trees.specs.declared.operands.TermType.TheVariants as type
use Rattle.acsl_rules.specs.Laws.{Holds}
use Rattle.acsl_names.specs.declared.names.Bound.{Bound}
use Rattle.acsl_names.specs.declared.names.Meaning.TheVariants as meaning
use Rattle.acsl_names.specs.Names.{Around, of_symbol, as_definition, as_symbol, as_local, as_bound, definition_of, meaning_at, type_named}
use Rattle.name_table.specs.Names.{meaning_of}
use Rattle.acsl_preds.specs.declared.binders.Over.{Over}
use Rattle.acsl_preds.specs.declared.binders.Over.TheVariants as over
use Rattle.acsl_preds.specs.Binders.{inside, with_bound, is_new, over_guard, over_named, over_kind, over_type, over_by, binder_over, binders}
use Rattle.acsl_well_typed.specs.WellTyped.{an_integer, Names, types_give}
use Rattle.acsl_well_typed.specs.Ranges.{AreNumbered}
use Rattle.acsl_well_typed.proofs.Answers.{after_holds, after_any, holds_all}
use Rattle.acsl_well_typed.proofs.Finding.{AreFine, type_at, neither}
use Rattle.acsl_well_typed.proofs.Truths.{types_more}

-- ---- one name more

same_bytes : (x y : List ℕ) → bytes_eq x y ≡ true → x ≡ y
same_bytes x y h = (bytes_eq-Decides x y).0 h

other_bytes : (x y : List ℕ) → bytes_eq x y ≡ false → x ≡ y → ⊥
other_bytes x y h e = let k : bytes_eq x y ≡ true = (bytes_eq-Decides x y).1 e in absurd cc

more_length : (ts : List TermType) (u : TermType) → length (ts ++ u ∷ []) ≡ suc (length ts)
more_length ts u = omega (arith, length-append ts (u ∷ []))

new_type : (ts : List TermType) (u : TermType) → slice_get (ts ++ u ∷ []) (length ts) ≡ Some u
new_type [] u = refl
new_type (t ∷ ts) u = new_type ts u

old_type : (ts us : List TermType) (i : ℕ) (u : TermType) → slice_get ts i ≡ Some u → slice_get (ts ++ us) i ≡ Some u
old_type [] us i u h = absurd cc
old_type (t ∷ ts) us zero u h = h
old_type (t ∷ ts) us (suc i) u h = old_type ts us i u h

some_same : {X : Type 0} (x y : X) → ◌≡◌ {A = Option X} (Some x) (Some y) → x ≡ y
some_same x y h = cc

pub more_numbered : (b : Bound) (x : List ℕ) (u : TermType) → AreNumbered b → is_new b x ≡ true → AreNumbered (with_bound b x u)
more_numbered b x u f new y i h = by_same (bytes_eq y x) refl
  where
    by_same : (q : Bool) → bytes_eq y x ≡ q → i < length (b.types ++ u ∷ [])
    by_same true e =
        let at : Some (length b.types) ≡ Some i = sym ((hides b.scopes x (length b.types)).new new)
        ∙ ap (λ z. meaning_in (declared_in b.scopes x (length b.types)) z) (sym (same_bytes y x e)) ∙ h in
        let is : length b.types ≡ i = some_same _ _ at in
        omega (arith, is, more_length b.types u)
    by_same false e =
        let old : i < length b.types = f y i (sym ((hides b.scopes x (length b.types)).others y (other_bytes y x e)) ∙ h) in
        omega (arith, old, more_length b.types u)

pub inside_numbered : (b : Bound) → AreNumbered b → AreNumbered (inside b)
inside_numbered b f x i h = f x i (sym ((enters b.scopes).same x) ∙ h)

-- ---- all binders

pub record AreAfter (b : Bound) (ds : List e.VarDecl) (b' : Bound) : Type 0 where
  pub others : (y : List ℕ) → is_among (names_of ds) y ≡ false → meaning_in b'.scopes y ≡ meaning_in b.scopes y
  pub found : (y : List ℕ) → is_among (names_of ds) y ≡ true → (i : ℕ) × (meaning_in b'.scopes y ≡ Some i) × (slice_get b'.types i ≡ Some type.Integer)
  pub types : (i : ℕ) (u : TermType) → slice_get b.types i ≡ Some u → slice_get b'.types i ≡ Some u

none_after : (b : Bound) → AreAfter b [] b
none_after b = record { others = λ y e. refl; found = λ y e. absurd cc; types = λ i u e. e }

one_after : (b b' : Bound) (d : e.VarDecl) (ds : List e.VarDecl) → is_new b d.name ≡ true → AreAfter (with_bound b d.name type.Integer) ds b'
    → AreAfter b (d ∷ ds) b'
one_after b b' d ds new rest = record { others = not_these; found = by_rest; types = λ i u h. rest.types i u (old_type b.types (type.Integer ∷ []) i u h) }
  where
    not_these : (y : List ℕ) → (bytes_eq y d.name || is_among (names_of ds) y) ≡ false → meaning_in b'.scopes y ≡ meaning_in b.scopes y
    not_these y e =
        let p : (bytes_eq y d.name ≡ false) × (is_among (names_of ds) y ≡ false) = neither _ _ e in
        rest.others y p.1 ∙ (hides b.scopes d.name (length b.types)).others y (other_bytes y d.name p.0)

    it_is : (y : List ℕ) → is_among (names_of ds) y ≡ false → y ≡ d.name → (i : ℕ) × (meaning_in b'.scopes y ≡ Some i) ×
        (slice_get b'.types i ≡ Some type.Integer)
    it_is y e is = (
      length b.types,
      rest.others y e ∙ ap (λ z. meaning_in (declared_in b.scopes d.name (length b.types)) z) is ∙ (hides b.scopes d.name (length b.types)).new new,
      rest.types (length b.types) type.Integer (new_type b.types type.Integer),
    )

    by_parts : (y : List ℕ) (p q : Bool) → bytes_eq y d.name ≡ p → is_among (names_of ds) y ≡ q → (p || q) ≡ true
        → (i : ℕ) × (meaning_in b'.scopes y ≡ Some i) × (slice_get b'.types i ≡ Some type.Integer)
    by_parts y p true e f h = rest.found y f
    by_parts y true false e f h = it_is y f (same_bytes y d.name e)
    by_parts y false false e f h = absurd cc

    by_rest : (y : List ℕ) → (bytes_eq y d.name || is_among (names_of ds) y) ≡ true
        → (i : ℕ) × (meaning_in b'.scopes y ≡ Some i) × (slice_get b'.types i ≡ Some type.Integer)
    by_rest y h = by_parts y (bytes_eq y d.name) (is_among (names_of ds) y) refl refl h

-- a binder over the range of a guard has this guard
abbrev pub IsOver : List Candidate → e.VarDecl → Over → Type 0
IsOver cs d (over.Kind k) = Unit {0}
IsOver cs d (over.Guarded g) = first_with d.name cs ≡ Some g

-- each binder, by what stands before it and behind all
abbrev pub AreTraced : List Candidate → Bound → Names → List e.VarDecl → List Over → Bound → Type 0
AreTraced cs b ns [] [] b' = Unit {0}
AreTraced cs b ns (d ∷ ds) (o ∷ os) b' =
    AreNumbered b × (types_give b.types ≡ Some ns) × AreAfter b (d ∷ ds) b' × IsOver cs d o × AreTraced cs (with_bound b d.name type.Integer)
    (ns ++ an_integer ∷ []) ds os b'
AreTraced cs b ns _ _ b' = ⊥

module _ (c : Around) (cs : List Candidate) where
  kind_is : (d : e.VarDecl) (line : ℕ) (o : Option Resolved) → Holds (IsOver cs d) (over_type line o)
  kind_is d line (Some r) = kind_by (kind_of r.ty)
    where
      kind_by : (o : Option Kind) → Holds (IsOver cs d) (over_kind line o)
      kind_by (Some k) = tt
      kind_by None = tt
  kind_is d line None = tt

  over_if : (d : e.VarDecl) (line : ℕ) (q : Bool) (g : Option Guard) → (q ≡ true → first_with d.name cs ≡ g)
      → Holds (IsOver cs d) (if q then over_guard line g else over_named c line d.ty)
  over_if d line true (Some g) first = first refl
  over_if d line true None first = tt
  over_if d line false g first = after_any (IsOver cs d) (type_named c line d.ty) _ (λ o. kind_is d line o)

  first_if : (d : e.VarDecl) (q : Bool) → is_integer d.ty ≡ q → q ≡ true → first_with d.name cs ≡ guard_for cs d
  first_if d q e h = sym (ap (λ q. if q then first_with d.name cs else None) (e ∙ h))

  over_is : (b : Bound) (d : e.VarDecl) (new : Bool) → is_new b d.name ≡ new
      → Holds (λ o. IsOver cs d o × (is_new b d.name ≡ true)) (if new then over_by c d.line d.ty (guard_for cs d) else unknown d.line)
  over_is b d true e =
      holds_all (IsOver cs d) (λ o. IsOver cs d o × (is_new b d.name ≡ true)) (over_by c d.line d.ty (guard_for cs d)) (λ o f. (f, e))
      (over_if d d.line (is_integer d.ty) (guard_for cs d) (first_if d (is_integer d.ty) refl))
  over_is b d false e = tt

  abbrev pub IsTraced : Bound → Names → List e.VarDecl → List Over × Bound → Type 0
  IsTraced b ns ds r = AreTraced cs b ns ds r.0 r.1 × AreAfter b ds r.1

  traced_by : (b : Bound) (ns : Names) (d : e.VarDecl) (ds : List e.VarDecl) (gs : List (Option Guard)) (o : Answer Over) → AreNumbered b
      → types_give b.types ≡ Some ns
      → Holds (λ o. IsOver cs d o × (is_new b d.name ≡ true)) o
      → (is_new b d.name ≡ true → Holds (IsTraced (with_bound b d.name type.Integer) (ns ++ an_integer ∷ []) ds)
      (binders c (with_bound b d.name type.Integer) ds gs))
      → Holds (IsTraced b ns (d ∷ ds)) (after {X = Over × Bound} (after o (λ o. Ok (o, with_bound b d.name type.Integer)))
      (λ o. after (binders c o.1 ds gs) (λ r. Ok (o.0 ∷ r.0, r.1))))
  traced_by b ns d ds gs (Ok o) numbered scope f rest =
      after_holds (IsTraced (with_bound b d.name type.Integer) (ns ++ an_integer ∷ []) ds) (IsTraced b ns (d ∷ ds))
      (binders c (with_bound b d.name type.Integer) ds gs) _ (rest f.1)
      (λ r h. ((numbered, scope, one_after b r.1 d ds f.1 h.1, f.0, h.0), one_after b r.1 d ds f.1 h.1))
  traced_by b ns d ds gs (Err r) numbered scope f rest = tt

  pub traced : (b : Bound) (ns : Names) (ds : List e.VarDecl) → AreNumbered b → types_give b.types ≡ Some ns
      → Holds (IsTraced b ns ds) (binders c b ds (map (guard_for cs) ds))
  traced b ns [] numbered scope = (tt, none_after b)
  traced b ns (d ∷ ds) numbered scope =
      traced_by b ns d ds (map (guard_for cs) ds) (binder_over c b d (guard_for cs d)) numbered scope (over_is b d _ refl)
      (λ new. traced (with_bound b d.name type.Integer) (ns ++ an_integer ∷ []) ds (more_numbered b d.name type.Integer numbered new)
      (types_more b.types ns type.Integer an_integer scope refl))

abbrev pub Numbered : List Over × Bound → Type 0
Numbered r = AreNumbered r.1

numbered_by : (c : Around) (b : Bound) (d : e.VarDecl) (ds : List e.VarDecl) (gs : List (Option Guard)) (g : Option Guard) (new : Bool) → is_new b d.name ≡ new
    → (is_new b d.name ≡ true → Holds Numbered (binders c (with_bound b d.name type.Integer) ds gs))
    → Holds Numbered (after {X = Over × Bound} (after (if new then over_by c d.line d.ty g else unknown d.line) (λ o. Ok (o, with_bound b d.name type.Integer)))
    (λ o. after (binders c o.1 ds gs) (λ r. Ok (o.0 ∷ r.0, r.1))))
numbered_by c b d ds gs g false is rest = tt
numbered_by c b d ds gs g true is rest = by_over (over_by c d.line d.ty g) (rest is)
  where
    by_over : (o : Answer Over) → Holds Numbered (binders c (with_bound b d.name type.Integer) ds gs)
        → Holds Numbered (after {X = Over × Bound} (after o (λ o. Ok (o, with_bound b d.name type.Integer)))
        (λ o. after (binders c o.1 ds gs) (λ r. Ok (o.0 ∷ r.0, r.1))))
    by_over (Ok o) f = after_holds Numbered Numbered (binders c (with_bound b d.name type.Integer) ds gs) _ f (λ r f. f)
    by_over (Err r) f = tt

-- whatever the guards are
pub all_numbered : (c : Around) (b : Bound) (ds : List e.VarDecl) (gs : List (Option Guard)) → AreNumbered b → Holds Numbered (binders c b ds gs)
all_numbered c b [] [] f = f
all_numbered c b [] (g ∷ gs) f = f
all_numbered c b (d ∷ ds) [] f = f
all_numbered c b (d ∷ ds) (g ∷ gs) f = numbered_by c b d ds gs g _ refl (λ new. all_numbered c (with_bound b d.name type.Integer) ds gs
    (more_numbered b d.name type.Integer f new))

-- ---- what names mean behind all binders

no_symbol : (s : Symbol) (i : ℕ) → of_symbol s ≡ meaning.Bound i → ⊥
no_symbol (symbol.Object (variable.Global n)) i h = absurd cc
no_symbol (symbol.Object (variable.Local n)) i h = absurd cc
no_symbol (symbol.Function n) i h = absurd cc
no_symbol (symbol.Enumerator z) i h = absurd cc
no_symbol (symbol.Typedef n) i h = absurd cc

no_outside : (o : Option ℕ) (s : Option Symbol) (d : Option ℕ) (i : ℕ) → as_local o (as_symbol s (as_definition d)) ≡ meaning.Bound i → ⊥
no_outside (Some n) s d i h = absurd cc
no_outside None (Some s) d i h = no_symbol s i h
no_outside None None (Some n) i h = absurd cc
no_outside None None None i h = absurd cc

bound_by : (o p : Option ℕ) (s : Option Symbol) (d : Option ℕ) (i : ℕ) → as_bound o (as_local p (as_symbol s (as_definition d))) ≡ meaning.Bound i → o ≡ Some i
bound_by (Some n) p s d i h = cc
bound_by None p s d i h = absurd (no_outside p s d i h)

pub bound_at : (c : Around) (b : Bound) (x : List ℕ) (i : ℕ) → meaning_at c b x ≡ meaning.Bound i → meaning_in b.scopes x ≡ Some i
unfolding meaning_at
bound_at c b x i h = bound_by (meaning_in b.scopes x) (meaning_in c.blocks x) (meaning_among c.names c.file.names x) (meaning_of c.definitions.names x) i h

pub is_bound : (c : Around) (b : Bound) (x : List ℕ) (i : ℕ) → meaning_in b.scopes x ≡ Some i → meaning_at c b x ≡ meaning.Bound i
unfolding meaning_at
is_bound c b x i h = ap (λ o. as_bound o (as_local (meaning_in c.blocks x)
    (as_symbol (meaning_among c.names c.file.names x) (definition_of c.definitions x)))) h

-- all names are fine by those before the binders, but these
pub rest_fine : (c : Around) (b b' : Bound) (ns : Names) (ds : List e.VarDecl) (zs : Binders) → AreNumbered b → types_give b.types ≡ Some ns → AreAfter b ds b'
    → ((x : List ℕ) → is_among zs x ≡ false → is_among (names_of ds) x ≡ false) → AreFine c b' ns zs
rest_fine c b b' ns ds zs numbered scope behind go x free i u is found =
    let e : meaning_in b.scopes x ≡ Some i = sym (behind.others x (go x free)) ∙ bound_at c b' x i is in
    let at : slice_get b.types i ≡ Some (get_or b.types i type.Integer) = slice_get-get_or b.types i type.Integer (numbered x i e) in
    let same : get_or b.types i type.Integer ≡ u = some_same _ _ (sym (behind.types i (get_or b.types i type.Integer) at) ∙ found) in
    type_at b.types ns i u scope (at ∙ ap (λ u. Some u) same)

-- ---- the binders from the first one on that stands between the ends

either_false : (a b : Bool) → (a || b) ≡ false → b ≡ false
either_false a b e = (neither a b e).1

suffix_free : (before after : Binders) (x : List ℕ) → is_among (before ++ after) x ≡ false → is_among after x ≡ false
suffix_free [] after x e = e
suffix_free (z ∷ before) after x e = suffix_free before after x (either_false _ _ e)

pub behind_first : (ts : List t.Term) (before : Binders) (d : List ℕ) (after : Binders) (x : List ℕ) → stands_in d ts ≡ true
    → is_among (from_first ts (before ++ d ∷ after)) x ≡ false
    → is_among (d ∷ after) x ≡ false
behind_first ts [] d after x stands e = ap (λ b. is_among (if b then d ∷ after else from_first ts after) x) (sym stands) ∙ e
behind_first ts (z ∷ before) d after x stands e = by_first (stands_in z ts) (λ e. behind_first ts before d after x stands e) e
  where
    by_first : (b : Bool) → (is_among (from_first ts (before ++ d ∷ after)) x ≡ false → is_among (d ∷ after) x ≡ false)
        → is_among (if b then z ∷ before ++ d ∷ after else from_first ts (before ++ d ∷ after)) x ≡ false → is_among (d ∷ after) x ≡ false
    by_first true go e = suffix_free (z ∷ before) (d ∷ after) x e
    by_first false go e = go e
