-- The ends of a quantifier's ranges are well formed under the binders before: a guard's ends hold no binder from the first on that stands between them.
use Rattle.std.proofs.Common.{◌≡◌, ℕ, suc, ◌+◌, ◌<◌, Bool, true, false, ◌&&◌, ◌==◌, nat_le, if◌then◌else◌, List, [], ◌∷◌, ◌++◌, map, length, Option, Some, None, Ok, Err, slice_get, arith, refl, ap, sym, ◌∙◌, subst, inl, inr, ◌⊎◌}
use Rattle.std.specs.List.{list_all}
use Rattle.std.specs.Str.{bytes_eq}
use Rattle.std.proofs.lemmas.Bool.{and_parts, ltb-true}
use Rattle.wp_base.specs.declared.kinds.Kind.{Kind}
use Rattle.c_syntax.specs.declared.expr.BinOp.{BinOp}
use Rattle.c_syntax.specs.Expr as e
use Rattle.c_syntax.specs.Term as t
use Rattle.c_syntax.specs.Pred as p
use Rattle.c_answers.specs.Answers.{Answer, after, unknown}
use Rattle.typed_prog.specs.declared.operators.Variable.TheVariants as variable
use Rattle.typed_prog.specs.Types.{kind_of}
use Rattle.name_table.specs.Names.{meaning_of, meaning_among}
use Rattle.name_table.specs.Nesting.{meaning_in}
use Rattle.name_table.proofs.Hiding.{hides}
use Rattle.c_scopes.specs.declared.symbols.Symbol.{Symbol}
use Rattle.c_scopes.specs.declared.symbols.Symbol.TheVariants as symbol
use Rattle.c_scopes.specs.declared.symbols.Resolved.{Resolved}
use Rattle.acsl_guards.specs.declared.ranges.Guard.{Guard}
use Rattle.acsl_guards.specs.Mentions.{Names, names_of, is_among, is_one_of}
use Rattle.acsl_guards.specs.Chains.{between, stands_in, from_first, ends_free, one_way, has_form, is_guard}
use Rattle.acsl_guards.specs.Guarding.{Candidate, is_integer, candidates, first_with, guard_for, guard_of, guards, guarding}
use Rattle.acsl_trees.specs.declared.operands.TermType.TheVariants as type
use Rattle.acsl_trees.specs.Tree.{Tree}
use Rattle.acsl_rules.specs.Laws.{Holds}
use Rattle.acsl_names.specs.declared.names.Bound.{Bound}
use Rattle.acsl_names.specs.declared.names.Meaning.TheVariants as meaning
use Rattle.acsl_names.specs.Names.{Around, of_symbol, as_definition, as_symbol, as_local, as_bound, meaning_at, type_named}
use Rattle.acsl_preds.specs.declared.binders.Over.{Over}
use Rattle.acsl_preds.specs.declared.binders.Over.TheVariants as over
use Rattle.acsl_preds.specs.Binders.{inside, with_bound, is_new, over_kind, over_type, over_guard, over_named, over_by, binder_over, binders}
use Rattle.acsl_preds.specs.Preds.{chain_typed, typed_pred}
use Rattle.acsl_preds.specs.Ranges.{or_truth, low_of, high_of}
use Rattle.c_runs.specs.TruthLaws.{Signatures}
use Rattle.acsl_same_meaning.specs.Trees.{Signed, MayLabel}
use Rattle.acsl_well_typed.specs.Ranges.{AreNumbered}
use Rattle.acsl_same_meaning.proofs.Answers.{after_holds, after_any, holds_both, Of, answered}
use Rattle.acsl_same_meaning.proofs.Operators.{Good}
use Rattle.acsl_same_meaning.proofs.Terms.{AreFine, neither}
use Rattle.acsl_same_meaning.proofs.Scoping.{other_bytes, more_length, more_numbered, inside_numbered, some_same}
use Rattle.acsl_same_meaning.proofs.Quantifiers.{ranging, EndsFit, AllEndsFit}
use Rattle.acsl_same_meaning.proofs.Ends.{EndsGood, guard_ends}
use Rattle.acsl_same_meaning.proofs.Conjuncts.{Placed, IsTyped, IsPlaced, guarding_is}
use Rattle.acsl_same_meaning.proofs.Truths.{binder_is}
use Rattle.acsl_same_meaning.proofs.Bodies.{AllStand}

-- ---- which conjunct a guard is

-- among these conjuncts, of which the first has this number
pub record IsFound (bs : Names) (x : List ℕ) (first : ℕ) (cs : List p.Pred) (g : Guard) : Type 0 where
  pub place : ℕ
  pub line : ℕ
  pub terms : List t.Term
  pub ops : List BinOp
  pub number : g.conjunct ≡ first + place
  pub is : slice_get cs place ≡ Some (p.chain line terms ops)
  pub guards : is_guard bs terms ops ≡ true
  pub stands : stands_in x (between terms) ≡ true

one_behind : (bs : Names) (x : List ℕ) (k : ℕ) (c : p.Pred) (cs : List p.Pred) (g : Guard) → IsFound bs x (k + 1) cs g → IsFound bs x k (c ∷ cs) g
one_behind bs x k c cs g f = record {
  place = suc f.place;
  line = f.line;
  terms = f.terms;
  ops = f.ops;
  number = let is : g.conjunct ≡ (k + 1) + f.place = f.number in omega (arith, is);
  is = f.is;
  guards = f.guards;
  stands = f.stands;
}

module _ (bs : Names) (x : List ℕ) where
  standing : (k line : ℕ) (ts : List t.Term) (os : List BinOp) (cs : List p.Pred) (g : Guard) (w : Bool) → is_guard bs ts os ≡ true
      → stands_in x (between ts) ≡ w
      → (first_with x (candidates bs (k + 1) cs) ≡ Some g → IsFound bs x (k + 1) cs g)
      → (if w then Some (guard_of k ts os) else first_with x (candidates bs (k + 1) cs)) ≡ Some g → IsFound bs x k (p.chain line ts os ∷ cs) g
  standing k line ts os cs g true guard stands rest h =
      let same : guard_of k ts os ≡ g = some_same _ _ h in
      let number : k ≡ k + 0 = omega arith in
      record { place = 0; line = line; terms = ts; ops = os; number = ap (λ g. g.conjunct) (sym same) ∙ number; is = refl; guards = guard; stands = stands }
  standing k line ts os cs g false guard stands rest h = one_behind bs x k (p.chain line ts os) cs g (rest h)

  guarded : (k line : ℕ) (ts : List t.Term) (os : List BinOp) (cs : List p.Pred) (g : Guard) (z : Bool) → is_guard bs ts os ≡ z
      → (first_with x (candidates bs (k + 1) cs) ≡ Some g → IsFound bs x (k + 1) cs g)
      → first_with x ((if z then (guard_of k ts os, between ts) ∷ [] else []) ++ candidates bs (k + 1) cs) ≡ Some g → IsFound bs x k (p.chain line ts os ∷ cs) g
  guarded k line ts os cs g true guard rest h = standing k line ts os cs g (stands_in x (between ts)) guard refl rest h
  guarded k line ts os cs g false guard rest h = one_behind bs x k (p.chain line ts os) cs g (rest h)

  found : (k : ℕ) (cs : List p.Pred) (g : Guard) → first_with x (candidates bs k cs) ≡ Some g → IsFound bs x k cs g
  found k [] g h = absurd cc
  found k (p.chain line ts os ∷ cs) g h = guarded k line ts os cs g (is_guard bs ts os) refl (λ h. found (k + 1) cs g h) h
  found k (c ∷ cs) g h = one_behind bs x k c cs g (found (k + 1) cs g h)

-- ---- names

no_symbol : (y : Symbol) (i : ℕ) → of_symbol y ≡ meaning.Bound i → ⊥
no_symbol (symbol.Object (variable.Global n)) i h = cc
no_symbol (symbol.Object (variable.Local n)) i h = cc
no_symbol (symbol.Function n) i h = cc
no_symbol (symbol.Enumerator z) i h = cc
no_symbol (symbol.Typedef n) i h = cc

bound_is : (o q w : Option ℕ) (y : Option Symbol) (i : ℕ) → as_bound o (as_local q (as_symbol y (as_definition w))) ≡ meaning.Bound i → o ≡ Some i
bound_is (Some n) q w y i h = let same : n ≡ i = cc in ap (λ n. Some n) same
bound_is None (Some n) w y i h = absurd cc
bound_is None None w (Some y) i h = absurd (no_symbol y i h)
bound_is None None (Some n) None i h = absurd cc
bound_is None None None None i h = absurd cc

by_scopes : (c : Around) (b : Bound) (x : List ℕ) (i : ℕ) → meaning_at c b x ≡ meaning.Bound i → meaning_in b.scopes x ≡ Some i
unfolding meaning_at
by_scopes c b x i h =
    bound_is (meaning_in b.scopes x) (meaning_in c.blocks x) (meaning_of c.definitions.names x) (meaning_among c.names c.file.names x) i h

-- all names but these are as they were
abbrev pub Others : Bound → List e.VarDecl → Bound → Type 0
Others b ds b' = (y : List ℕ) → is_among (names_of ds) y ≡ false → meaning_in b'.scopes y ≡ meaning_in b.scopes y

one_other : (b b' : Bound) (d : e.VarDecl) (ds : List e.VarDecl) → Others (with_bound b d.name type.Integer) ds b' → Others b (d ∷ ds) b'
one_other b b' d ds rest y no_one =
    let q : (bytes_eq y d.name ≡ false) × (is_among (names_of ds) y ≡ false) = neither _ _ no_one in
    rest y q.1 ∙ (hides b.scopes d.name (length b.types)).others y (other_bytes y d.name q.0)

-- so they have numbers below those of these
others_fine : (c : Around) (b b' : Bound) (ds : List e.VarDecl) → AreNumbered b → Others b ds b' → AreFine c b' (length b.types) (names_of ds)
others_fine c b b' ds are others x free i u is at =
    let lt : i < length b.types = are x i (sym (others x free) ∙ by_scopes c b' x i is) in grind (arith, lt)

fine_more : (c : Around) (b : Bound) (d k : ℕ) (xs : Names) → k ≡ suc d → AreFine c b d xs → AreFine c b k xs
fine_more c b d k xs is fine x free i u m at = let lt : i < d = ltb-true i d (fine x free i u m at) in grind (arith, lt, is)

-- ---- binders

-- a binder over the range of a guard has this guard
abbrev pub IsOver : Option Guard → Over → Type 0
IsOver g (over.Kind k) = Unit {0}
IsOver g (over.Guarded z) = g ≡ Some z

over_kind_is : (g : Option Guard) (line : ℕ) (k : Option Kind) → Holds (IsOver g) (over_kind line k)
over_kind_is g line (Some k) = tt
over_kind_is g line None = tt

over_type_is : (g : Option Guard) (line : ℕ) (r : Option Resolved) → Holds (IsOver g) (over_type line r)
over_type_is g line (Some r) = over_kind_is g line (kind_of r.ty)
over_type_is g line None = tt

over_guard_is : (g : Option Guard) (line : ℕ) → Holds (IsOver g) (over_guard line g)
over_guard_is (Some z) line = refl
over_guard_is None line = tt

over_if : (c : Around) (line : ℕ) (ty : e.CType) (g : Option Guard) (b : Bool) → Holds (IsOver g) (if b then over_guard line g else over_named c line ty)
over_if c line ty g true = over_guard_is g line
over_if c line ty g false = after_any (IsOver g) (type_named c line ty) _ (λ r. over_type_is g line r)

over_is : (c : Around) (b : Bound) (d : e.VarDecl) (g : Option Guard) → Holds (IsOver g) (binder_over c b d g)
over_is c b d g = by_new (is_new b d.name)
  where
    by_new : (new : Bool) → Holds (IsOver g) (if new then over_by c d.line d.ty g else unknown d.line)
    by_new true = over_if c d.line d.ty g (is_integer d.ty)
    by_new false = tt

guard_is : (cs : List Candidate) (d : e.VarDecl) (z : Guard) → guard_for cs d ≡ Some z → first_with d.name cs ≡ Some z
guard_is cs d z h = by_type (is_integer d.ty) (first_with d.name cs) h
  where
    by_type : (b : Bool) (o : Option Guard) → (if b then o else None) ≡ Some z → o ≡ Some z
    by_type true o h = h
    by_type false o h = absurd cc

module _ (l : Bool) (s : Signatures) (c : Around) (sig : Signed s c.definitions.items) (lab : MayLabel l c.site) (b' : Bound) (bs : Names) (cs : List p.Pred)
    (vs : List Tree)
    (at : Placed c b' cs vs) where
  abbrev among : List Candidate
  among = candidates bs 0 cs

  -- under so many names the ends of a chain are well formed that these terms make
  abbrev Fine : ℕ → List t.Term → Type 0
  Fine d terms = AreFine c b' d (from_first (between terms) bs)

  low_by : (d : ℕ) (falls : Bool) (v : Tree) → EndsGood l s d v → Good l true s d (low_of falls v) × Good l true s d (high_of falls v)
  low_by d true v f = (f.1, f.0)
  low_by d false v f = f

  ends_fit : (d : ℕ) (x : List ℕ) (z : Guard) → first_with x among ≡ Some z → ((terms : List t.Term) → stands_in x (between terms) ≡ true → Fine d terms)
      → EndsFit l s d vs (over.Guarded z)
  ends_fit d x z h fine =
      let f : IsFound bs x 0 cs z = found bs x 0 cs z h in
      let q : (v : Tree) × (slice_get vs f.place ≡ Some v) × IsTyped c b' (p.chain f.line f.terms f.ops) v = at f.place (p.chain f.line f.terms f.ops) f.is in
      let g : (has_form bs f.terms f.ops ≡ true) × (ends_free (from_first (between f.terms) bs) f.terms ≡ true) =
      and_parts (has_form bs f.terms f.ops) (ends_free (from_first (between f.terms) bs) f.terms) f.guards in
      let long : nat_le 3 (length f.terms) ≡ true =
      (and_parts (nat_le 3 (length f.terms)) ((length f.terms == suc (length f.ops)) &&
      (one_way f.ops && list_all (is_one_of bs) (between f.terms))) g.0).0 in
      let ends : EndsGood l s d q.0 =
      answered (Of (EndsGood l s d)) (chain_typed c b' q.2.0 q.2.1 f.line f.terms f.ops) (q.0, q.2.2) q.2.3
      (guard_ends l s d c b' sig lab (from_first (between f.terms) bs) (fine f.terms f.stands) q.2.0 q.2.1 f.line f.terms f.ops long g.1) in
      let same : z.conjunct ≡ f.place = omega (arith, f.number) in
      subst (λ o. Good l true s d (low_of z.descending (or_truth o)) × Good l true s d (high_of z.descending (or_truth o)))
      (sym (ap (slice_get vs) same ∙ q.1)) (low_by d z.descending q.0 ends)

  -- None of the binders before stands between these terms, or the terms are fine already.
  abbrev State : ℕ → List e.VarDecl → Type 0
  State d ds = (terms : List t.Term) → (from_first (between terms) bs ≡ from_first (between terms) (names_of ds)) ⊎ Fine d terms

  first_one : (x : List ℕ) (xs : Names) (ts : List t.Term) (z : Bool) → stands_in x ts ≡ z → from_first ts (x ∷ xs) ≡ (if z then x ∷ xs else from_first ts xs)
  first_one x xs ts z is = ap (λ z. if z then x ∷ xs else from_first ts xs) is

  -- where the binder stands, the terms are fine
  stands_fine : (d : ℕ) (x : e.VarDecl) (ds : List e.VarDecl) → State d (x ∷ ds) → AreFine c b' d (names_of (x ∷ ds)) → (terms : List t.Term)
      → stands_in x.name (between terms) ≡ true → Fine d terms
  stands_fine d x ds st fine terms is = by_state (st terms)
    where
      by_state : (from_first (between terms) bs ≡ from_first (between terms) (names_of (x ∷ ds))) ⊎ Fine d terms → Fine d terms
      by_state (inl e) = subst (AreFine c b' d) (sym (e ∙ first_one x.name (names_of ds) (between terms) true is)) fine
      by_state (inr f) = f

  next_state : (d k : ℕ) (x : e.VarDecl) (ds : List e.VarDecl) → k ≡ suc d → State d (x ∷ ds) → AreFine c b' d (names_of (x ∷ ds)) → State k ds
  next_state d k x ds is st fine terms = by_stands (stands_in x.name (between terms)) refl
    where
      by_state : stands_in x.name (between terms) ≡ false → (from_first (between terms) bs ≡ from_first (between terms) (names_of (x ∷ ds))) ⊎ Fine d terms
          → (from_first (between terms) bs ≡ from_first (between terms) (names_of ds)) ⊎ Fine k terms
      by_state not_here (inl e) = inl (e ∙ first_one x.name (names_of ds) (between terms) false not_here)
      by_state not_here (inr f) = inr (fine_more c b' d k (from_first (between terms) bs) is f)

      by_stands : (z : Bool) → stands_in x.name (between terms) ≡ z → (from_first (between terms) bs ≡ from_first (between terms) (names_of ds)) ⊎ Fine k terms
      by_stands true here = inr (fine_more c b' d k (from_first (between terms) bs) is (stands_fine d x ds st fine terms here))
      by_stands false here = by_state here (st terms)

  -- ---- all binders

  abbrev Bind : Bound → List e.VarDecl → List Over × Bound → Type 0
  Bind b ds r = Others b ds r.1 × (r.1 ≡ b' → State (length b.types) ds → AllEndsFit l s (length b.types) vs r.0)

  over_fits : (d : ℕ) (x : e.VarDecl) (g : Option Guard) (o : Over) → g ≡ guard_for among x → IsOver g o
      → ((terms : List t.Term) → stands_in x.name (between terms) ≡ true → Fine d terms)
      → EndsFit l s d vs o
  over_fits d x g (over.Kind k) is has fine = tt
  over_fits d x g (over.Guarded z) is has fine = ends_fit d x.name z (guard_is among x z (sym is ∙ has)) fine

  bind_one : (b : Bound) (x : e.VarDecl) (ds : List e.VarDecl) (g : Option Guard) (gs : List (Option Guard)) (o : Answer Over) → AreNumbered b
      → g ≡ guard_for among x
      → Holds (λ v. (is_new b x.name ≡ true) × IsOver g v) o
      → (is_new b x.name ≡ true → Holds (Bind (with_bound b x.name type.Integer) ds) (binders c (with_bound b x.name type.Integer) ds gs))
      → Holds (Bind b (x ∷ ds)) (after {X = Over × Bound} (after o (λ o. Ok (o, with_bound b x.name type.Integer)))
      (λ o. after (binders c o.1 ds gs) (λ r. Ok (o.0 ∷ r.0, r.1))))
  bind_one b x ds g gs (Err r) are is has rest = tt
  bind_one b x ds g gs (Ok v) are is has rest =
      after_holds (Bind (with_bound b x.name type.Integer) ds) (Bind b (x ∷ ds)) (binders c (with_bound b x.name type.Integer) ds gs) _ (rest has.0) one
    where
      one : (r : List Over × Bound) → Bind (with_bound b x.name type.Integer) ds r → Bind b (x ∷ ds) (v ∷ r.0, r.1)
      one r f = (others, ends)
        where
          others : Others b (x ∷ ds) r.1
          others = one_other b r.1 x ds f.0

          ends : r.1 ≡ b' → State (length b.types) (x ∷ ds) → AllEndsFit l s (length b.types) vs (v ∷ r.0)
          ends same st =
              let fine : AreFine c b' (length b.types) (names_of (x ∷ ds)) = others_fine c b b' (x ∷ ds) are (subst (Others b (x ∷ ds)) same others) in (
                over_fits (length b.types) x g v is has.1 (stands_fine (length b.types) x ds st fine),
                subst (λ k. AllEndsFit l s k vs r.0) (more_length b.types type.Integer)
                    (f.1 same (next_state (length b.types) (length (b.types ++ type.Integer ∷ [])) x ds (more_length b.types type.Integer) st fine)),
              )

  bind_all : (b : Bound) (ds : List e.VarDecl) (gs : List (Option Guard)) → gs ≡ map (guard_for among) ds → AreNumbered b
      → Holds (Bind b ds) (binders c b ds gs)
  bind_all b [] [] is are = ((λ y e. refl), (λ e st. tt))
  bind_all b [] (g ∷ gs) is are = ((λ y e. refl), (λ e st. tt))
  bind_all b (x ∷ ds) [] is are = absurd cc
  bind_all b (x ∷ ds) (g ∷ gs) is are =
      let first : g ≡ guard_for among x = cc in
      let others : gs ≡ map (guard_for among) ds = cc in
      bind_one b x ds g gs (binder_over c b x g) are first
      (holds_both (λ v. is_new b x.name ≡ true) (IsOver g) (binder_over c b x g) (binder_is l s c sig lab b x g) (over_is c b x g))
      (λ new. bind_all (with_bound b x.name type.Integer) ds gs others (more_numbered b x.name type.Integer are new))

pub all_stand : AllStand
all_stand l s c sig lab b r n a ds body o v are binds each bound made =
    let at : Placed c o.1 (guarding a body) (ranging a v.0) = answered (IsPlaced c a o.1 body) (typed_pred c o.1 r n body) v made
    (guarding_is c a o.1 r n body each) in
    (answered (Bind l s c sig lab o.1 (names_of ds) (guarding a body) (ranging a v.0) at (inside b) ds) (binders c (inside b) ds (guards a ds body)) o bound
    (bind_all l s c sig lab o.1 (names_of ds) (guarding a body) (ranging a v.0) at (inside b) ds (guards a ds body) refl (inside_numbered b are))).1 refl
    (λ terms. inl refl)
