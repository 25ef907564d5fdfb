-- The conjuncts of a typed predicate are those of the predicate, typed.
use Rattle.std.proofs.Common.{◌≡◌, ℕ, zero, suc, Bool, true, false, if◌then◌else◌, List, [], ◌∷◌, ◌++◌, length, Option, Some, None, Ok, slice_get, refl, ap, sym, subst, append-nil}
use Rattle.c_syntax.specs.declared.expr.BinOp.{BinOp}
use Rattle.c_syntax.specs.Term as t
use Rattle.c_syntax.specs.Expr as e
use Rattle.c_syntax.specs.Pred as p
use Rattle.c_answers.specs.Answers.{after}
use Rattle.acsl_guards.specs.Guarding.{guards, conjuncts as conjuncts_spelled, guarding}
use Rattle.acsl_trees.specs.declared.heads.BinderPlace.{BinderPlace}
use Rattle.acsl_trees.specs.declared.heads.Head.{Head}
use Rattle.acsl_trees.specs.declared.heads.Head.TheVariants as head
use Rattle.acsl_trees.specs.declared.heads.Label.{Label}
use Rattle.acsl_trees.specs.Tree.{Tree, node, Trees, two}
use Rattle.acsl_trees.specs.Operands.{Operand}
use Rattle.acsl_rules.specs.Chains.{onto, all_valued, links, chained, chain, with_nulls}
use Rattle.acsl_rules.specs.Laws.{Holds}
use Rattle.acsl_names.specs.declared.names.Bound.{Bound}
use Rattle.acsl_names.specs.declared.names.Reading.{Reading}
use Rattle.acsl_names.specs.declared.counting.Limit.{Limit}
use Rattle.acsl_names.specs.declared.counting.Count.{Count}
use Rattle.acsl_names.specs.Names.{Around}
use Rattle.acsl_names.specs.Labels.{old_at, under_if}
use Rattle.acsl_names.specs.Counting.{with_node}
use Rattle.acsl_terms.specs.Calls.{called_at}
use Rattle.acsl_terms.specs.Terms.{typed}
use Rattle.acsl_places.specs.Places.{Aim, aimed, all_aimed, region_of, region_trees, valid_at, separated_at, valid_typed, separated_typed}
use Rattle.acsl_preds.specs.declared.binders.Over.{Over}
use Rattle.acsl_preds.specs.declared.binders.Over.TheVariants as over
use Rattle.acsl_preds.specs.Binders.{inside, with_bound, one_binder, binders}
use Rattle.acsl_preds.specs.Ranges.{is_and, conjuncts, conjuncts_in, over_one, over_all, is_implication, sides_of, every_sides, head_of, quantified, kids_of}
use Rattle.acsl_preds.specs.Preds.{all_typed, onto as behind_those, chain_typed, let_value, let_tree, labelled, number, binders_typed, place_at, typed_pred}
use Rattle.acsl_well_typed.specs.WellTyped.{Names, types_give}
use Rattle.acsl_well_typed.specs.Terms.{HaveTypes}
use Rattle.acsl_well_typed.specs.Ranges.{BindsOne, EachBinds}
use Rattle.acsl_well_typed.proofs.Answers.{after_holds, after_any, holds_all, holds_both, holds_known, holds_every, ended_holds, closed_holds, Of}
use Rattle.acsl_well_typed.proofs.Finding.{all_fine}
use Rattle.acsl_well_typed.proofs.Terms.{IsMadeOf}
use Rattle.acsl_well_typed.proofs.Truths.{call_made}
use Rattle.acsl_well_typed.proofs.Quantifiers.{ranging}

-- ---- what is no `&&`

abbrev pub NotAnd : Tree → Type 0
NotAnd t = is_and (head_of t) ≡ false

alone_by : (h : Head) (kids : Trees) → is_and h ≡ false → conjuncts (node h kids) ≡ node h kids ∷ []
alone_by h kids e = ap (λ b. if b then conjuncts_in kids else node h kids ∷ []) e

alone : (t : Tree) → NotAnd t → conjuncts t ≡ t ∷ []
alone (node h kids) e = alone_by h kids e

chained_not : (line : ℕ) (os : List BinOp) (vs : List Operand) → Holds NotAnd (chained line os vs)
chained_not line os [] = refl
chained_not line os (v ∷ vs) = after_any NotAnd (onto (v.tree ∷ []) (links line v.sort os vs)) _ (λ ts. refl)

chain_not : (line : ℕ) (xs : List Operand) (os : List BinOp) → Holds NotAnd (chain line xs os)
unfolding chain
chain_not line xs os = after_any NotAnd (all_valued line xs) _ (λ vs. chained_not line os (with_nulls os vs))

valid_not : (line : ℕ) (writable : Bool) (x : Aim) → Holds NotAnd (valid_at line writable x)
unfolding valid_at
valid_not line writable x = after_any NotAnd (region_of line x) _ (λ q. refl)

separated_not : (line : ℕ) (xs : List Aim) → Holds NotAnd (separated_at line xs)
unfolding separated_at
separated_not line xs = after_any NotAnd (region_trees line xs) _ (λ ts. refl)

labelled_not : (line : ℕ) (o : Option Label) (u : Tree) → Holds NotAnd (labelled line o u)
labelled_not line (Some x) u = refl
labelled_not line None u = tt

let_not : (line : ℕ) (has : Bool) (v u : Tree) → Holds NotAnd (let_tree line has v u)
let_not line true v u = refl
let_not line false v u = tt

over_not : (place : BinderPlace) (a : Bool) (cs : List Tree) (o : Over) (u : Tree) → NotAnd (over_one place a cs o u)
over_not place true cs (over.Kind q) u = refl
over_not place false cs (over.Kind q) u = refl
over_not place true cs (over.Guarded z) u = refl
over_not place false cs (over.Guarded z) u = refl

abbrev pub HasOne : List Over → Type 0
HasOne [] = ⊥
HasOne (o ∷ os) = Unit {0}

all_not : (place : BinderPlace) (a : Bool) (cs : List Tree) (os : List Over) (u : Tree) → HasOne os → NotAnd (over_all place a cs os u)
all_not place a cs [] u has = absurd has
all_not place a cs (o ∷ os) u has = over_not place a cs o (over_all place a cs os u)

sides_not : (place : BinderPlace) (os : List Over) (u : Tree) (q : Option (Tree × Tree)) → HasOne os → NotAnd (every_sides place os u q)
sides_not place os u (Some q) has = all_not place true (conjuncts q.0) os _ has
sides_not place os u None has = all_not place true [] os u has

every_not : (place : BinderPlace) (os : List Over) (u : Tree) (b : Bool) → HasOne os → NotAnd (if b then every_sides place os u (sides_of (kids_of u)) else over_all place true [] os u)
every_not place os u true has = sides_not place os u (sides_of (kids_of u)) has
every_not place os u false has = all_not place true [] os u has

quantified_not : (place : BinderPlace) (a : Bool) (os : List Over) (u : Tree) → HasOne os → NotAnd (quantified place a os u)
unfolding quantified
quantified_not place true os u has = every_not place os u (is_implication (head_of u)) has
quantified_not place false os u has = all_not place false (conjuncts u) os _ has

-- ---- conjuncts

module _ (z : Bool) (c : Around) (have : HaveTypes c.definitions.items) (b : Bound) (ns : Names) (scope : types_give b.types ≡ Some ns) (r : Reading) where
  abbrev pub IsTyped : p.Pred → Tree → Type 0
  IsTyped q u = (m : Count) × (m' : Count) × (typed_pred c b r m q ≡ Ok (u, m'))

  abbrev pub AreTyped : List p.Pred → List Tree → Type 0
  AreTyped [] [] = Unit {0}
  AreTyped (q ∷ qs) (u ∷ us) = IsTyped q u × AreTyped qs us
  AreTyped _ _ = ⊥

  both_typed : (qs qs' : List p.Pred) (us us' : List Tree) → AreTyped qs us → AreTyped qs' us' → AreTyped (qs ++ qs') (us ++ us')
  both_typed [] qs' [] us' f d = d
  both_typed [] qs' (u ∷ us) us' f d = absurd f
  both_typed (q ∷ qs) qs' [] us' f d = absurd f
  both_typed (q ∷ qs) qs' (u ∷ us) us' f d = (f.0, both_typed qs qs' us us' f.1 d)

  abbrev pub IsAligned : p.Pred → Tree → Type 0
  IsAligned a u = AreTyped (conjuncts_spelled a) (conjuncts u)

  one_alone : (m : Count) (a : p.Pred) → Holds (Of NotAnd) (typed_pred c b r m a) → Holds (λ x. AreTyped (a ∷ []) (conjuncts x.0)) (typed_pred c b r m a)
  one_alone m a f =
      holds_all (λ x. NotAnd x.0 × IsTyped a x.0) (λ x. AreTyped (a ∷ []) (conjuncts x.0)) (typed_pred c b r m a)
      (λ x g. subst (AreTyped (a ∷ [])) (sym (alone x.0 g.0)) (g.1, tt))
      (holds_both (Of NotAnd) (λ x. IsTyped a x.0) (typed_pred c b r m a) f (holds_known (λ x. IsTyped a x.0) (typed_pred c b r m a) (λ x e. (m, x.1, e))))

  chain_alone : (n : Count) (line : ℕ) (terms : List t.Term) (os : List BinOp) → Holds (Of NotAnd) (chain_typed c b r n line terms os)
  unfolding chain_typed
  chain_alone n line [] os = closed_holds NotAnd n.limit (with_node line n).limit (with_node line n) (chain line [] os) (chain_not line [] os)
  chain_alone n line (a ∷ rest) os =
      after_any (Of NotAnd) (typed c b r n a) _ (λ x. after_any (Of NotAnd) (behind_those (x.0 ∷ []) (all_typed c b r (with_node line x.1) rest)) _
      (λ xs. closed_holds NotAnd x.1.limit (with_node line x.1).limit xs.1 (chain line xs.0 os) (chain_not line xs.0 os)))

  valid_alone : (n : Count) (line : ℕ) (writable : Bool) (a : t.Term) → Holds (Of NotAnd) (valid_typed c b r n line writable a)
  unfolding valid_typed
  valid_alone n line writable a =
      after_any (Of NotAnd) (aimed c b r (with_node line n) a) _ (λ x. closed_holds NotAnd n.limit (with_node line n).limit x.1 (valid_at line writable x.0)
      (valid_not line writable x.0))

  separated_alone : (n : Count) (line : ℕ) (terms : List t.Term) → Holds (Of NotAnd) (separated_typed c b r n line terms)
  unfolding separated_typed
  separated_alone n line terms =
      after_any (Of NotAnd) (all_aimed c b r (with_node line n) terms) _ (λ xs. closed_holds NotAnd n.limit (with_node line n).limit xs.1
      (separated_at line xs.0) (separated_not line xs.0))

  has_one : (at : Limit) (a : Bool) (ds : List e.VarDecl) (body : p.Pred) → BindsOne ds → Holds (λ o. HasOne o.0) (binders_typed c b at a ds body)
  has_one at a [] body binds = absurd binds
  has_one at a (d ∷ ds) body binds =
      ended_holds (λ o. HasOne o.0) at at at (binders c (inside b) (d ∷ ds) (guards a (d ∷ ds) body))
      (after_any (λ o. HasOne o.0) (one_binder c (inside b) d _) _ (λ o. after_any (λ o. HasOne o.0) (binders c o.1 ds _) _ (λ r. tt)))

  negation_alone : (m : Count) (line : ℕ) (a : p.Pred) → Holds (Of NotAnd) (typed_pred c b r m (p.not_of line a))
  negation_alone m line a = after_any (Of NotAnd) (typed_pred c b r (with_node line m) a) _ (λ x. refl)

  old_alone : (m : Count) (line : ℕ) (a : p.Pred) → Holds (Of NotAnd) (typed_pred c b r m (p.old line a))
  old_alone m line a =
      after_any (Of NotAnd) (typed_pred c b (under_if (old_at c.site) r) (with_node line m) a) _
      (λ x. closed_holds NotAnd m.limit (with_node line m).limit x.1 (labelled line (old_at c.site) x.0) (labelled_not line (old_at c.site) x.0))

  two_alone : (m : Count) (line : ℕ) (h : Head) (a d : p.Pred) → is_and h ≡ false
      → Holds (Of NotAnd) (after (typed_pred c b r m a) (λ x. after (typed_pred c b r (with_node line x.1) d) (λ y. Ok (two h x.0 y.0, y.1))))
  two_alone m line h a d e = after_any (Of NotAnd) (typed_pred c b r m a) _ (λ x. after_any (Of NotAnd) (typed_pred c b r (with_node line x.1) d) _ (λ y. e))

  choice_alone : (m : Count) (line : ℕ) (test a d : p.Pred) → Holds (Of NotAnd) (typed_pred c b r m (p.cond line test a d))
  choice_alone m line test a d =
      after_any (Of NotAnd) (typed_pred c b r m test) _ (λ x. after_any (Of NotAnd) (typed_pred c b r (with_node line x.1) a) _
      (λ y. after_any (Of NotAnd) (typed_pred c b r y.1 d) _ (λ q. refl)))

  let_alone : (m : Count) (line : ℕ) (x : List ℕ) (value : t.Term) (a : p.Pred) → Holds (Of NotAnd) (typed_pred c b r m (p.let_in line x value a))
  let_alone m line x value a =
      after_any (Of NotAnd) (typed c b r (with_node line m) value) _
      (λ v. after_any (Of NotAnd) (typed_pred c (with_bound (inside b) x (let_value line v.0).type) r v.1 a) _
      (λ u. closed_holds NotAnd m.limit (with_node line m).limit u.1 (let_tree line (let_value line v.0).is_value (let_value line v.0).tree u.0)
      (let_not line (let_value line v.0).is_value (let_value line v.0).tree u.0)))

  quantifier_alone : (m : Count) (line : ℕ) (q : Bool) (ds : List e.VarDecl) (a : p.Pred) → BindsOne ds
      → Holds (Of NotAnd) (after (binders_typed c b (with_node line m).limit q ds a)
      (λ o. after (typed_pred c o.1 r (with_node line m) a) (λ u. Ok (quantified (place_at line m) q o.0 u.0, u.1))))
  quantifier_alone m line q ds a binds =
      after_holds (λ o. HasOne o.0) (Of NotAnd) (binders_typed c b (with_node line m).limit q ds a) _ (has_one (with_node line m).limit q ds a binds)
      (λ o has. after_any (Of NotAnd) (typed_pred c o.1 r (with_node line m) a) _ (λ u. quantified_not (place_at line m) q o.0 u.0 has))

  call_alone : (m : Count) (line : ℕ) (f : List ℕ) (args : List t.Term) → Holds (Of NotAnd) (typed_pred c b r m (p.call line f args))
  call_alone m line f args =
      holds_all (Of (IsMadeOf z c b ns have [] (all_fine c b ns scope) (called_at c b false (length args) f))) (Of NotAnd) _
      (λ u made. ap (λ v. is_and (head_of v)) made.is) (call_made z c have b ns r m line f args scope)

  pub aligned : (m : Count) (a : p.Pred) → EachBinds a → Holds (λ x. IsAligned a x.0) (typed_pred c b r m a)
  aligned m (p.and_of line a d) binds =
      after_holds (λ x. IsAligned a x.0) (λ x. IsAligned (p.and_of line a d) x.0) (typed_pred c b r m a) _ (aligned m a binds.0)
      (λ x fx. after_holds (λ x. IsAligned d x.0) (λ x. IsAligned (p.and_of line a d) x.0) (typed_pred c b r (with_node line x.1) d) _
      (aligned (with_node line x.1) d binds.1)
      (λ y fy. both_typed (conjuncts_spelled a) (conjuncts_spelled d) (conjuncts x.0) (conjuncts y.0 ++ []) fx
      (subst (AreTyped (conjuncts_spelled d)) (sym (append-nil (conjuncts y.0))) fy)))
  aligned m (p.always line) binds = one_alone m (p.always line) (closed_holds NotAnd m.limit (with_node line m).limit (with_node line m)
      (Ok (number true)) refl)
  aligned m (p.never line) binds = one_alone m (p.never line) (closed_holds NotAnd m.limit (with_node line m).limit (with_node line m) (Ok (number false)) refl)
  aligned m (p.chain line terms os) binds = one_alone m (p.chain line terms os) (chain_alone m line terms os)
  aligned m (p.valid line a) binds = one_alone m (p.valid line a) (valid_alone m line true a)
  aligned m (p.valid_read line a) binds = one_alone m (p.valid_read line a) (valid_alone m line false a)
  aligned m (p.separated line terms) binds = one_alone m (p.separated line terms) (separated_alone m line terms)
  aligned m (p.call line f args) binds = one_alone m (p.call line f args) (call_alone m line f args)
  aligned m (p.not_of line a) binds = one_alone m (p.not_of line a) (negation_alone m line a)
  aligned m (p.old line a) binds = one_alone m (p.old line a) (old_alone m line a)
  aligned m (p.xor_of line a d) binds = one_alone m (p.xor_of line a d) (two_alone m line head.Xor a d refl)
  aligned m (p.or_of line a d) binds = one_alone m (p.or_of line a d) (two_alone m line head.Or a d refl)
  aligned m (p.implies line a d) binds = one_alone m (p.implies line a d) (two_alone m line head.Implies a d refl)
  aligned m (p.iff line a d) binds = one_alone m (p.iff line a d) (two_alone m line head.Iff a d refl)
  aligned m (p.cond line test a d) binds = one_alone m (p.cond line test a d) (choice_alone m line test a d)
  aligned m (p.let_in line x value a) binds = one_alone m (p.let_in line x value a) (let_alone m line x value a)
  aligned m (p.for_all line ds a) binds = one_alone m (p.for_all line ds a) (quantifier_alone m line true ds a binds.0)
  aligned m (p.for_some line ds a) binds = one_alone m (p.for_some line ds a) (quantifier_alone m line false ds a binds.0)

  -- ---- the conjuncts of which ranges take their ends

  -- what stands at a place is typed there
  abbrev pub AreAt : List p.Pred → List Tree → Type 0
  AreAt qs us = (i : ℕ) (q : p.Pred) → slice_get qs i ≡ Some q → (u : Tree) × (slice_get us i ≡ Some u) × IsTyped q u

  typed_at : (qs : List p.Pred) (us : List Tree) → AreTyped qs us → AreAt qs us
  typed_at [] [] f i q h = absurd cc
  typed_at [] (u ∷ us) f i q h = absurd f
  typed_at (q ∷ qs) [] f i s h = absurd f
  typed_at (q ∷ qs) (u ∷ us) f zero s h = let same : q ≡ s = cc in (u, refl, subst (λ q. IsTyped q u) same f.0)
  typed_at (q ∷ qs) (u ∷ us) f (suc i) s h = typed_at qs us f.1 i s h

  none_at : (us : List Tree) → AreAt [] us
  none_at us i q h = absurd cc

  pub ranging_at : (m : Count) (for_all : Bool) (a : p.Pred) → EachBinds a
      → Holds (λ x. AreAt (guarding for_all a) (ranging for_all x.0)) (typed_pred c b r m a)
  ranging_at m false a binds = holds_all (λ x. IsAligned a x.0) (λ x. AreAt (guarding false a) (ranging false x.0)) (typed_pred c b r m a)
      (λ x f. typed_at (conjuncts_spelled a) (conjuncts x.0) f) (aligned m a binds)
  ranging_at m true (p.implies line a d) binds =
      after_holds (λ x. IsAligned a x.0) (λ x. AreAt (conjuncts_spelled a) (ranging true x.0)) (typed_pred c b r m a) _ (aligned m a binds.0)
      (λ x fx. after_any (λ x. AreAt (conjuncts_spelled a) (ranging true x.0)) (typed_pred c b r (with_node line x.1) d) _
      (λ y. typed_at (conjuncts_spelled a) (conjuncts x.0) fx))
  ranging_at m true (p.always line) binds = holds_every (λ x. AreAt [] (ranging true x.0)) _ (λ x. none_at (ranging true x.0))
  ranging_at m true (p.never line) binds = holds_every (λ x. AreAt [] (ranging true x.0)) _ (λ x. none_at (ranging true x.0))
  ranging_at m true (p.chain line terms os) binds = holds_every (λ x. AreAt [] (ranging true x.0)) _ (λ x. none_at (ranging true x.0))
  ranging_at m true (p.valid line a) binds = holds_every (λ x. AreAt [] (ranging true x.0)) _ (λ x. none_at (ranging true x.0))
  ranging_at m true (p.valid_read line a) binds = holds_every (λ x. AreAt [] (ranging true x.0)) _ (λ x. none_at (ranging true x.0))
  ranging_at m true (p.separated line terms) binds = holds_every (λ x. AreAt [] (ranging true x.0)) _ (λ x. none_at (ranging true x.0))
  ranging_at m true (p.call line f args) binds = holds_every (λ x. AreAt [] (ranging true x.0)) _ (λ x. none_at (ranging true x.0))
  ranging_at m true (p.not_of line a) binds = holds_every (λ x. AreAt [] (ranging true x.0)) _ (λ x. none_at (ranging true x.0))
  ranging_at m true (p.old line a) binds = holds_every (λ x. AreAt [] (ranging true x.0)) _ (λ x. none_at (ranging true x.0))
  ranging_at m true (p.and_of line a d) binds = holds_every (λ x. AreAt [] (ranging true x.0)) _ (λ x. none_at (ranging true x.0))
  ranging_at m true (p.xor_of line a d) binds = holds_every (λ x. AreAt [] (ranging true x.0)) _ (λ x. none_at (ranging true x.0))
  ranging_at m true (p.or_of line a d) binds = holds_every (λ x. AreAt [] (ranging true x.0)) _ (λ x. none_at (ranging true x.0))
  ranging_at m true (p.iff line a d) binds = holds_every (λ x. AreAt [] (ranging true x.0)) _ (λ x. none_at (ranging true x.0))
  ranging_at m true (p.cond line test a d) binds = holds_every (λ x. AreAt [] (ranging true x.0)) _ (λ x. none_at (ranging true x.0))
  ranging_at m true (p.let_in line x value a) binds = holds_every (λ x. AreAt [] (ranging true x.0)) _ (λ x. none_at (ranging true x.0))
  ranging_at m true (p.for_all line ds a) binds = holds_every (λ x. AreAt [] (ranging true x.0)) _ (λ x. none_at (ranging true x.0))
  ranging_at m true (p.for_some line ds a) binds = holds_every (λ x. AreAt [] (ranging true x.0)) _ (λ x. none_at (ranging true x.0))
