-- The conjuncts of a predicate's tree are what is typed of its conjuncts as spelled, one by one.
use Rattle.std.proofs.Common.{◌≡◌, ℕ, zero, suc, Bool, true, false, ◌&&◌, not, if◌then◌else◌, List, [], ◌∷◌, ◌++◌, length, Option, Some, None, Ok, Err, slice_get, refl, ap, sym, subst, append-nil}
use Rattle.c_syntax.specs.declared.expr.BinOp.{BinOp}
use Rattle.c_syntax.specs.Expr as e
use Rattle.c_syntax.specs.Term as t
use Rattle.c_syntax.specs.Pred as p
use Rattle.c_answers.specs.Answers.{Answer, after, fault, unknown, wrong}
use Rattle.acsl_guards.specs.Guarding.{guards, guarding, conjuncts as spelled_conjuncts}
use Rattle.acsl_trees.specs.declared.heads.BinderPlace.{BinderPlace}
use Rattle.acsl_trees.specs.declared.heads.Label.{Label}
use Rattle.acsl_trees.specs.Tree.{Tree, node}
use Rattle.acsl_trees.specs.Operands.{Operand}
use Rattle.acsl_rules.specs.Chains.{all_valued, onto, links, with_nulls, chained, chain}
use Rattle.acsl_rules.specs.Laws.{Holds}
use Rattle.acsl_names.specs.declared.names.Bound.{Bound}
use Rattle.acsl_names.specs.declared.names.Definition.{Definition}
use Rattle.acsl_names.specs.declared.names.Reading.{Reading}
use Rattle.acsl_names.specs.declared.counting.Count.{Count}
use Rattle.acsl_names.specs.Names.{Around}
use Rattle.acsl_names.specs.Labels.{old_at, under_if}
use Rattle.acsl_names.specs.Counting.{with_node, inside_call}
use Rattle.acsl_terms.specs.declared.calls.Called.{Called}
use Rattle.acsl_terms.specs.declared.calls.Called.TheVariants as called
use Rattle.acsl_terms.specs.Leaves.{misshapen}
use Rattle.acsl_terms.specs.Calls.{called_at, call_tree, recursion, is_itself, goes_down}
use Rattle.acsl_terms.specs.Terms.{ForParams, recursive_call, expanded_count, expanded_call, call_by, typed, typed_for, typed_all, predicate_call}
use Rattle.acsl_places.specs.Places.{Aim, aimed, all_aimed, region_of, region_trees, valid_at, separated_at, valid_typed, separated_typed}
use Rattle.acsl_preds.specs.declared.binders.Over.{Over}
use Rattle.acsl_preds.specs.declared.binders.Over.TheVariants as over
use Rattle.acsl_preds.specs.Binders.{inside, with_bound, one_binder, binders}
use Rattle.acsl_preds.specs.Preds.{all_typed, onto as behind_those, chain_typed, let_value, let_tree, labelled, number, binders_typed, place_at, typed_pred}
use Rattle.acsl_preds.specs.Ranges.{is_and, conjuncts, conjuncts_in, kids_of, over_all, is_implication, sides_of, every_sides, head_of, quantified}
use Rattle.acsl_well_typed.specs.Ranges.{BindsOne, EachBinds}
use Rattle.acsl_same_meaning.proofs.Answers.{after_holds, after_any, holds_all, holds_any, if_holds, ended_holds, closed_holds, Of}
use Rattle.acsl_same_meaning.proofs.Quantifiers.{ranging}

-- ---- heads

abbrev NoAnd : Tree → Type 0
NoAnd v = is_and (head_of v) ≡ false

if_no : (b : Bool) (v w : Tree) → NoAnd v → NoAnd w → NoAnd (if b then v else w)
if_no true v w f g = f
if_no false v w f g = g

over_no : (place : BinderPlace) (a : Bool) (cs : List Tree) (o : Over) (os : List Over) (v : Tree) → NoAnd (over_all place a cs (o ∷ os) v)
over_no place true cs (over.Kind k) os v = refl
over_no place false cs (over.Kind k) os v = refl
over_no place true cs (over.Guarded g) os v = refl
over_no place false cs (over.Guarded g) os v = refl

sides_no : (place : BinderPlace) (o : Over) (os : List Over) (body : Tree) (q : Option (Tree × Tree)) → NoAnd (every_sides place (o ∷ os) body q)
sides_no place o os body (Some q) = over_no place true (conjuncts q.0) o os _
sides_no place o os body None = over_no place true [] o os body

abbrev HasOne : List Over → Type 0
HasOne [] = ⊥
HasOne (o ∷ os) = Unit {0}

quantified_no : (place : BinderPlace) (a : Bool) (os : List Over) (v : Tree) → HasOne os → NoAnd (quantified place a os v)
unfolding quantified
quantified_no place a [] v has = absurd has
quantified_no place true (o ∷ os) v has =
    if_no (is_implication (head_of v)) (every_sides place (o ∷ os) v (sides_of (kids_of v))) (over_all place true [] (o ∷ os) v) (sides_no place o os v (sides_of (kids_of v)))
    (over_no place true [] o os v)
quantified_no place false (o ∷ os) v has = over_no place false (conjuncts v) o os _

module _ (c : Around) where
  bound_one : (b : Bound) (a : Bool) (ds : List e.VarDecl) (body : p.Pred) → BindsOne ds → Holds (λ r. HasOne r.0) (binders c b ds (guards a ds body))
  bound_one b a [] body binds = absurd binds
  bound_one b a (d ∷ ds) body binds =
      after_any (λ r. HasOne r.0) (one_binder c b d _) _ (λ o. after_any (λ r. HasOne r.0) (binders c o.1 ds _) _ (λ r. tt))

  chained_no : (line : ℕ) (ops : List BinOp) (vs : List Operand) → Holds NoAnd (chained line ops vs)
  chained_no line ops [] = refl
  chained_no line ops (v ∷ vs) = after_any NoAnd (onto (v.tree ∷ []) (links line v.sort ops vs)) _ (λ ts. refl)

  chain_no : (line : ℕ) (xs : List Operand) (ops : List BinOp) → Holds NoAnd (chain line xs ops)
  unfolding chain
  chain_no line xs ops = after_any NoAnd (all_valued line xs) _ (λ vs. chained_no line ops (with_nulls ops vs))

  chain_typed_no : (b : Bound) (r : Reading) (n : Count) (line : ℕ) (terms : List t.Term) (ops : List BinOp)
      → Holds (Of NoAnd) (chain_typed c b r n line terms ops)
  unfolding chain_typed
  chain_typed_no b r n line [] ops = closed_holds NoAnd n.limit (with_node line n).limit (with_node line n) (chain line [] ops) (chain_no line [] ops)
  chain_typed_no b r n line (a ∷ rest) ops =
      after_any (Of NoAnd) (typed c b r n a) _ (λ x. after_any (Of NoAnd) (behind_those (x.0 ∷ []) (all_typed c b r (with_node line x.1) rest)) _
      (λ xs. closed_holds NoAnd x.1.limit (with_node line x.1).limit xs.1 (chain line xs.0 ops) (chain_no line xs.0 ops)))

  valid_at_no : (line : ℕ) (writable : Bool) (x : Aim) → Holds NoAnd (valid_at line writable x)
  unfolding valid_at
  valid_at_no line writable x = after_any NoAnd (region_of line x) _ (λ k. refl)

  valid_no : (b : Bound) (r : Reading) (n : Count) (line : ℕ) (writable : Bool) (a : t.Term) → Holds (Of NoAnd) (valid_typed c b r n line writable a)
  unfolding valid_typed
  valid_no b r n line writable a =
      after_any (Of NoAnd) (aimed c b r (with_node line n) a) _
      (λ x. closed_holds NoAnd n.limit (with_node line n).limit x.1 (valid_at line writable x.0) (valid_at_no line writable x.0))

  separated_at_no : (line : ℕ) (xs : List Aim) → Holds NoAnd (separated_at line xs)
  unfolding separated_at
  separated_at_no line xs = after_any NoAnd (region_trees line xs) _ (λ ts. refl)

  separated_no : (b : Bound) (r : Reading) (n : Count) (line : ℕ) (terms : List t.Term) → Holds (Of NoAnd) (separated_typed c b r n line terms)
  unfolding separated_typed
  separated_no b r n line terms =
      after_any (Of NoAnd) (all_aimed c b r (with_node line n) terms) _
      (λ xs. closed_holds NoAnd n.limit (with_node line n).limit xs.1 (separated_at line xs.0) (separated_at_no line xs.0))

  module _ (b : Bound) (n : Count) (line : ℕ) (args : t.Terms) (each : ForParams) where
    recursion_no : (i : ℕ) (vs : List Tree) → Holds NoAnd (recursion c line i args vs)
    unfolding recursion
    recursion_no i vs = if_holds NoAnd (is_itself c.itself i && not (goes_down c.down args)) (misshapen line) (Ok (call_tree i vs)) tt refl

    recursive_no : (i : ℕ) (o : Option Definition) → Holds (Of NoAnd) (recursive_call c n line i args each o)
    recursive_no i None = closed_holds NoAnd n.limit (with_node line n).limit (with_node line n) (wrong line) tt
    recursive_no i (Some d) =
        after_any (Of NoAnd) (each (with_node line n) d.params) _
        (λ vs. closed_holds NoAnd n.limit (with_node line n).limit vs.1 (recursion c line i args vs.0) (recursion_no i vs.0))

    expanded_no : (i : ℕ) (o : Option Definition) → Holds (Of NoAnd) (expanded_call c b n line i args each o)
    expanded_no i None = closed_holds NoAnd n.limit (with_node line n).limit (with_node line n) (wrong line) tt
    expanded_no i (Some d) =
        after_any (Of NoAnd) (each (inside_call (expanded_count c b n line d args)) d.params) _
        (λ vs. closed_holds NoAnd n.limit (expanded_count c b n line d args).limit (expanded_count c b n line d args) (Ok (call_tree i vs.0)) refl)

    call_no : (alone : Count → Answer Count) (f : Called) → Holds (Of NoAnd) (call_by c b n line args each alone f)
    call_no alone called.Unknown = closed_holds NoAnd n.limit (with_node line n).limit (with_node line n) (unknown line) tt
    call_no alone (called.Wrong r) =
        after_any (Of NoAnd) (alone (with_node line n)) _ (λ m. closed_holds NoAnd n.limit (with_node line n).limit m (Err (fault r line)) tt)
    call_no alone (called.Recursive i) = recursive_no i (slice_get c.definitions.items i)
    call_no alone (called.Expanded i) = expanded_no i (slice_get c.definitions.items i)

  pred_call_no : (b : Bound) (r : Reading) (n : Count) (line : ℕ) (args : t.Terms) (f : Called) → Holds (Of NoAnd) (predicate_call c b r n line args f)
  unfolding predicate_call
  pred_call_no b r n line args f = call_no b n line args (λ m params. typed_for c b r m params args) (λ m. typed_all c b r m args) f

  labelled_no : (line : ℕ) (o : Option Label) (v : Tree) → Holds NoAnd (labelled line o v)
  labelled_no line (Some x) v = refl
  labelled_no line None v = tt

  let_no : (line : ℕ) (has : Bool) (v w : Tree) → Holds NoAnd (let_tree line has v w)
  let_no line true v w = refl
  let_no line false v w = tt

  -- ---- conjuncts

  -- the tree is what was typed of it
  abbrev pub IsTyped : Bound → p.Pred → Tree → Type 0
  IsTyped b a v = (r : Reading) × (n m : Count) × (typed_pred c b r n a ≡ Ok (v, m))

  abbrev pub AreTyped : Bound → List p.Pred → List Tree → Type 0
  AreTyped b [] [] = Unit {0}
  AreTyped b (a ∷ rest) (v ∷ vs) = IsTyped b a v × AreTyped b rest vs
  AreTyped b _ _ = ⊥

  both_typed : (b : Bound) (xs ys : List p.Pred) (vs ws : List Tree) → AreTyped b xs vs → AreTyped b ys ws → AreTyped b (xs ++ ys) (vs ++ ws)
  both_typed b [] ys [] ws f g = g
  both_typed b (x ∷ xs) ys (v ∷ vs) ws f g = (f.0, both_typed b xs ys vs ws f.1 g)
  both_typed b [] ys (v ∷ vs) ws f g = absurd f
  both_typed b (x ∷ xs) ys [] ws f g = absurd f

  alone : (v : Tree) → NoAnd v → conjuncts v ≡ v ∷ []
  alone (node h ks) free = ap (λ b. if b then conjuncts_in ks else node h ks ∷ []) free

  with_is : {X : Type 0} (P : X → Type 0) (o : Answer X) → Holds P o → Holds (λ x. P x × (o ≡ Ok x)) o
  with_is P (Ok x) f = (f, refl)
  with_is P (Err r) f = tt

  abbrev Whole : Bound → List p.Pred → Tree × Count → Type 0
  Whole b qs x = AreTyped b qs (conjuncts x.0)

  -- a predicate that isn't of `&&` is its only conjunct
  single : (b : Bound) (r : Reading) (n : Count) (a : p.Pred) → Holds (Of NoAnd) (typed_pred c b r n a) → Holds (Whole b (a ∷ [])) (typed_pred c b r n a)
  single b r n a free =
      holds_all (λ x. NoAnd x.0 × (typed_pred c b r n a ≡ Ok x)) (Whole b (a ∷ [])) (typed_pred c b r n a)
      (λ x q. subst (AreTyped b (a ∷ [])) (sym (alone x.0 q.0)) ((r, n, x.1, q.1), tt)) (with_is (Of NoAnd) (typed_pred c b r n a) free)

  quantifier_no : (b : Bound) (r : Reading) (n : Count) (line : ℕ) (a : Bool) (ds : List e.VarDecl) (body : p.Pred) → BindsOne ds
      → Holds (Of NoAnd) (after (binders_typed c b (with_node line n).limit a ds body)
      (λ o. after (typed_pred c o.1 r (with_node line n) body) (λ v. Ok (quantified (place_at line n) a o.0 v.0, v.1))))
  quantifier_no b r n line a ds body binds =
      after_holds (λ o. HasOne o.0) (Of NoAnd) (binders_typed c b (with_node line n).limit a ds body) _
      (ended_holds (λ o. HasOne o.0) (with_node line n).limit (with_node line n).limit (with_node line n).limit (binders c (inside b) ds (guards a ds body))
      (bound_one (inside b) a ds body binds))
      (λ o has. after_any (Of NoAnd) (typed_pred c o.1 r (with_node line n) body) _ (λ v. quantified_no (place_at line n) a o.0 v.0 has))

  pub conjuncts_are : (b : Bound) (r : Reading) (n : Count) (a : p.Pred) → EachBinds a → Holds (Whole b (spelled_conjuncts a)) (typed_pred c b r n a)
  conjuncts_are b r n (p.and_of line a d) binds =
      after_holds (Whole b (spelled_conjuncts a)) (Whole b (spelled_conjuncts a ++ spelled_conjuncts d)) (typed_pred c b r n a) _
      (conjuncts_are b r n a binds.0) (λ x fx.
      after_holds (Whole b (spelled_conjuncts d)) (Whole b (spelled_conjuncts a ++ spelled_conjuncts d)) (typed_pred c b r (with_node line x.1) d) _
      (conjuncts_are b r (with_node line x.1) d binds.1)
      (λ y fy. subst (λ vs. AreTyped b (spelled_conjuncts a ++ spelled_conjuncts d) (conjuncts x.0 ++ vs)) (sym (append-nil (conjuncts y.0)))
      (both_typed b (spelled_conjuncts a) (spelled_conjuncts d) (conjuncts x.0) (conjuncts y.0) fx fy)))
  conjuncts_are b r n (p.always line) binds =
      single b r n (p.always line) (closed_holds NoAnd n.limit (with_node line n).limit (with_node line n) (Ok (number true)) refl)
  conjuncts_are b r n (p.never line) binds =
      single b r n (p.never line) (closed_holds NoAnd n.limit (with_node line n).limit (with_node line n) (Ok (number false)) refl)
  conjuncts_are b r n (p.chain line terms ops) binds = single b r n (p.chain line terms ops) (chain_typed_no b r n line terms ops)
  conjuncts_are b r n (p.valid line a) binds = single b r n (p.valid line a) (valid_no b r n line true a)
  conjuncts_are b r n (p.valid_read line a) binds = single b r n (p.valid_read line a) (valid_no b r n line false a)
  conjuncts_are b r n (p.separated line terms) binds = single b r n (p.separated line terms) (separated_no b r n line terms)
  conjuncts_are b r n (p.call line f args) binds =
      single b r n (p.call line f args) (pred_call_no b r n line (t.terms_of args) (called_at c b false (length args) f))
  conjuncts_are b r n (p.not_of line a) binds = single b r n (p.not_of line a) (after_any (Of NoAnd) (typed_pred c b r (with_node line n) a) _ (λ x. refl))
  conjuncts_are b r n (p.old line a) binds =
      single b r n (p.old line a) (after_any (Of NoAnd) (typed_pred c b (under_if (old_at c.site) r) (with_node line n) a) _
      (λ x. closed_holds NoAnd n.limit (with_node line n).limit x.1 (labelled line (old_at c.site) x.0) (labelled_no line (old_at c.site) x.0)))
  conjuncts_are b r n (p.xor_of line a d) binds =
      single b r n (p.xor_of line a d) (after_any (Of NoAnd) (typed_pred c b r n a) _
      (λ x. after_any (Of NoAnd) (typed_pred c b r (with_node line x.1) d) _ (λ y. refl)))
  conjuncts_are b r n (p.or_of line a d) binds =
      single b r n (p.or_of line a d) (after_any (Of NoAnd) (typed_pred c b r n a) _
      (λ x. after_any (Of NoAnd) (typed_pred c b r (with_node line x.1) d) _ (λ y. refl)))
  conjuncts_are b r n (p.implies line a d) binds =
      single b r n (p.implies line a d) (after_any (Of NoAnd) (typed_pred c b r n a) _
      (λ x. after_any (Of NoAnd) (typed_pred c b r (with_node line x.1) d) _ (λ y. refl)))
  conjuncts_are b r n (p.iff line a d) binds =
      single b r n (p.iff line a d) (after_any (Of NoAnd) (typed_pred c b r n a) _
      (λ x. after_any (Of NoAnd) (typed_pred c b r (with_node line x.1) d) _ (λ y. refl)))
  conjuncts_are b r n (p.cond line test a d) binds =
      single b r n (p.cond line test a d) (after_any (Of NoAnd) (typed_pred c b r n test) _
      (λ x. after_any (Of NoAnd) (typed_pred c b r (with_node line x.1) a) _
      (λ y. after_any (Of NoAnd) (typed_pred c b r y.1 d) _ (λ z. refl))))
  conjuncts_are b r n (p.let_in line x value a) binds =
      single b r n (p.let_in line x value a) (after_any (Of NoAnd) (typed c b r (with_node line n) value) _
      (λ v. after_any (Of NoAnd) (typed_pred c (with_bound (inside b) x (let_value line v.0).type) r v.1 a) _
      (λ w. closed_holds NoAnd n.limit (with_node line n).limit w.1 (let_tree line (let_value line v.0).is_value (let_value line v.0).tree w.0)
      (let_no line (let_value line v.0).is_value (let_value line v.0).tree w.0))))
  conjuncts_are b r n (p.for_all line ds a) binds = single b r n (p.for_all line ds a) (quantifier_no b r n line true ds a binds.0)
  conjuncts_are b r n (p.for_some line ds a) binds = single b r n (p.for_some line ds a) (quantifier_no b r n line false ds a binds.0)

  -- each conjunct among which guards are looked for has its tree at the same place
  abbrev pub Placed : Bound → List p.Pred → List Tree → Type 0
  Placed b qs vs = (i : ℕ) (a : p.Pred) → slice_get qs i ≡ Some a → (v : Tree) × (slice_get vs i ≡ Some v) × IsTyped b a v

  placed : (b : Bound) (qs : List p.Pred) (vs : List Tree) → AreTyped b qs vs → Placed b qs vs
  placed b [] [] f i a is = absurd cc
  placed b (x ∷ xs) (v ∷ vs) f zero a is = let same : x ≡ a = cc in (v, refl, subst (λ a. IsTyped b a v) same f.0)
  placed b (x ∷ xs) (v ∷ vs) f (suc i) a is = placed b xs vs f.1 i a is
  placed b [] (v ∷ vs) f i a is = absurd f
  placed b (x ∷ xs) [] f i a is = absurd f

  abbrev pub IsPlaced : Bool → Bound → p.Pred → Tree × Count → Type 0
  IsPlaced a b body v = Placed b (guarding a body) (ranging a v.0)

  pub guarding_is : (a : Bool) (b : Bound) (r : Reading) (n : Count) (body : p.Pred) → EachBinds body → Holds (IsPlaced a b body) (typed_pred c b r n body)
  guarding_is false b r n body binds =
      holds_all (Whole b (spelled_conjuncts body)) (IsPlaced false b body) (typed_pred c b r n body)
      (λ v f. placed b (spelled_conjuncts body) (conjuncts v.0) f) (conjuncts_are b r n body binds)
  guarding_is true b r n (p.implies line x y) binds =
      after_holds (Whole b (spelled_conjuncts x)) (IsPlaced true b (p.implies line x y)) (typed_pred c b r n x) _ (conjuncts_are b r n x binds.0)
      (λ v f. after_any (IsPlaced true b (p.implies line x y)) (typed_pred c b r (with_node line v.1) y) _
      (λ w. placed b (spelled_conjuncts x) (conjuncts v.0) f))
  guarding_is true b r n body binds = holds_any (IsPlaced true b body) (typed_pred c b r n body) (λ v i a is. absurd cc)
