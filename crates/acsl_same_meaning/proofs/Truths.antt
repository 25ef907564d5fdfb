-- What typing makes of predicates is well formed, where the ends of ranges are.
use Rattle.std.proofs.Common.{◌≡◌, ℕ, suc, Bool, true, false, if◌then◌else◌, List, [], ◌∷◌, length, Option, Some, None, Ok, Err, refl, ap, sym, ◌∙◌, subst}
use Rattle.c_syntax.specs.declared.expr.BinOp.{BinOp}
use Rattle.c_syntax.specs.Term as t
use Rattle.c_syntax.specs.Expr as e
use Rattle.c_syntax.specs.Pred as p
use Rattle.c_answers.specs.Answers.{Answer, after, wrong, unknown}
use Rattle.acsl_guards.specs.declared.ranges.Guard.{Guard}
use Rattle.acsl_guards.specs.Guarding.{guards}
use Rattle.acsl_trees.specs.declared.heads.Head.{Head}
use Rattle.acsl_trees.specs.declared.heads.Head.TheVariants as head
use Rattle.acsl_trees.specs.declared.heads.Label.{Label}
use Rattle.acsl_trees.specs.declared.operands.TermType.{TermType}
use Rattle.acsl_trees.specs.declared.operands.TermType.TheVariants as type
use Rattle.acsl_trees.specs.Tree.{Tree, two}
use Rattle.acsl_trees.specs.Operands.{Operand}
use Rattle.acsl_rules.specs.Values.{valued}
use Rattle.acsl_rules.specs.Chains.{chain}
use Rattle.acsl_rules.specs.Laws.{Holds}
use Rattle.acsl_names.specs.declared.names.Bound.{Bound}
use Rattle.acsl_names.specs.declared.names.Reading.{Reading}
use Rattle.acsl_names.specs.declared.counting.Limit.{Limit}
use Rattle.acsl_names.specs.declared.counting.Count.{Count}
use Rattle.acsl_names.specs.Names.{Around}
use Rattle.acsl_names.specs.Labels.{old_at, under_if}
use Rattle.acsl_names.specs.Counting.{with_node}
use Rattle.acsl_names.specs.Weights.{count_of}
use Rattle.acsl_terms.specs.Leaves.{closed}
use Rattle.acsl_terms.specs.Calls.{called_at}
use Rattle.acsl_terms.specs.Terms.{typed, typed_for, typed_all, predicate_call}
use Rattle.acsl_preds.specs.declared.binders.Over.{Over}
use Rattle.acsl_preds.specs.Binders.{inside, with_bound, is_new, over_by, binder_over, binders}
use Rattle.acsl_preds.specs.Preds.{all_typed, onto, chain_typed, let_by, let_tree, labelled, number, binders_typed, place_at, typed_pred}
use Rattle.c_runs.specs.TruthLaws.{Signatures}
use Rattle.acsl_same_meaning.specs.Trees.{Signed, MayLabel}
use Rattle.acsl_well_typed.specs.Ranges.{BindsOne, EachBinds, AreNumbered}
use Rattle.acsl_same_meaning.proofs.Answers.{after_holds, after_any, after_with, ended_holds, ended_is, closed_holds, Of}
use Rattle.acsl_same_meaning.proofs.Operators.{only, pair, triple, Good, IsGood, valued_fits}
use Rattle.acsl_same_meaning.proofs.Chains.{AllGood, chain_fits}
use Rattle.acsl_same_meaning.proofs.Terms.{AreTerms, called_is, call_fits, typed_any, args_any, counted}
use Rattle.acsl_same_meaning.proofs.Places.{valid_fits, separated_fits}
use Rattle.acsl_same_meaning.proofs.Scoping.{more_length, more_numbered, inside_numbered, new_inside}
use Rattle.acsl_same_meaning.proofs.Quantifiers.{under_binders, ranging, AllEndsFit, quantified_fits}

module _ (l : Bool) (s : Signatures) (c : Around) (sig : Signed s c.definitions.items) (lab : MayLabel l c.site) where
  abbrev pub G : ℕ → Tree → Type 0
  G d = Good l true s d

  -- the ends of a quantifier's ranges are well formed under the binders before
  abbrev pub EndsStand : Type 0
  EndsStand =
      (b : Bound) (r : Reading) (n : Count) (a : Bool) (ds : List e.VarDecl) (body : p.Pred) (o : List Over × Bound) (u : Tree × Count) → AreNumbered b
      → BindsOne ds → EachBinds body
      → binders c (inside b) ds (guards a ds body) ≡ Ok o → typed_pred c o.1 r n body ≡ Ok u → AllEndsFit l s (length b.types) (ranging a u.0) o.0

  -- ---- `\let`

  -- the body of a `\let` under a name of this type
  let_fits : (d : ℕ) (at : Limit) (line : ℕ) (n : Count) (o : Answer Operand) (body : TermType → Answer (Tree × Count)) → Holds (IsGood l true s d) o
      → ((u : TermType) → Holds (Of (G (suc d))) (body u))
      → Holds (Of (G d)) (after (body (let_by o).type) (λ u. closed n.limit at u.1 (let_tree line (let_by o).is_value (let_by o).tree u.0)))
  let_fits d at line n (Ok v) body f go =
      after_holds (Of (G (suc d))) (Of (G d)) (body (let_by (Ok v)).type) _ (go (let_by (Ok v)).type)
      (λ u fu. closed_holds (G d) n.limit at u.1 (let_tree line true v.tree u.0) (pair f fu))
  let_fits d at line n (Err r) body f go =
      after_any (Of (G d)) (body type.Unknown) _ (λ u. closed_holds (G d) n.limit at u.1 (wrong line) tt)

  -- ---- binders

  abbrev AreBound : ℕ → List Over × Bound → Type 0
  AreBound d r = (length r.1.types ≡ under_binders r.0 d) × AreNumbered r.1

  binder_if : (b : Bound) (d : e.VarDecl) (g : Option Guard) (new : Bool) → is_new b d.name ≡ new
      → Holds (λ o. is_new b d.name ≡ true) (if new then over_by c d.line d.ty g else unknown d.line)
  binder_if b d g true is = always (over_by c d.line d.ty g)
    where
      always : (o : Answer Over) → Holds (λ o. is_new b d.name ≡ true) o
      always (Ok o) = is
      always (Err r) = tt
  binder_if b d g false is = tt

  pub binder_is : (b : Bound) (d : e.VarDecl) (g : Option Guard) → Holds (λ o. is_new b d.name ≡ true) (binder_over c b d g)
  binder_is b d g = binder_if b d g (is_new b d.name) refl

  binder_by : (b : Bound) (k : ℕ) (d : e.VarDecl) (ds : List e.VarDecl) (gs : List (Option Guard)) (o : Answer Over) → Holds (λ o. is_new b d.name ≡ true) o
      → (is_new b d.name ≡ true → Holds (AreBound (suc k)) (binders c (with_bound b d.name type.Integer) ds gs))
      → Holds (AreBound k) (after {X = Over × Bound} (after o (λ o. Ok (o, with_bound b d.name type.Integer)))
      (λ o. after (binders c o.1 ds gs) (λ r. Ok (o.0 ∷ r.0, r.1))))
  binder_by b k d ds gs (Ok o) new f = after_holds (AreBound (suc k)) (AreBound k) (binders c (with_bound b d.name type.Integer) ds gs) _ (f new) (λ r f. f)
  binder_by b k d ds gs (Err r) new f = tt

  binders_are : (b : Bound) (k : ℕ) (ds : List e.VarDecl) (gs : List (Option Guard)) → length b.types ≡ k → AreNumbered b
      → Holds (AreBound k) (binders c b ds gs)
  binders_are b k [] [] long are = (long, are)
  binders_are b k [] (z ∷ gs) long are = (long, are)
  binders_are b k (d ∷ ds) [] long are = (long, are)
  binders_are b k (d ∷ ds) (z ∷ gs) long are =
      binder_by b k d ds gs (binder_over c b d z) (binder_is b d z)
      (λ new. binders_are (with_bound b d.name type.Integer) (suc k) ds gs (more_length b.types type.Integer ∙ ap suc long)
      (more_numbered b d.name type.Integer are new))

  -- ---- calls

  call_is : (b : Bound) (r : Reading) (n : Count) (line : ℕ) (f : List ℕ) (args : List t.Term)
      → Holds (Of (G (length b.types))) (predicate_call c b r n line (t.terms_of args) (called_at c b false (length args) f))
  unfolding predicate_call
  call_is b r n line f args =
      call_fits l true s c b sig lab (length b.types) false refl (length args) n line (t.terms_of args) (λ m params. typed_for c b r m params (t.terms_of args))
      (λ m params same. by_count (typed_for c b r m params (t.terms_of args))
      (args_any l s c b sig lab r m params (t.terms_of args) (same ∙ sym (counted args))))
      (λ m. typed_all c b r m (t.terms_of args)) (called_at c b false (length args) f) (called_is c false (length args) _)
    where
      by_count : (o : Answer (List Tree × Count)) → Holds (Of (AreTerms l s (length b.types) (count_of (t.terms_of args)))) o
          → Holds (Of (AreTerms l s (length b.types) (length args))) o
      by_count o f = subst (λ k. Holds (Of (AreTerms l s (length b.types) k)) o) (counted args) f

  -- ---- chains

  all_fit : (b : Bound) (r : Reading) (n : Count) (terms : List t.Term) → Holds (Of (AllGood l true s (length b.types))) (all_typed c b r n terms)
  all_fit b r n [] = tt
  all_fit b r n (a ∷ rest) =
      after_holds (Of (IsGood l true s (length b.types))) (Of (AllGood l true s (length b.types))) (typed c b r n a) _ (typed_any l s c b sig lab true r n a)
      (λ x fx. after_holds (Of (AllGood l true s (length b.types))) (Of (AllGood l true s (length b.types))) (all_typed c b r x.1 rest) _
      (all_fit b r x.1 rest) (λ xs fxs. (fx, fxs)))

  chain_is : (b : Bound) (r : Reading) (n : Count) (line : ℕ) (terms : List t.Term) (ops : List BinOp)
      → Holds (Of (G (length b.types))) (chain_typed c b r n line terms ops)
  unfolding chain_typed
  chain_is b r n line [] ops =
      closed_holds (G (length b.types)) n.limit (with_node line n).limit (with_node line n) (chain line [] ops)
      (chain_fits l true s (length b.types) line [] ops tt)
  chain_is b r n line (a ∷ rest) ops =
      after_holds (Of (IsGood l true s (length b.types))) (Of (G (length b.types))) (typed c b r n a) _ (typed_any l s c b sig lab true r n a)
      (λ x fx. after_holds (Of (AllGood l true s (length b.types))) (Of (G (length b.types))) (onto (x.0 ∷ []) (all_typed c b r (with_node line x.1) rest)) _
      (after_holds (Of (AllGood l true s (length b.types))) (Of (AllGood l true s (length b.types))) (all_typed c b r (with_node line x.1) rest) _
      (all_fit b r (with_node line x.1) rest) (λ xs fxs. (fx, fxs)))
      (λ xs fxs. closed_holds (G (length b.types)) x.1.limit (with_node line x.1).limit xs.1 (chain line xs.0 ops)
      (chain_fits l true s (length b.types) line xs.0 ops fxs)))

  -- ---- predicates

  labelled_is : (d line : ℕ) (o : Option Label) (u : Tree) → ((y : Label) → o ≡ Some y → l ≡ true) → G d u → Holds (G d) (labelled line o u)
  labelled_is d line (Some x) u may f = pair (may x refl) f
  labelled_is d line None u may f = tt

  two_are : (d line : ℕ) (h : Head) (o : Answer (Tree × Count)) (q : Count → Answer (Tree × Count))
      → ((u v : Tree) → G d u → G d v → G d (two h u v)) → Holds (Of (G d)) o → ((m : Count) → Holds (Of (G d)) (q m))
      → Holds (Of (G d)) (after o (λ x. after (q (with_node line x.1)) (λ y. Ok (two h x.0 y.0, y.1))))
  two_are d line h o q join f g =
      after_holds (Of (G d)) (Of (G d)) o _ f (λ x fx. after_holds (Of (G d)) (Of (G d)) (q (with_node line x.1)) _ (g (with_node line x.1))
      (λ y fy. join x.0 y.0 fx fy))

  module _ (ends : EndsStand) where
    mutual
      pub pred_fits : (b : Bound) (r : Reading) (n : Count) (a : p.Pred) → AreNumbered b → EachBinds a → Holds (Of (G (length b.types))) (typed_pred c b r n a)
      pred_fits b r n (p.always line) are each = closed_holds (G (length b.types)) n.limit (with_node line n).limit (with_node line n) (Ok (number true)) refl
      pred_fits b r n (p.never line) are each = closed_holds (G (length b.types)) n.limit (with_node line n).limit (with_node line n) (Ok (number false)) refl
      pred_fits b r n (p.chain line terms ops) are each = chain_is b r n line terms ops
      pred_fits b r n (p.valid line a) are each = valid_fits l true s c b sig lab r n line true a
      pred_fits b r n (p.valid_read line a) are each = valid_fits l true s c b sig lab r n line false a
      pred_fits b r n (p.separated line terms) are each = separated_fits l true s c b sig lab r n line terms
      pred_fits b r n (p.call line f args) are each = call_is b r n line f args
      pred_fits b r n (p.not_of line a) are each =
          after_holds (Of (G (length b.types))) (Of (G (length b.types))) (typed_pred c b r (with_node line n) a) _
          (pred_fits b r (with_node line n) a are each) (λ x fx. only fx)
      pred_fits b r n (p.old line a) are each =
          after_holds (Of (G (length b.types))) (Of (G (length b.types))) (typed_pred c b (under_if (old_at c.site) r) (with_node line n) a) _
          (pred_fits b (under_if (old_at c.site) r) (with_node line n) a are each)
          (λ x fx. closed_holds (G (length b.types)) n.limit (with_node line n).limit x.1 (labelled line (old_at c.site) x.0)
          (labelled_is (length b.types) line (old_at c.site) x.0 lab.old fx))
      pred_fits b r n (p.and_of line a d) are each =
          two_are (length b.types) line head.And (typed_pred c b r n a) (λ m. typed_pred c b r m d) (λ u v f g. pair f g) (pred_fits b r n a are each.0)
          (λ m. pred_fits b r m d are each.1)
      pred_fits b r n (p.xor_of line a d) are each =
          two_are (length b.types) line head.Xor (typed_pred c b r n a) (λ m. typed_pred c b r m d) (λ u v f g. pair f g) (pred_fits b r n a are each.0)
          (λ m. pred_fits b r m d are each.1)
      pred_fits b r n (p.or_of line a d) are each =
          two_are (length b.types) line head.Or (typed_pred c b r n a) (λ m. typed_pred c b r m d) (λ u v f g. pair f g) (pred_fits b r n a are each.0)
          (λ m. pred_fits b r m d are each.1)
      pred_fits b r n (p.implies line a d) are each =
          two_are (length b.types) line head.Implies (typed_pred c b r n a) (λ m. typed_pred c b r m d) (λ u v f g. pair f g) (pred_fits b r n a are each.0)
          (λ m. pred_fits b r m d are each.1)
      pred_fits b r n (p.iff line a d) are each =
          two_are (length b.types) line head.Iff (typed_pred c b r n a) (λ m. typed_pred c b r m d) (λ u v f g. pair f g) (pred_fits b r n a are each.0)
          (λ m. pred_fits b r m d are each.1)
      pred_fits b r n (p.cond line test a d) are each =
          after_holds (Of (G (length b.types))) (Of (G (length b.types))) (typed_pred c b r n test) _ (pred_fits b r n test are each.0) (λ x fx.
          after_holds (Of (G (length b.types))) (Of (G (length b.types))) (typed_pred c b r (with_node line x.1) a) _
          (pred_fits b r (with_node line x.1) a are each.1) (λ y fy.
          after_holds (Of (G (length b.types))) (Of (G (length b.types))) (typed_pred c b r y.1 d) _ (pred_fits b r y.1 d are each.2)
          (λ z fz. triple fx fy fz)))
      pred_fits b r n (p.let_in line x value a) are each =
          after_holds (Of (IsGood l true s (length b.types))) (Of (G (length b.types))) (typed c b r (with_node line n) value) _
          (typed_any l s c b sig lab true r (with_node line n) value)
          (λ v fv. let_fits (length b.types) (with_node line n).limit line n (valued line v.0) (λ u. typed_pred c (with_bound (inside b) x u) r v.1 a)
          (valued_fits l true s (length b.types) line v.0 fv)
          (λ u. subst (λ d. Holds (Of (G d)) (typed_pred c (with_bound (inside b) x u) r v.1 a)) (more_length b.types u)
          (pred_fits (with_bound (inside b) x u) r v.1 a (more_numbered (inside b) x u (inside_numbered b are) (new_inside b x)) each)))
      pred_fits b r n (p.for_all line ds a) are each =
          after_with (AreBound (length b.types)) (Of (G (length b.types))) (binders_typed c b (with_node line n).limit true ds a) _
          (ended_holds (AreBound (length b.types)) (with_node line n).limit (with_node line n).limit (with_node line n).limit
          (binders c (inside b) ds (guards true ds a))
          (binders_are (inside b) (length b.types) ds (guards true ds a) refl (inside_numbered b are)))
          (λ o fo is. after_with (Of (G (length o.1.types))) (Of (G (length b.types))) (typed_pred c o.1 r (with_node line n) a) _
          (pred_fits o.1 r (with_node line n) a fo.1 each.1)
          (λ u fu made. quantified_fits l s (place_at line n) true o.0 (length b.types) u.0
          (ends b r (with_node line n) true ds a o u are each.0 each.1 (ended_is _ _ _ _ o is) made) (subst (λ d. G d u.0) fo.0 fu)))
      pred_fits b r n (p.for_some line ds a) are each =
          after_with (AreBound (length b.types)) (Of (G (length b.types))) (binders_typed c b (with_node line n).limit false ds a) _
          (ended_holds (AreBound (length b.types)) (with_node line n).limit (with_node line n).limit (with_node line n).limit
          (binders c (inside b) ds (guards false ds a))
          (binders_are (inside b) (length b.types) ds (guards false ds a) refl (inside_numbered b are)))
          (λ o fo is. after_with (Of (G (length o.1.types))) (Of (G (length b.types))) (typed_pred c o.1 r (with_node line n) a) _
          (pred_fits o.1 r (with_node line n) a fo.1 each.1)
          (λ u fu made. quantified_fits l s (place_at line n) false o.0 (length b.types) u.0
          (ends b r (with_node line n) false ds a o u are each.0 each.1 (ended_is _ _ _ _ o is) made) (subst (λ d. G d u.0) fo.0 fu)))
