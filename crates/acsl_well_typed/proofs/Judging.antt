-- What typing makes of predicates is a truth, by induction on them.
use Rattle.std.proofs.Common.{◌≡◌, ℕ, Bool, true, false, List, [], ◌∷◌, ◌++◌, Some, Ok, refl}
use Rattle.c_syntax.specs.Expr as e
use Rattle.c_syntax.specs.Pred as p
use Rattle.name_table.proofs.Hiding.{enters}
use Rattle.acsl_guards.specs.Guarding.{guards}
use Rattle.acsl_trees.specs.declared.heads.Head.TheVariants as head
use Rattle.acsl_rules.specs.Values.{valued}
use Rattle.acsl_rules.specs.Laws.{Fits, Holds}
use Rattle.acsl_rules.proofs.Fitting.{valued_fits}
use Rattle.acsl_names.specs.declared.names.Bound.{Bound}
use Rattle.acsl_names.specs.declared.names.Reading.{Reading}
use Rattle.acsl_names.specs.declared.counting.Count.{Count}
use Rattle.acsl_names.specs.Names.{Around}
use Rattle.acsl_names.specs.Labels.{old_at, under_if}
use Rattle.acsl_names.specs.Counting.{with_node}
use Rattle.acsl_terms.specs.Terms.{typed}
use Rattle.acsl_preds.specs.declared.binders.Over.{Over}
use Rattle.acsl_preds.specs.Binders.{inside, with_bound, binders}
use Rattle.acsl_preds.specs.Preds.{labelled, number, binders_typed, place_at, typed_pred, quantifier_typed}
use Rattle.acsl_well_typed.specs.WellTyped.{an_integer, Names, types_give}
use Rattle.acsl_well_typed.specs.Terms.{HaveTypes, known_at}
use Rattle.acsl_well_typed.specs.Preds.{PredsAreWellTyped}
use Rattle.acsl_well_typed.specs.Ranges.{AreNumbered, EachBinds, RangesAreWellTyped}
use Rattle.acsl_well_typed.proofs.Answers.{after_holds, after_known, holds_at, ended_holds, ended_is, closed_holds, Of}
use Rattle.acsl_well_typed.proofs.Making.{one_gives, two_give, three_give, given}
use Rattle.acsl_well_typed.proofs.Terms.{typed_any}
use Rattle.acsl_well_typed.proofs.Regions.{valid_fits, separated_fits}
use Rattle.acsl_well_typed.proofs.Quantifiers.{under_binders, quantified_gives}
use Rattle.acsl_well_typed.proofs.Truths.{k, IsTruth, AreBound, types_more, let_fits, binders_are, call_is, chain_fits, labelled_is, two_are}
use Rattle.acsl_well_typed.proofs.Scoping.{inside_numbered, more_numbered, Numbered, all_numbered}
use Rattle.acsl_well_typed.proofs.Ending.{ends_are}

module _ (z : Bool) (c : Around) (have : HaveTypes c.definitions.items) where
  -- what is asked of a predicate, and of the names around it, where ends are looked at
  abbrev pub IsAsked : Bound → p.Pred → Type 0
  IsAsked b a = z ≡ true → AreNumbered b × EachBinds a

  -- a quantifier, where its body is a truth
  quantifier_by : (b : Bound) (ns : Names) (r : Reading) (n : Count) (line : ℕ) (q : Bool) (ds : List e.VarDecl) (a : p.Pred) → types_give b.types ≡ Some ns
      → IsAsked b a
      → ((b' : Bound) (ns' : Names) → types_give b'.types ≡ Some ns' → IsAsked b' a
      → Holds (Of (IsTruth z c have ns')) (typed_pred c b' r (with_node line n) a))
      → Holds (Of (IsTruth z c have ns)) (quantifier_typed c b r n line q ds a)
  quantifier_by b ns r n line q ds a scope asked body =
      after_known (AreBound z c have ns) (Of (IsTruth z c have ns)) (binders_typed c b (with_node line n).limit q ds a) _
      (ended_holds (AreBound z c have ns) (with_node line n).limit (with_node line n).limit (with_node line n).limit (binders c (inside b) ds (guards q ds a))
      (binders_are z c have (inside b) ns ds (guards q ds a) scope))
      (λ o is fo. after_known (Of (IsTruth z c have (under_binders o.0 ns))) (Of (IsTruth z c have ns)) (typed_pred c o.1 r (with_node line n) a) _
      (body o.1 (under_binders o.0 ns) fo (λ h. (
        numbered_by o (ended_is (with_node line n).limit (with_node line n).limit (with_node line n).limit _ o is)
            (asked h).0,
        (asked h).1,
      )))
      (λ u made fu. quantified_gives (known_at z c) (place_at line n) q o.0 ns u.0
      (ends_are z c have r q b ns ds a o (with_node line n) u asked scope
      (ended_is (with_node line n).limit (with_node line n).limit (with_node line n).limit _ o is) made fo fu) fu))
    where
      numbered_by : (o : List Over × Bound) → binders c (inside b) ds (guards q ds a) ≡ Ok o → AreNumbered b → AreNumbered o.1
      numbered_by o is f = holds_at Numbered (binders c (inside b) ds (guards q ds a)) o (all_numbered c (inside b) ds (guards q ds a) (inside_numbered b f)) is

  pub pred_fits : (b : Bound) (ns : Names) (r : Reading) (n : Count) (a : p.Pred) → types_give b.types ≡ Some ns → IsAsked b a
      → Holds (Of (IsTruth z c have ns)) (typed_pred c b r n a)
  pred_fits b ns r n (p.always line) scope asked = closed_holds (IsTruth z c have ns) n.limit (with_node line n).limit (with_node line n)
      (Ok (number true)) refl
  pred_fits b ns r n (p.never line) scope asked = closed_holds (IsTruth z c have ns) n.limit (with_node line n).limit (with_node line n)
      (Ok (number false)) refl
  pred_fits b ns r n (p.chain line terms ops) scope asked = chain_fits z c have b ns r n line terms ops scope
  pred_fits b ns r n (p.valid line a) scope asked = valid_fits z c b ns have scope r n line true a
  pred_fits b ns r n (p.valid_read line a) scope asked = valid_fits z c b ns have scope r n line false a
  pred_fits b ns r n (p.separated line terms) scope asked = separated_fits z c b ns have scope r n line terms
  pred_fits b ns r n (p.call line f args) scope asked = call_is z c have b ns r n line f args scope
  pred_fits b ns r n (p.not_of line a) scope asked =
      after_holds (Of (IsTruth z c have ns)) (Of (IsTruth z c have ns)) (typed_pred c b r (with_node line n) a) _
      (pred_fits b ns r (with_node line n) a scope asked) (λ x fx. one_gives (k z c have) ns head.Not x.0 an_integer refl fx)
  pred_fits b ns r n (p.old line a) scope asked =
      after_holds (Of (IsTruth z c have ns)) (Of (IsTruth z c have ns)) (typed_pred c b (under_if (old_at c.site) r) (with_node line n) a) _
      (pred_fits b ns (under_if (old_at c.site) r) (with_node line n) a scope asked)
      (λ x fx. closed_holds (IsTruth z c have ns) n.limit (with_node line n).limit x.1 (labelled line (old_at c.site) x.0)
      (labelled_is z c have ns line (old_at c.site) x.0 fx))
  pred_fits b ns r n (p.and_of line a d) scope asked =
      two_are z c have ns line head.And (typed_pred c b r n a) (λ m. typed_pred c b r m d)
      (λ u v f d. two_give (k z c have) ns head.And u v an_integer an_integer refl f d) (pred_fits b ns r n a scope (λ h. ((asked h).0, (asked h).1.0)))
      (λ m. pred_fits b ns r m d scope (λ h. ((asked h).0, (asked h).1.1)))
  pred_fits b ns r n (p.xor_of line a d) scope asked =
      two_are z c have ns line head.Xor (typed_pred c b r n a) (λ m. typed_pred c b r m d)
      (λ u v f d. two_give (k z c have) ns head.Xor u v an_integer an_integer refl f d) (pred_fits b ns r n a scope (λ h. ((asked h).0, (asked h).1.0)))
      (λ m. pred_fits b ns r m d scope (λ h. ((asked h).0, (asked h).1.1)))
  pred_fits b ns r n (p.or_of line a d) scope asked =
      two_are z c have ns line head.Or (typed_pred c b r n a) (λ m. typed_pred c b r m d)
      (λ u v f d. two_give (k z c have) ns head.Or u v an_integer an_integer refl f d) (pred_fits b ns r n a scope (λ h. ((asked h).0, (asked h).1.0)))
      (λ m. pred_fits b ns r m d scope (λ h. ((asked h).0, (asked h).1.1)))
  pred_fits b ns r n (p.implies line a d) scope asked =
      two_are z c have ns line head.Implies (typed_pred c b r n a) (λ m. typed_pred c b r m d)
      (λ u v f d. two_give (k z c have) ns head.Implies u v an_integer an_integer refl f d)
      (pred_fits b ns r n a scope (λ h. ((asked h).0, (asked h).1.0))) (λ m. pred_fits b ns r m d scope (λ h. ((asked h).0, (asked h).1.1)))
  pred_fits b ns r n (p.iff line a d) scope asked =
      two_are z c have ns line head.Iff (typed_pred c b r n a) (λ m. typed_pred c b r m d)
      (λ u v f d. two_give (k z c have) ns head.Iff u v an_integer an_integer refl f d) (pred_fits b ns r n a scope (λ h. ((asked h).0, (asked h).1.0)))
      (λ m. pred_fits b ns r m d scope (λ h. ((asked h).0, (asked h).1.1)))
  pred_fits b ns r n (p.cond line test a d) scope asked =
      after_holds (Of (IsTruth z c have ns)) (Of (IsTruth z c have ns)) (typed_pred c b r n test) _
      (pred_fits b ns r n test scope (λ h. ((asked h).0, (asked h).1.0))) (λ x fx.
      after_holds (Of (IsTruth z c have ns)) (Of (IsTruth z c have ns)) (typed_pred c b r (with_node line x.1) a) _
      (pred_fits b ns r (with_node line x.1) a scope (λ h. ((asked h).0, (asked h).1.1))) (λ y fy.
      after_holds (Of (IsTruth z c have ns)) (Of (IsTruth z c have ns)) (typed_pred c b r y.1 d) _
      (pred_fits b ns r y.1 d scope (λ h. ((asked h).0, (asked h).1.2)))
      (λ q fq. three_give (k z c have) ns head.Choose x.0 y.0 q.0 an_integer an_integer an_integer refl fx fy fq)))
  pred_fits b ns r n (p.let_in line x value a) scope asked =
      after_holds (Of (Fits (given (k z c have) ns))) (Of (IsTruth z c have ns)) (typed c b r (with_node line n) value) _
      (typed_any z c b ns have scope r (with_node line n) value)
      (λ v fv. let_fits z c have ns (with_node line n).limit line n (valued line v.0) (λ u. typed_pred c (with_bound (inside b) x u) r v.1 a)
      (valued_fits (given (k z c have) ns) line v.0 fv)
      (λ u w e. pred_fits (with_bound (inside b) x u) (ns ++ w ∷ []) r v.1 a (types_more b.types ns u w scope e)
      (λ h. (more_numbered (inside b) x u (inside_numbered b (asked h).0) ((enters b.scopes).free x), (asked h).1))))
  pred_fits b ns r n (p.for_all line ds a) scope asked =
      quantifier_by b ns r n line true ds a scope (λ h. ((asked h).0, (asked h).1.1))
      (λ b' ns' scope' asked'. pred_fits b' ns' r (with_node line n) a scope' asked')
  pred_fits b ns r n (p.for_some line ds a) scope asked =
      quantifier_by b ns r n line false ds a scope (λ h. ((asked h).0, (asked h).1.1))
      (λ b' ns' scope' asked'. pred_fits b' ns' r (with_node line n) a scope' asked')

not_so : {X : Type 0} → ◌≡◌ {A = Bool} false true → X
not_so e = absurd cc

pub preds_are_well_typed : PredsAreWellTyped
preds_are_well_typed c b ns r n a have scope = pred_fits false c have b ns r n a scope (λ h. not_so h)

pub ranges_are_well_typed : RangesAreWellTyped
ranges_are_well_typed c b ns r n a have scope numbered binds = pred_fits true c have b ns r n a scope (λ h. (numbered, binds))
