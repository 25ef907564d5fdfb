-- What typing makes of predicates is a truth.
use Rattle.std.proofs.Common.{◌≡◌, ℕ, suc, Bool, true, false, List, [], ◌∷◌, ◌++◌, length, Option, Some, None, Ok, Err, slice_get, refl, ap, sym, ◌∙◌}
use Rattle.std.specs.Option.{is_some, option_map, option_and_then}
use Rattle.c_syntax.specs.declared.expr.BinOp.{BinOp}
use Rattle.c_syntax.specs.Term as t
use Rattle.c_syntax.specs.Expr as e
use Rattle.c_answers.specs.Answers.{Answer, after, wrong}
use Rattle.acsl_guards.specs.declared.ranges.Guard.{Guard}
use Rattle.acsl_trees.specs.declared.heads.Head.{Head}
use Rattle.acsl_trees.specs.declared.heads.Head.TheVariants as head
use Rattle.acsl_trees.specs.declared.heads.Label.{Label}
use Rattle.acsl_trees.specs.declared.operands.TermType.{TermType}
use Rattle.acsl_trees.specs.declared.operands.TermType.TheVariants as type
use Rattle.acsl_trees.specs.declared.operands.Sort.{Sort}
use Rattle.acsl_trees.specs.declared.operands.Sort.TheVariants as sort
use Rattle.acsl_trees.specs.Tree.{Tree, stop, more, two}
use Rattle.acsl_trees.specs.Operands.{Operand}
use Rattle.acsl_rules.specs.Chains.{chain}
use Rattle.acsl_rules.specs.Laws as l
use Rattle.acsl_rules.specs.Laws.{Leaves, Makes, Fits, AllFit, Holds}
use Rattle.acsl_rules.proofs.Fitting.{FitsValue, IsValue}
use Rattle.acsl_names.specs.declared.names.Bound.{Bound}
use Rattle.acsl_names.specs.declared.names.Reading.{Reading}
use Rattle.acsl_names.specs.declared.counting.Limit.{Limit}
use Rattle.acsl_names.specs.declared.counting.Count.{Count}
use Rattle.acsl_names.specs.Names.{Around}
use Rattle.acsl_names.specs.Counting.{with_node}
use Rattle.acsl_names.specs.Weights.{count_of}
use Rattle.acsl_terms.specs.declared.calls.Called.{Called}
use Rattle.acsl_terms.specs.declared.calls.Called.TheVariants as called
use Rattle.acsl_terms.specs.Leaves.{closed}
use Rattle.acsl_terms.specs.Calls.{called_at}
use Rattle.acsl_terms.specs.Terms.{typed, typed_for, typed_all, predicate_call}
use Rattle.acsl_preds.specs.declared.binders.Over.{Over}
use Rattle.acsl_preds.specs.Binders.{with_bound, binder_over, binders}
use Rattle.acsl_preds.specs.Preds.{all_typed, onto, chain_typed, type_of, let_by, let_tree, labelled}
use Rattle.acsl_well_typed.specs.WellTyped.{What, an_integer, a_pointer, Known, Names, a_value, binder_behind, type_gives, types_give, one_more, result_gives, gives, kids_give}
use Rattle.acsl_well_typed.specs.Terms.{HaveTypes, known_at, Gives}
use Rattle.acsl_well_typed.proofs.Answers.{after_holds, after_any, holds_all, closed_holds, Of}
use Rattle.acsl_well_typed.proofs.Making.{one_gives, given, makes}
use Rattle.acsl_well_typed.proofs.Finding.{all_fine}
use Rattle.acsl_well_typed.proofs.Terms.{lists, typed_any, typed_for_any, called_is, call_fits, CallIs, IsCall, IsMadeOf, definition_gives}
use Rattle.acsl_well_typed.proofs.Quantifiers.{under_binders}

-- ---- one name more

pub types_more : (ts : List TermType) (ns : Names) (u : TermType) (w : What) → types_give ts ≡ Some ns → type_gives u ≡ Some w
    → types_give (ts ++ u ∷ []) ≡ Some (ns ++ w ∷ [])
types_more [] ns u w h e = ap (λ o. one_more o (Some [])) e ∙ ap (λ ns. Some (ns ++ w ∷ [])) (nothing_is ns h)
  where
    nothing_is : (ns : Names) → ◌≡◌ {A = Option Names} (Some []) (Some ns) → [] ≡ ns
    nothing_is ns h = cc
types_more (s ∷ ts) ns u w h e = more_by (type_gives s) (types_give ts) (types_give (ts ++ u ∷ [])) ns w h (λ others same. types_more ts others u w same e)
  where
    more_by : (a : Option What) (o q : Option Names) (ns : Names) (w : What) → one_more a o ≡ Some ns
        → ((others : Names) → o ≡ Some others → q ≡ Some (others ++ w ∷ [])) → one_more a q ≡ Some (ns ++ w ∷ [])
    more_by (Some v) (Some others) q ns w h go = let same : v ∷ others ≡ ns = cc in ap (one_more (Some v)) (go others refl)
        ∙ ap (λ ns. Some (ns ++ w ∷ [])) same
    more_by (Some v) None q ns w h go = absurd cc
    more_by None o q ns w h go = absurd cc

counted : (args : List t.Term) → count_of (t.terms_of args) ≡ length args
counted [] = refl
counted (a ∷ args) = ap suc (counted args)

-- ---- `\let`

-- a value that a name may stand for: an integer or a pointer
abbrev pub IsNamed : What → Type 0
IsNamed w = (k : Known) (ns : Names) → gives k ns head.Let (w ∷ an_integer ∷ []) ≡ Some an_integer

let_gives : (k : Known) (ns : Names) (v u : Tree) (w : What) → IsNamed w → Gives k ns w v → Gives k (ns ++ w ∷ []) an_integer u
    → Gives k ns an_integer (two head.Let v u)
let_gives k ns v u w named f d =
    ap (λ o. option_and_then (gives k ns head.Let) (option_and_then (λ w. option_map (λ ws. w ∷ ws)
    (kids_give k ns (binder_behind a_value w) (more u stop))) o)) f
    ∙ ap (λ o. option_and_then (gives k ns head.Let) (option_map (λ ws. w ∷ ws) (option_and_then (λ v. Some (v ∷ [])) o))) d ∙ named k ns

module _ (z : Bool) (c : Around) (have : HaveTypes c.definitions.items) where
  abbrev pub k : Known
  k = known_at z c

  abbrev pub IsTruth : Names → Tree → Type 0
  IsTruth ns u = Gives k ns an_integer u

  -- what is a value is an integer or a pointer, as its type says
  value_is : (ns : Names) (u : Tree) (s : Sort) → FitsValue (given k ns) u s → (w : What) × (type_gives (type_of s) ≡ Some w) × IsNamed w × Gives k ns w u
  value_is ns u (sort.Object type label) f = absurd f
  value_is ns u (sort.Integer known) f = (an_integer, refl, (λ k ns. refl), makes k ns l.an_integer u f)
  value_is ns u (sort.Pointer type null) f = (a_pointer, refl, (λ k ns. refl), makes k ns l.a_pointer u f)
  value_is ns u sort.Unknown f = absurd f

  -- the body of a `\let` under a name of this type
  pub let_fits : (ns : Names) (at : Limit) (line : ℕ) (n : Count) (o : Answer Operand) (body : TermType → Answer (Tree × Count))
      → Holds (IsValue (given k ns)) o
      → ((u : TermType) (w : What) → type_gives u ≡ Some w → Holds (Of (IsTruth (ns ++ w ∷ []))) (body u))
      → Holds (Of (IsTruth ns)) (after (body (let_by o).type) (λ u. closed n.limit at u.1 (let_tree line (let_by o).is_value (let_by o).tree u.0)))
  let_fits ns at line n (Ok v) body f go =
      let p : (w : What) × (type_gives (type_of v.sort) ≡ Some w) × IsNamed w × Gives k ns w v.tree = value_is ns v.tree v.sort f in
      after_holds (Of (IsTruth (ns ++ p.0 ∷ []))) (Of (IsTruth ns)) (body (type_of v.sort)) _ (go (type_of v.sort) p.0 p.1)
      (λ u fu. closed_holds (IsTruth ns) n.limit at u.1 (let_tree line true v.tree u.0) (let_gives k ns v.tree u.0 p.0 p.2 p.3 fu))
  let_fits ns at line n (Err r) body f go =
      after_any (Of (IsTruth ns)) (body type.Unknown) _ (λ u. closed_holds (IsTruth ns) n.limit at u.1 (wrong line) tt)

  -- ---- binders

  abbrev pub AreBound : Names → List Over × Bound → Type 0
  AreBound ns r = types_give r.1.types ≡ Some (under_binders r.0 ns)

  binder_by : (b : Bound) (ns : Names) (d : e.VarDecl) (ds : List e.VarDecl) (gs : List (Option Guard)) (o : Answer Over)
      → Holds (AreBound (ns ++ an_integer ∷ [])) (binders c (with_bound b d.name type.Integer) ds gs)
      → Holds (AreBound ns) (after {X = Over × Bound} (after o (λ o. Ok (o, with_bound b d.name type.Integer)))
      (λ o. after (binders c o.1 ds gs) (λ r. Ok (o.0 ∷ r.0, r.1))))
  binder_by b ns d ds gs (Ok o) f = after_holds (AreBound (ns ++ an_integer ∷ [])) (AreBound ns) (binders c (with_bound b d.name type.Integer) ds gs) _ f
      (λ r f. f)
  binder_by b ns d ds gs (Err r) f = tt

  pub binders_are : (b : Bound) (ns : Names) (ds : List e.VarDecl) (gs : List (Option Guard)) → types_give b.types ≡ Some ns
      → Holds (AreBound ns) (binders c b ds gs)
  binders_are b ns [] [] scope = scope
  binders_are b ns [] (q ∷ gs) scope = scope
  binders_are b ns (d ∷ ds) [] scope = scope
  binders_are b ns (d ∷ ds) (q ∷ gs) scope =
      binder_by b ns d ds gs (binder_over c b d q)
      (binders_are (with_bound b d.name type.Integer) (ns ++ an_integer ∷ []) ds gs (types_more b.types ns type.Integer an_integer scope refl))

  -- ---- calls

  no_result : (o : Option TermType) (w : What) → is_some o ≡ false → result_gives o ≡ Some w → w ≡ an_integer
  no_result None w none e = cc
  no_result (Some u) w none e = absurd cc

  no_call : (w : What) → ◌≡◌ {A = Option What} None (Some w) → ⊥
  no_call w e = absurd cc

  definition_is : (b : Bound) (ns : Names) (scope : types_give b.types ≡ Some ns) (count i : ℕ) (w : What)
      → IsCall z c b ns have [] (all_fine c b ns scope) false count i
      → definition_gives z c b ns have [] (all_fine c b ns scope) (slice_get c.definitions.items i) ≡ Some w → w ≡ an_integer
  definition_is b ns scope count i w is e = no_result is.0.result w is.2 (sym (ap (definition_gives z c b ns have [] (all_fine c b ns scope)) is.1) ∙ e)

  predicate_is : (b : Bound) (ns : Names) (scope : types_give b.types ≡ Some ns) (count : ℕ) (f : Called) (u : Tree)
      → CallIs z c b ns have [] (all_fine c b ns scope) false count f → IsMadeOf z c b ns have [] (all_fine c b ns scope) f u → IsTruth ns u
  predicate_is b ns scope count (called.Recursive i) u is made = made.tree ∙ ap (λ w. Some w) (definition_is b ns scope count i made.what is made.result)
  predicate_is b ns scope count (called.Expanded i) u is made = made.tree ∙ ap (λ w. Some w) (definition_is b ns scope count i made.what is made.result)
  predicate_is b ns scope count called.Unknown u is made = absurd (no_call made.what made.result)
  predicate_is b ns scope count (called.Wrong r) u is made = absurd (no_call made.what made.result)

  pub call_made : (b : Bound) (ns : Names) (r : Reading) (n : Count) (line : ℕ) (f : List ℕ) (args : List t.Term) (scope : types_give b.types ≡ Some ns)
      → Holds (Of (IsMadeOf z c b ns have [] (all_fine c b ns scope) (called_at c b false (length args) f)))
      (predicate_call c b r n line (t.terms_of args) (called_at c b false (length args) f))
  unfolding predicate_call
  call_made b ns r n line f args scope =
      call_fits z c b ns have [] (all_fine c b ns scope) false (length args) n line (t.terms_of args) (λ m params. typed_for c b r m params (t.terms_of args))
      (λ m. typed_all c b r m (t.terms_of args))
      (called_at c b false (length args) f) (called_is z c b ns have [] (all_fine c b ns scope) false (length args) _)
      (λ m params ws e same. typed_for_any z c b ns have scope r m params (t.terms_of args) ws e (same ∙ sym (counted args)))

  pub call_is : (b : Bound) (ns : Names) (r : Reading) (n : Count) (line : ℕ) (f : List ℕ) (args : List t.Term) → types_give b.types ≡ Some ns
      → Holds (Of (IsTruth ns)) (predicate_call c b r n line (t.terms_of args) (called_at c b false (length args) f))
  call_is b ns r n line f args scope =
      holds_all (Of (IsMadeOf z c b ns have [] (all_fine c b ns scope) (called_at c b false (length args) f))) (Of (IsTruth ns)) _
      (λ u made. predicate_is b ns scope (length args) (called_at c b false (length args) f) u.0
      (called_is z c b ns have [] (all_fine c b ns scope) false (length args) _) made)
      (call_made b ns r n line f args scope)

  -- ---- chains

  all_fit : (b : Bound) (ns : Names) (r : Reading) (n : Count) (terms : List t.Term) → types_give b.types ≡ Some ns
      → Holds (Of (AllFit (given k ns))) (all_typed c b r n terms)
  all_fit b ns r n [] scope = tt
  all_fit b ns r n (a ∷ rest) scope =
      after_holds (Of (Fits (given k ns))) (Of (AllFit (given k ns))) (typed c b r n a) _ (typed_any z c b ns have scope r n a)
      (λ x fx. after_holds (Of (AllFit (given k ns))) (Of (AllFit (given k ns))) (all_typed c b r x.1 rest) _ (all_fit b ns r x.1 rest scope)
      (λ xs fxs. (fx, fxs)))

  chain_is : (b : Bound) (ns : Names) (line : ℕ) (xs : List Operand) (ops : List BinOp) → types_give b.types ≡ Some ns → AllFit (given k ns) xs
      → Holds (IsTruth ns) (chain line xs ops)
  chain_is b ns line xs ops scope f =
      holds_all (Makes (given k ns) l.an_integer) (IsTruth ns) (chain line xs ops) (λ u m. makes k ns l.an_integer u m)
      ((lists z c b ns have [] (all_fine c b ns scope)).of_terms line xs ops f)

  pub chain_fits : (b : Bound) (ns : Names) (r : Reading) (n : Count) (line : ℕ) (terms : List t.Term) (ops : List BinOp) → types_give b.types ≡ Some ns
      → Holds (Of (IsTruth ns)) (chain_typed c b r n line terms ops)
  unfolding chain_typed
  chain_fits b ns r n line [] ops scope = closed_holds (IsTruth ns) n.limit (with_node line n).limit (with_node line n) (chain line [] ops)
      (chain_is b ns line [] ops scope tt)
  chain_fits b ns r n line (a ∷ rest) ops scope =
      after_holds (Of (Fits (given k ns))) (Of (IsTruth ns)) (typed c b r n a) _ (typed_any z c b ns have scope r n a)
      (λ x fx. after_holds (Of (AllFit (given k ns))) (Of (IsTruth ns)) (onto (x.0 ∷ []) (all_typed c b r (with_node line x.1) rest)) _
      (after_holds (Of (AllFit (given k ns))) (Of (AllFit (given k ns))) (all_typed c b r (with_node line x.1) rest) _
      (all_fit b ns r (with_node line x.1) rest scope) (λ xs fxs. (fx, fxs)))
      (λ xs fxs. closed_holds (IsTruth ns) x.1.limit (with_node line x.1).limit xs.1 (chain line xs.0 ops) (chain_is b ns line xs.0 ops scope fxs)))

  -- ---- predicates

  pub labelled_is : (ns : Names) (line : ℕ) (o : Option Label) (u : Tree) → IsTruth ns u → Holds (IsTruth ns) (labelled line o u)
  labelled_is ns line (Some x) u f = one_gives k ns (head.At x) u an_integer refl f
  labelled_is ns line None u f = tt

  pub two_are : (ns : Names) (line : ℕ) (h : Head) (o : Answer (Tree × Count)) (q : Count → Answer (Tree × Count))
      → ((u v : Tree) → IsTruth ns u → IsTruth ns v → IsTruth ns (two h u v)) → Holds (Of (IsTruth ns)) o → ((m : Count) → Holds (Of (IsTruth ns)) (q m))
      → Holds (Of (IsTruth ns)) (after o (λ x. after (q (with_node line x.1)) (λ y. Ok (two h x.0 y.0, y.1))))
  two_are ns line h o q join f d =
      after_holds (Of (IsTruth ns)) (Of (IsTruth ns)) o _ f (λ x fx. after_holds (Of (IsTruth ns)) (Of (IsTruth ns)) (q (with_node line x.1)) _
      (d (with_node line x.1)) (λ y fy. join x.0 y.0 fx fy))
