-- The ends of a chain of comparisons in one direction, where an integer stands behind the first one.
use Rattle.std.proofs.Common.{◌≡◌, ℕ, suc, ◌-◌, Bool, true, false, ◌&&◌, ◌||◌, if◌then◌else◌, List, [], ◌∷◌, length, Option, Some, None, slice_get, arith, refl, ap, sym, ◌∙◌, subst, inl, inr, ◌⊎◌}
use Rattle.std.specs.Option.{option_and_then}
use Rattle.std.specs.List.{list_all}
use Rattle.std.proofs.lemmas.Bool.{and_parts}
use Rattle.std.proofs.lemmas.List.{reverse-reverse}
use mathlib.Core.List.{reverse, reverse_aux}
use Rattle.c_syntax.specs.declared.expr.BinOp.{BinOp}
use Rattle.c_syntax.specs.declared.expr.BinOp.TheVariants as op
use Rattle.c_syntax.specs.Term as t
use Rattle.typed_prog.specs.declared.operators.Comparison.{Comparison}
use Rattle.acsl_guards.specs.Mentions.{Names as NotThese, holds_one}
use Rattle.acsl_guards.specs.Chains.{rises, falls, one_way}
use Rattle.acsl_trees.specs.declared.heads.Head.TheVariants as head
use Rattle.acsl_trees.specs.declared.operands.TermType.{TermType}
use Rattle.acsl_trees.specs.declared.operands.TermType.TheVariants as type
use Rattle.acsl_trees.specs.declared.operands.Sort.{Sort}
use Rattle.acsl_trees.specs.declared.operands.Sort.TheVariants as sort
use Rattle.acsl_trees.specs.Tree.{Tree, node, trees_of, list_of, leaf, one}
use Rattle.acsl_trees.specs.Operands.{Operand, operand}
use Rattle.acsl_rules.specs.Values.{valued}
use Rattle.acsl_rules.specs.Sorts.{is_pointer, alike}
use Rattle.acsl_rules.specs.Operators.{compare_by, are_numbers, ordered, are_equatable, equated}
use Rattle.acsl_rules.specs.Chains.{onto, all_valued, first_op, other_ops, is_equality, is_first_equality, nulls_behind, with_nulls, comparison_of, both_or_neither, link_by, link, links, chained, chain}
use Rattle.acsl_rules.specs.Laws as l
use Rattle.acsl_rules.specs.Laws.{Fits, Holds}
use Rattle.acsl_rules.proofs.Fitting.{FitsValue, IsValue, valued_fits}
use Rattle.acsl_names.specs.declared.names.Bound.{Bound}
use Rattle.acsl_names.specs.declared.names.Reading.{Reading}
use Rattle.acsl_names.specs.declared.names.Meaning.{Meaning}
use Rattle.acsl_names.specs.declared.names.Meaning.TheVariants as meaning
use Rattle.acsl_names.specs.declared.counting.Count.{Count}
use Rattle.acsl_names.specs.Names.{Around, meaning_at}
use Rattle.acsl_names.specs.Counting.{with_node}
use Rattle.acsl_terms.specs.Leaves.{bound_by}
use Rattle.acsl_terms.specs.Terms.{typed, alone_call, with_name_counted, named}
use Rattle.acsl_preds.specs.Preds.{all_typed, onto as behind_those, chain_typed}
use Rattle.acsl_preds.specs.Ranges.{last_of, front_of, linked, back_of}
use Rattle.acsl_well_typed.specs.WellTyped as s
use Rattle.acsl_well_typed.specs.WellTyped.{What, an_integer, a_pointer, an_object, a_region, a_linked_integer, a_linked_pointer, Known, Names, no_name, types_give, integers_linked, gives, what_of, kids_give}
use Rattle.acsl_well_typed.specs.Terms.{HaveTypes, known_at, Gives}
use Rattle.acsl_well_typed.proofs.Answers.{after_holds, after_any, holds_all, holds_both, closed_holds, Of}
use Rattle.acsl_well_typed.proofs.Making.{one_gives, given, makes}
use Rattle.acsl_well_typed.proofs.Finding.{AreFine}
use Rattle.acsl_well_typed.proofs.Terms.{typed_fits, typed_any}
use Rattle.acsl_well_typed.proofs.Quantifiers.{kid_parts, node_parts}

-- ---- no operator is `==` or `!=`, so no constant becomes null

abbrev pub NoEquality : List BinOp → Type 0
NoEquality [] = Unit {0}
NoEquality (o ∷ os) = (is_equality o ≡ false) × NoEquality os

no_rises : (o : BinOp) → rises o ≡ true → is_equality o ≡ false
no_rises op.Mul e = refl
no_rises op.Div e = refl
no_rises op.Rem e = refl
no_rises op.Add e = refl
no_rises op.Sub e = refl
no_rises op.Shl e = refl
no_rises op.Shr e = refl
no_rises op.Less e = refl
no_rises op.AtMost e = refl
no_rises op.Greater e = refl
no_rises op.AtLeast e = refl
no_rises op.Equal e = absurd cc
no_rises op.NotEqual e = absurd cc
no_rises op.BitAnd e = refl
no_rises op.BitXor e = refl
no_rises op.BitOr e = refl
no_rises op.And e = refl
no_rises op.Or e = refl

no_falls : (o : BinOp) → falls o ≡ true → is_equality o ≡ false
no_falls op.Mul e = refl
no_falls op.Div e = refl
no_falls op.Rem e = refl
no_falls op.Add e = refl
no_falls op.Sub e = refl
no_falls op.Shl e = refl
no_falls op.Shr e = refl
no_falls op.Less e = refl
no_falls op.AtMost e = refl
no_falls op.Greater e = refl
no_falls op.AtLeast e = refl
no_falls op.Equal e = absurd cc
no_falls op.NotEqual e = absurd cc
no_falls op.BitAnd e = refl
no_falls op.BitXor e = refl
no_falls op.BitOr e = refl
no_falls op.And e = refl
no_falls op.Or e = refl

all_no : (q : BinOp → Bool) (os : List BinOp) → ((o : BinOp) → q o ≡ true → is_equality o ≡ false) → list_all q os ≡ true → NoEquality os
all_no q [] go e = tt
all_no q (o ∷ os) go e = let p : (q o ≡ true) × (list_all q os ≡ true) = and_parts (q o) (list_all q os) e in (go o p.0, all_no q os go p.1)

way_by : (a b : Bool) → (a || b) ≡ true → (a ≡ true) ⊎ (b ≡ true)
way_by true b e = inl refl
way_by false b e = inr e

pub no_equality : (os : List BinOp) → one_way os ≡ true → NoEquality os
no_equality os e = by_way (way_by (list_all rises os) (list_all falls os) e)
  where
    by_way : (list_all rises os ≡ true) ⊎ (list_all falls os ≡ true) → NoEquality os
    by_way (inl h) = all_no rises os no_rises h
    by_way (inr h) = all_no falls os no_falls h

never : (a : Bool) → (a && false) ≡ false
never true = refl
never false = refl

first_no : (os : List BinOp) → NoEquality os → is_first_equality (first_op os) ≡ false
first_no [] free = refl
first_no (o ∷ os) free = free.0

others_no : (os : List BinOp) → NoEquality os → NoEquality (other_ops os)
others_no [] free = tt
others_no (o ∷ os) free = free.1

nulls_same : (os : List BinOp) (vs : List Operand) → NoEquality os → nulls_behind false os vs ≡ vs
nulls_same os [] free = refl
nulls_same os (v ∷ vs) free =
    ap (λ b. v ∷ nulls_behind b (other_ops os) vs) (ap (λ b. is_pointer v.sort && b) (first_no os free) ∙ never (is_pointer v.sort))
    ∙ ap (λ vs. v ∷ vs) (nulls_same (other_ops os) vs (others_no os free))

turned_onto : (os done : List BinOp) → NoEquality os → NoEquality done → NoEquality (reverse_aux os done)
turned_onto [] done f h = h
turned_onto (o ∷ os) done f h = turned_onto os (o ∷ done) f.1 (f.0, h)

pub nulls_are_same : (os : List BinOp) (vs : List Operand) → NoEquality os → with_nulls os vs ≡ vs
unfolding with_nulls
nulls_are_same os vs free =
    ap (λ us. reverse (nulls_behind false (reverse os) (reverse us))) (nulls_same os vs free)
    ∙ ap reverse (nulls_same (reverse os) (reverse vs) (turned_onto os [] free tt)) ∙ reverse-reverse vs

-- ---- links

-- what is compared is this
abbrev pub IsLinkOf : Tree → Tree → Type 0
IsLinkOf t v = ((how : Comparison) × (t ≡ one (head.Link how) v)) ⊎ ((how : Comparison) × (t ≡ one (head.LinkPointers how) v))

abbrev pub AreLinksOf : List Operand → List Tree → Type 0
AreLinksOf [] [] = Unit {0}
AreLinksOf (v ∷ vs) (t ∷ ts) = IsLinkOf t v.tree × AreLinksOf vs ts
AreLinksOf _ _ = ⊥

link_by_is : (line : ℕ) (v : Tree) (how : Option Comparison) (a b : Bool) → Holds (λ t. IsLinkOf t v) (link_by line v how (compare_by a b))
link_by_is line v (Some how) true b = inl (how, refl)
link_by_is line v (Some how) false true = inr (how, refl)
link_by_is line v (Some how) false false = tt
link_by_is line v None true b = tt
link_by_is line v None false true = tt
link_by_is line v None false false = tt

related_is : (line : ℕ) (v : Tree) (how : Option Comparison) (s u : Sort) (b : Bool)
    → Holds (λ t. IsLinkOf t v) (link_by line v how (if b then equated s u else ordered s u))
unfolding equated ordered
related_is line v how s u true = link_by_is line v how (are_numbers s u) (are_equatable s u)
related_is line v how s u false = link_by_is line v how (are_numbers s u) (alike s u)

link_is : (line : ℕ) (o : Option BinOp) (s : Sort) (v : Operand) → Holds (λ t. IsLinkOf t v.tree) (link line o s v)
link_is line (Some o) s v = related_is line v.tree (comparison_of o) s v.sort (is_equality o && both_or_neither (is_pointer s) (is_pointer v.sort))
link_is line None s v = tt

links_are : (line : ℕ) (s : Sort) (os : List BinOp) (vs : List Operand) → Holds (AreLinksOf vs) (links line s os vs)
links_are line s os [] = tt
links_are line s os (v ∷ vs) =
    after_holds (λ t. IsLinkOf t v.tree) (AreLinksOf (v ∷ vs)) (link line (first_op os) s v) _ (link_is line (first_op os) s v)
    (λ t ft. after_holds (AreLinksOf vs) (AreLinksOf (v ∷ vs)) (links line v.sort (other_ops os) vs) _ (links_are line v.sort (other_ops os) vs)
    (λ ts fts. (ft, fts)))

-- the last of a list that has one
abbrev pub LastIs : {X : Type 0} → (X → Type 0) → List X → Type 0
LastIs P [] = ⊥
LastIs P (x ∷ []) = P x
LastIs P (x ∷ y ∷ zs) = LastIs P (y ∷ zs)

last_more : (x y : Tree) (zs : List Tree) → last_of (x ∷ y ∷ zs) ≡ last_of (y ∷ zs)
last_more x y zs = ap (slice_get (x ∷ y ∷ zs)) (behind_one (length zs))
  where
    behind_one : (n : ℕ) → suc (suc n) - 1 ≡ suc (suc n - 1)
    behind_one n = omega arith

listed : (ts : List Tree) → list_of (trees_of ts) ≡ ts
listed [] = refl
listed (t ∷ ts) = ap (λ us. t ∷ us) (listed ts)

front_link : (t v : Tree) → IsLinkOf t v → front_of t ≡ v
front_link t v (inl h) = ap front_of h.1
front_link t v (inr h) = ap front_of h.1

module _ (k : Known) (ns ms : Names) where
  -- an integer under the first names is one under the second
  abbrev pub Agrees : Tree → Type 0
  Agrees t = Gives k ns an_integer t → Gives k ms an_integer t

  abbrev pub EndsGive : Tree → Type 0
  EndsGive t = Gives k ms an_integer (front_of t) × Gives k ms an_integer (back_of t)

  link_gives : (t v : Tree) (w : What) → IsLinkOf t v → what_of k ns t ≡ Some w → Gives k ns an_integer v → w ≡ a_linked_integer
  link_gives t v w (inl h) e f = let g : what_of k ns t ≡ Some a_linked_integer = ap (what_of k ns) h.1
      ∙ one_gives k ns (head.Link h.0) v an_integer refl f in cc
  link_gives t v w (inr h) e f = let g : what_of k ns t ≡ None = ap (what_of k ns) h.1 ∙ one_gives k ns (head.LinkPointers h.0) v an_integer refl f in absurd cc

  -- all links behind one of integers
  first_linked : (w : What) (ws : List What) → s.chained (w ∷ a_linked_integer ∷ ws) ≡ Some an_integer
      → (w ≡ an_integer) × (integers_linked ws ≡ Some an_integer)
  first_linked an_integer ws e = (refl, e)
  first_linked a_pointer ws e = absurd cc
  first_linked an_object ws e = absurd cc
  first_linked a_region ws e = absurd cc
  first_linked a_linked_integer ws e = absurd cc
  first_linked a_linked_pointer ws e = absurd cc

  next_linked : (w : What) (ws : List What) → integers_linked (w ∷ ws) ≡ Some an_integer → (w ≡ a_linked_integer) × (integers_linked ws ≡ Some an_integer)
  next_linked an_integer ws e = absurd cc
  next_linked a_pointer ws e = absurd cc
  next_linked an_object ws e = absurd cc
  next_linked a_region ws e = absurd cc
  next_linked a_linked_integer ws e = (refl, e)
  next_linked a_linked_pointer ws e = absurd cc

  -- what is compared in a link of an integer
  value_by : (o : Option What) (q : List What → Option What) (w : What) → (q [] ≡ None) → ((v : What) → q (v ∷ []) ≡ Some w → v ≡ an_integer)
      → option_and_then q (option_and_then (λ v. Some (v ∷ [])) o) ≡ Some w → o ≡ Some an_integer
  value_by (Some v) q w none go e = ap (λ v. Some v) (go v e)
  value_by None q w none go e = absurd cc

  linked_integer : (how : Comparison) (v : What) → gives k ns (head.Link how) (v ∷ []) ≡ Some a_linked_integer → v ≡ an_integer
  linked_integer how an_integer e = refl
  linked_integer how a_pointer e = absurd cc
  linked_integer how an_object e = absurd cc
  linked_integer how a_region e = absurd cc
  linked_integer how a_linked_integer e = absurd cc
  linked_integer how a_linked_pointer e = absurd cc

  linked_pointer : (how : Comparison) (v : What) → gives k ns (head.LinkPointers how) (v ∷ []) ≡ Some a_linked_integer → v ≡ an_integer
  linked_pointer how an_integer e = absurd cc
  linked_pointer how a_pointer e = absurd cc
  linked_pointer how an_object e = absurd cc
  linked_pointer how a_region e = absurd cc
  linked_pointer how a_linked_integer e = absurd cc
  linked_pointer how a_linked_pointer e = absurd cc

  linked_value : (t v : Tree) → IsLinkOf t v → what_of k ns t ≡ Some a_linked_integer → Gives k ns an_integer v
  linked_value t v (inl h) e = value_by (what_of k ns v) (gives k ns (head.Link h.0)) a_linked_integer refl (linked_integer h.0)
      (ap (what_of k ns) (sym h.1) ∙ e)
  linked_value t v (inr h) e = value_by (what_of k ns v) (gives k ns (head.LinkPointers h.0)) a_linked_integer refl (linked_pointer h.0)
      (ap (what_of k ns) (sym h.1) ∙ e)

  -- the last of these, all of which compare integers
  last_gives : (x : Tree) (vs : List Operand) (ts : List Tree) (ws : List What) → AreLinksOf vs ts → kids_give k ns no_name (trees_of ts) ≡ Some ws
      → integers_linked ws ≡ Some an_integer
      → LastIs (λ v. Agrees v.tree) vs → Gives k ms an_integer (linked (last_of (x ∷ ts)))
  last_gives x [] [] ws f e all is = absurd is
  last_gives x [] (t ∷ ts) ws f e all is = absurd f
  last_gives x (v ∷ vs) [] ws f e all is = absurd f
  last_gives x (v ∷ []) (t ∷ []) ws f e all is =
      let p : (w : What) × (us : List What) × (what_of k ns t ≡ Some w) × (kids_give k ns no_name (trees_of []) ≡ Some us) ×
      (ws ≡ w ∷ us) = kid_parts k ns _ _ ws e in
      let q : (p.0 ≡ a_linked_integer) × (integers_linked p.1 ≡ Some an_integer) = next_linked p.0 p.1 (ap integers_linked (sym p.4) ∙ all) in
      ap (what_of k ms) (front_link t v.tree f.0) ∙ is (linked_value t v.tree f.0 (p.2 ∙ ap (λ w. Some w) q.0))
  last_gives x (v ∷ []) (t ∷ u ∷ ts) ws f e all is = absurd f.1
  last_gives x (v ∷ y ∷ vs) (t ∷ []) ws f e all is = absurd f.1
  last_gives x (v ∷ y ∷ vs) (t ∷ u ∷ ts) ws f e all is =
      let p : (w : What) × (us : List What) × (what_of k ns t ≡ Some w) × (kids_give k ns no_name (trees_of (u ∷ ts)) ≡ Some us) ×
      (ws ≡ w ∷ us) = kid_parts k ns _ _ ws e in
      let q : (p.0 ≡ a_linked_integer) × (integers_linked p.1 ≡ Some an_integer) = next_linked p.0 p.1 (ap integers_linked (sym p.4) ∙ all) in
      ap (λ o. what_of k ms (linked o)) (last_more x t (u ∷ ts)) ∙ last_gives t (y ∷ vs) (u ∷ ts) p.1 f.1 p.3 q.1 is

  -- the first behind the first one is an integer, and the last agrees
  abbrev pub IsShaped : List Operand → Type 0
  IsShaped [] = ⊥
  IsShaped (v ∷ vs) = Gives k ns an_integer v.tree × LastIs (λ v. Agrees v.tree) vs

  pub ends_give : (x : Tree) (vs : List Operand) (ts : List Tree) → Agrees x → IsShaped vs → AreLinksOf vs ts
      → Gives k ns an_integer (node head.Chain (trees_of (x ∷ ts)))
      → EndsGive (node head.Chain (trees_of (x ∷ ts)))
  ends_give x [] ts agree shape f e = absurd shape
  ends_give x (v ∷ vs) [] agree shape f e = absurd f
  ends_give x (v ∷ vs) (t ∷ ts) agree shape f e =
      let a : (ws : List What) × (kids_give k ns no_name (trees_of (x ∷ t ∷ ts)) ≡ Some ws) ×
      (s.chained ws ≡ Some an_integer) = node_parts k ns head.Chain _ an_integer e in
      let p : (w : What) × (us : List What) × (what_of k ns x ≡ Some w) × (kids_give k ns no_name (trees_of (t ∷ ts)) ≡ Some us) ×
      (a.0 ≡ w ∷ us) = kid_parts k ns _ _ a.0 a.1 in
      let q : (w : What) × (us : List What) × (what_of k ns t ≡ Some w) × (kids_give k ns no_name (trees_of ts) ≡ Some us) ×
      (p.1 ≡ w ∷ us) = kid_parts k ns _ _ p.1 p.3 in
      let h : q.0 ≡ a_linked_integer = link_gives t v.tree q.0 f.0 q.2 shape.0 in
      let r : (p.0 ≡ an_integer) × (integers_linked q.1 ≡ Some an_integer) =
      first_linked p.0 q.1 (ap (λ w. s.chained (p.0 ∷ w ∷ q.1)) (sym h) ∙ ap (λ us. s.chained (p.0 ∷ us)) (sym q.4) ∙ ap s.chained (sym p.4) ∙ a.2) in (
        agree (p.2 ∙ ap (λ w. Some w) r.0),
        ap (λ us. what_of k ms (linked (last_of (x ∷ t ∷ us)))) (listed ts) ∙ ap (λ o. what_of k ms (linked o)) (last_more x t ts)
            ∙ last_gives t vs ts q.1 f.1 q.3 r.1 shape.1,
      )

-- ---- a chain whose ends hold none of some names

module _ (c : Around) (b : Bound) (ns ms : Names) (have : HaveTypes c.definitions.items) (scope : types_give b.types ≡ Some ns) (xs : NotThese)
    (fine : AreFine c b ms xs) where
  abbrev pub k : Known
  k = known_at true c

  -- in order by all names, and by the others alone
  abbrev pub FitsBoth : Operand → Type 0
  FitsBoth x = Fits (given k ns) x × Fits (given k ms) x

  abbrev pub ValueAgrees : Operand → Type 0
  ValueAgrees v = Agrees k ns ms v.tree

  both_fit : (r : Reading) (n : Count) (a : t.Term) → holds_one xs a ≡ false → Holds (Of FitsBoth) (typed c b r n a)
  both_fit r n a free = holds_both (Of (Fits (given k ns))) (Of (Fits (given k ms))) (typed c b r n a) (typed_any true c b ns have scope r n a)
      (typed_fits true c b ms have xs fine r n a free)

  sort_agrees : (u : Tree) (s : Sort) → FitsValue (given k ns) u s → FitsValue (given k ms) u s → Agrees k ns ms u
  sort_agrees u (sort.Object type label) f d e = absurd f
  sort_agrees u (sort.Integer known) f d e = makes k ms l.an_integer u d
  sort_agrees u (sort.Pointer type null) f d e = let p : what_of k ns u ≡ Some a_pointer = makes k ns l.a_pointer u f in absurd cc
  sort_agrees u sort.Unknown f d e = absurd f

  value_agrees : (line : ℕ) (x : Operand) → FitsBoth x → Holds ValueAgrees (valued line x)
  value_agrees line x f =
      holds_all (λ v. IsValue (given k ns) v × IsValue (given k ms) v) ValueAgrees (valued line x) (λ v p. sort_agrees v.tree v.sort p.0 p.1)
      (holds_both (IsValue (given k ns)) (IsValue (given k ms)) (valued line x) (valued_fits (given k ns) line x f.0) (valued_fits (given k ms) line x f.1))

  -- the name of an integer
  abbrev pub IsNamed : Operand → Type 0
  IsNamed x = (i : ℕ) × (x ≡ operand (leaf (head.Name i)) (sort.Integer None)) × (slice_get ns i ≡ Some an_integer)

  abbrev pub Follow : List Operand → Type 0
  Follow [] = ⊥
  Follow (x ∷ ys) = IsNamed x × LastIs FitsBoth ys

  named_value : (line : ℕ) (x : Operand) → IsNamed x → Holds (λ v. Gives k ns an_integer v.tree) (valued line x)
  unfolding valued
  named_value line x f = subst (λ x. Holds (λ v. Gives k ns an_integer v.tree) (valued line x)) (sym f.1) f.2

  last_values : (line : ℕ) (ys : List Operand) → LastIs FitsBoth ys → Holds (LastIs ValueAgrees) (all_valued line ys)
  last_values line [] f = absurd f
  last_values line (y ∷ []) f = after_holds ValueAgrees (LastIs ValueAgrees) (valued line y) _ (value_agrees line y f) (λ v fv. fv)
  last_values line (y ∷ z ∷ zs) f =
      after_any (LastIs ValueAgrees) (valued line y) _ (λ v. after_holds (LastIs ValueAgrees) (LastIs ValueAgrees) (all_valued line (z ∷ zs)) _
      (last_values line (z ∷ zs) f) (λ vs fvs. one_more v vs fvs))
    where
      one_more : (v : Operand) (vs : List Operand) → LastIs ValueAgrees vs → LastIs ValueAgrees (v ∷ vs)
      one_more v [] f = absurd f
      one_more v (w ∷ vs) f = f

  follow_values : (line : ℕ) (ys : List Operand) → Follow ys → Holds (IsShaped k ns ms) (all_valued line ys)
  follow_values line [] f = absurd f
  follow_values line (y ∷ ys) f =
      after_holds (λ v. Gives k ns an_integer v.tree) (IsShaped k ns ms) (valued line y) _ (named_value line y f.0)
      (λ v fv. after_holds (LastIs ValueAgrees) (IsShaped k ns ms) (all_valued line ys) _ (last_values line ys f.1) (λ vs fvs. (fv, fvs)))

  abbrev pub AreValues : List Operand → Type 0
  AreValues [] = ⊥
  AreValues (v ∷ vs) = ValueAgrees v × IsShaped k ns ms vs

  -- where the whole is a truth, its ends are integers
  abbrev pub HasEnds : Tree → Type 0
  HasEnds u = Gives k ns an_integer u → EndsGive k ns ms u

  chained_ends : (line : ℕ) (os : List BinOp) (vs : List Operand) → AreValues vs → Holds HasEnds (chained line os vs)
  chained_ends line os [] f = absurd f
  chained_ends line os (v ∷ vs) f =
      after_holds (λ ts. (us : List Tree) × (ts ≡ v.tree ∷ us) × AreLinksOf vs us) HasEnds (onto (v.tree ∷ []) (links line v.sort os vs)) _
      (after_holds (AreLinksOf vs) (λ ts. (us : List Tree) × (ts ≡ v.tree ∷ us) × AreLinksOf vs us) (links line v.sort os vs) _ (links_are line v.sort os vs)
      (λ us f. (us, refl, f)))
      (λ ts p. subst (λ ts. HasEnds (node head.Chain (trees_of ts))) (sym p.1) (λ e. ends_give k ns ms v.tree vs p.0 f.0 f.1 p.2 e))

  chain_ends : (line : ℕ) (x : Operand) (ys : List Operand) (os : List BinOp) → NoEquality os → FitsBoth x → Follow ys → Holds HasEnds (chain line (x ∷ ys) os)
  unfolding chain
  chain_ends line x ys os free f fs =
      after_holds AreValues HasEnds (all_valued line (x ∷ ys)) _
      (after_holds ValueAgrees AreValues (valued line x) _ (value_agrees line x f)
      (λ v fv. after_holds (IsShaped k ns ms) AreValues (all_valued line ys) _ (follow_values line ys fs) (λ vs fvs. (fv, fvs))))
      (λ vs fvs. chained_ends line os (with_nulls os vs) (subst AreValues (sym (nulls_are_same os vs free)) fvs))

  -- ---- terms

  bound_is : (line i : ℕ) (o : Option TermType) → o ≡ Some type.Integer → slice_get ns i ≡ Some an_integer → Holds IsNamed (bound_by line i o)
  bound_is line i o e is = subst (λ o. Holds IsNamed (bound_by line i o)) (sym e) (i, refl, is)

  name_by : (r : Reading) (n : Count) (line i : ℕ) (m : Meaning) → m ≡ meaning.Bound i → slice_get b.types i ≡ Some type.Integer
      → slice_get ns i ≡ Some an_integer
      → Holds (Of IsNamed) (named c b r n line (alone_call c b n line) m)
  name_by r n line i m e is at =
      subst (λ m. Holds (Of IsNamed) (named c b r n line (alone_call c b n line) m)) (sym e)
      (closed_holds IsNamed n.limit (with_name_counted line (meaning.Bound i) n).limit (with_name_counted line (meaning.Bound i) n)
      (bound_by line i (slice_get b.types i)) (bound_is line i _ is at))

  last_typed : (r : Reading) (n : Count) (terms : List t.Term) → LastIs (λ a. holds_one xs a ≡ false) terms
      → Holds (Of (LastIs FitsBoth)) (all_typed c b r n terms)
  last_typed r n [] f = absurd f
  last_typed r n (a ∷ []) f = after_holds (Of FitsBoth) (Of (LastIs FitsBoth)) (typed c b r n a) _ (both_fit r n a f) (λ x fx. fx)
  last_typed r n (a ∷ d ∷ terms) f =
      after_any (Of (LastIs FitsBoth)) (typed c b r n a) _
      (λ x. after_holds (Of (LastIs FitsBoth)) (Of (LastIs FitsBoth)) (all_typed c b r x.1 (d ∷ terms)) _ (last_typed r x.1 (d ∷ terms) f)
      (λ ys fys. one_more x.0 ys.0 fys))
    where
      one_more : (v : Operand) (vs : List Operand) → LastIs FitsBoth vs → LastIs FitsBoth (v ∷ vs)
      one_more v [] f = absurd f
      one_more v (w ∷ vs) f = f

  pub chain_typed_ends : (r : Reading) (n : Count) (line : ℕ) (a : t.Term) (place : ℕ) (x : List ℕ) (i : ℕ) (terms : List t.Term) (os : List BinOp)
      → NoEquality os
      → meaning_at c b x ≡ meaning.Bound i → slice_get b.types i ≡ Some type.Integer → slice_get ns i ≡ Some an_integer → holds_one xs a ≡ false
      → LastIs (λ a. holds_one xs a ≡ false) terms
      → Holds (Of HasEnds) (chain_typed c b r n line (a ∷ t.name place x ∷ terms) os)
  unfolding chain_typed
  chain_typed_ends r n line a place x i terms os free is integer at first last =
      after_holds (Of FitsBoth) (Of HasEnds) (typed c b r n a) _ (both_fit r n a first)
      (λ q fq. after_holds (λ ys. (zs : List Operand) × (ys.0 ≡ q.0 ∷ zs) × Follow zs) (Of HasEnds)
      (behind_those (q.0 ∷ []) (all_typed c b r (with_node line q.1) (t.name place x ∷ terms))) _
      (after_holds (Of Follow) (λ ys. (zs : List Operand) × (ys.0 ≡ q.0 ∷ zs) × Follow zs) (all_typed c b r (with_node line q.1) (t.name place x ∷ terms)) _
      (after_holds (Of IsNamed) (Of Follow) (typed c b r (with_node line q.1) (t.name place x)) _
      (name_by r (with_node line q.1) place i (meaning_at c b x) is integer at)
      (λ y fy. after_holds (Of (LastIs FitsBoth)) (Of Follow) (all_typed c b r y.1 terms) _ (last_typed r y.1 terms last) (λ ys fys. (fy, fys))))
      (λ zs fzs. (zs.0, refl, fzs)))
      (λ ys p. closed_holds HasEnds q.1.limit (with_node line q.1).limit ys.1 (chain line ys.0 os)
      (subst (λ ys. Holds HasEnds (chain line ys os)) (sym p.1) (chain_ends line q.0 p.0 os free fq p.2))))
