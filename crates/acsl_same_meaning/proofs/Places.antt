-- What typing makes of sets of addresses is well formed, and so is what is said of them.
use Rattle.std.proofs.Common.{◌≡◌, ℕ, Bool, true, false, List, [], ◌∷◌, length, Option, Some, None, Ok, refl}
use Rattle.c_syntax.specs.Term as t
use Rattle.c_syntax.specs.Lines.{term_line_of}
use Rattle.c_answers.specs.Answers.{Answer, wrong}
use Rattle.typed_prog.specs.declared.types.CoreType.{CoreType}
use Rattle.typed_prog.specs.Types.{element_of}
use Rattle.acsl_trees.specs.declared.heads.Content.{Content}
use Rattle.acsl_trees.specs.declared.operands.Sort.{Sort}
use Rattle.acsl_trees.specs.declared.operands.Sort.TheVariants as sort
use Rattle.acsl_trees.specs.Tree.{Tree, trees_of}
use Rattle.acsl_trees.specs.Operands.{Operand}
use Rattle.acsl_rules.specs.Sorts.{content}
use Rattle.acsl_rules.specs.Laws.{Holds}
use Rattle.acsl_names.specs.declared.names.Bound.{Bound}
use Rattle.acsl_names.specs.declared.names.Reading.{Reading}
use Rattle.acsl_names.specs.declared.counting.Count.{Count}
use Rattle.acsl_names.specs.Names.{Around}
use Rattle.acsl_names.specs.Counting.{with_node}
use Rattle.acsl_terms.specs.Leaves.{misshapen}
use Rattle.acsl_terms.specs.Steps.{local_of}
use Rattle.acsl_terms.specs.Terms.{typed}
use Rattle.acsl_places.specs.Spans.{Span, Ranged, indexed_range, added_range, starred_range}
use Rattle.acsl_places.specs.Places.{may_end, end_checked, end_typed, ends_typed, reach, range_typed, entry_by, is_own_parameter, region_with, whole_array, region_by, entry_region, entry, Aim, pointer, addresses, aimed_by, aimed, all_aimed, content_by, content_of, region_of, valid_at, region_tree, region_trees, separated_at, valid_typed, separated_typed}
use Rattle.c_runs.specs.TruthLaws.{Signatures, are_well_formed}
use Rattle.acsl_same_meaning.specs.Trees.{Signed, MayLabel}
use Rattle.acsl_same_meaning.proofs.Answers.{after_holds, if_holds, closed_holds, Of}
use Rattle.acsl_same_meaning.proofs.Operators.{both, only, Good, IsGood, Made}
use Rattle.acsl_same_meaning.proofs.Objects.{IsSet, elements_fit, behind_fits, pointed_fits}
use Rattle.acsl_same_meaning.proofs.Terms.{typed_any}

module _ (l u : Bool) (s : Signatures) (c : Around) (b : Bound) (sig : Signed s c.definitions.items) (lab : MayLabel l c.site) where
  abbrev around : ℕ
  around = length b.types

  abbrev G : Tree → Type 0
  G = Good l u s around

  abbrev I : Operand → Type 0
  I = IsGood l u s around

  abbrev M : Answer Operand → Type 0
  M = Made l u s around

  of_term : (r : Reading) (n : Count) (a : t.Term) → Holds (Of I) (typed c b r n a)
  of_term r n a = typed_any l s c b sig lab u r n a

  -- ---- ranges

  end_fits : (r : Reading) (n : Count) (a : t.Term) → Holds (Of I) (end_typed c b r n a)
  end_fits r n a =
      after_holds (Of I) (Of I) (typed c b r n a) _ (of_term r n a)
      (λ x fx. closed_holds I n.limit n.limit x.1 (end_checked (term_line_of a) x.0) (if_holds I (may_end x.0.sort) (Ok x.0) (wrong (term_line_of a)) fx tt))

  abbrev BothFit : Operand × Operand → Type 0
  BothFit q = I q.0 × I q.1

  ends_fit : (r : Reading) (n : Count) (q : Span) → Holds (Of BothFit) (ends_typed c b r n q)
  ends_fit r n q =
      after_holds (Of I) (Of BothFit) (end_typed c b r n q.low) _ (end_fits r n q.low)
      (λ x fx. after_holds (Of I) (Of BothFit) (end_typed c b r (with_node q.line x.1) q.high) _ (end_fits r (with_node q.line x.1) q.high) (λ y fy. (fx, fy)))

  reach_fits : (is_index : Bool) (z : Ranged) (x low high : Operand) → I x → I low → I high → M (reach c is_index z x low high)
  reach_fits true z x low high f g h = elements_fit l u s around c.sizes z.line (term_line_of z.span.low) (term_line_of z.span.high) x low high f g h
  reach_fits false z x low high f g h = behind_fits l u s around c.sizes z.line (term_line_of z.span.low) (term_line_of z.span.high) x low high f g h

  range_fits : (r : Reading) (n : Count) (is_index : Bool) (z : Ranged) → Holds (Of I) (range_typed c b r n is_index z)
  range_fits r n is_index z =
      after_holds (Of I) (Of I) (typed c b r n z.base) _ (of_term r n z.base)
      (λ x fx. after_holds (Of BothFit) (Of I) (ends_typed c b r (with_node z.line x.1) z.span) _ (ends_fit r (with_node z.line x.1) z.span)
      (λ q fq. closed_holds I x.1.limit (with_node z.line x.1).limit q.1 (reach c is_index z x.0 q.0.0 q.0.1)
      (reach_fits is_index z x.0 q.0.0 q.0.1 fx fq.0 fq.1)))

  -- ---- entries of `assigns`

  entry_by_fits : (r : Reading) (n : Count) (a : t.Term) (indexed starred : Option Ranged) → Holds (Of I) (entry_by c b r n a indexed starred)
  entry_by_fits r n a (Some z) starred = range_fits r n true z
  entry_by_fits r n a None (Some z) = range_fits r (with_node (term_line_of a) n) false z
  entry_by_fits r n a None None = of_term r n a

  region_with_fits : (line : ℕ) (v : Tree) (o : Option Content) → G v → Holds G (region_with line v o)
  region_with_fits line v (Some q) f = only f
  region_with_fits line v None f = tt

  region_by_fits : (line : ℕ) (type : CoreType) (v : Tree) (count : Option ℕ) → G v → Holds G (region_by c line type v count)
  region_by_fits line type v (Some n) f = region_with_fits line (whole_array c type v n) (content (element_of type)) (only f)
  region_by_fits line type v None f = region_with_fits line v (content type) f

  entry_region_fits : (line : ℕ) (v : Tree) (q : Sort) → G v → Holds G (entry_region c line v q)
  entry_region_fits line v (sort.Object type None) f =
      if_holds G (is_own_parameter c (local_of v)) (misshapen line) (region_by c line type v type.count) tt (region_by_fits line type v type.count f)
  entry_region_fits line v (sort.Object type (Some x)) f = tt
  entry_region_fits line v (sort.Integer known) f = tt
  entry_region_fits line v (sort.Pointer type null) f = tt
  entry_region_fits line v sort.Unknown f = tt

  pub entry_fits : (r : Reading) (n : Count) (a : t.Term) → Holds (Of G) (entry c b r n a)
  unfolding entry
  entry_fits r n a =
      after_holds (Of I) (Of G) (entry_by c b r n a (indexed_range a) (starred_range a)) _ (entry_by_fits r n a (indexed_range a) (starred_range a))
      (λ x fx. closed_holds G n.limit n.limit x.1 (entry_region c (term_line_of a) x.0.tree x.0.sort) (entry_region_fits (term_line_of a) x.0.tree x.0.sort fx))

  -- ---- `\valid` and `\separated`

  abbrev AimFits : Aim → Type 0
  AimFits (pointer x) = I x
  AimFits (addresses x) = I x

  aimed_by_fits : (r : Reading) (n : Count) (a : t.Term) (z : Option Ranged) → Holds (Of AimFits) (aimed_by c b r n a z)
  aimed_by_fits r n a (Some z) = after_holds (Of I) (Of AimFits) (range_typed c b r n false z) _ (range_fits r n false z) (λ x fx. fx)
  aimed_by_fits r n a None = after_holds (Of I) (Of AimFits) (typed c b r n a) _ (of_term r n a) (λ x fx. fx)

  aimed_fits : (r : Reading) (n : Count) (a : t.Term) → Holds (Of AimFits) (aimed c b r n a)
  unfolding aimed
  aimed_fits r n a = aimed_by_fits r n a (added_range a)

  abbrev AllAimed : List Aim → Type 0
  AllAimed [] = Unit {0}
  AllAimed (x ∷ xs) = AimFits x × AllAimed xs

  all_aimed_fit : (r : Reading) (n : Count) (terms : List t.Term) → Holds (Of AllAimed) (all_aimed c b r n terms)
  all_aimed_fit r n [] = tt
  all_aimed_fit r n (a ∷ rest) =
      after_holds (Of AimFits) (Of AllAimed) (aimed c b r n a) _ (aimed_fits r n a)
      (λ x fx. after_holds (Of AllAimed) (Of AllAimed) (all_aimed c b r x.1 rest) _ (all_aimed_fit r x.1 rest) (λ xs fxs. (fx, fxs)))

  abbrev S : Tree × Content → Type 0
  S = IsSet l u s around

  content_by_fits : (line : ℕ) (v : Tree) (o : Option Content) → G v → Holds S (content_by line v o)
  content_by_fits line v (Some q) f = f
  content_by_fits line v None f = tt

  content_fits : (line : ℕ) (v : Tree) (q : Sort) → G v → Holds S (content_of line v q)
  content_fits line v (sort.Object type label) f = content_by_fits line v (content type) f
  content_fits line v (sort.Integer known) f = tt
  content_fits line v (sort.Pointer type null) f = tt
  content_fits line v sort.Unknown f = f

  set_fits : (line : ℕ) (x : Aim) → AimFits x → Holds S (region_of line x)
  set_fits line (addresses x) f = content_fits line x.tree x.sort f
  set_fits line (pointer x) f = pointed_fits l u s around line x f

  valid_at_fits : (line : ℕ) (writable : Bool) (x : Aim) → AimFits x → Holds G (valid_at line writable x)
  unfolding valid_at
  valid_at_fits line writable x f = after_holds S G (region_of line x) _ (set_fits line x f) (λ q fq. only fq)

  pub valid_fits : (r : Reading) (n : Count) (line : ℕ) (writable : Bool) (a : t.Term) → Holds (Of G) (valid_typed c b r n line writable a)
  unfolding valid_typed
  valid_fits r n line writable a =
      after_holds (Of AimFits) (Of G) (aimed c b r (with_node line n) a) _ (aimed_fits r (with_node line n) a)
      (λ x fx. closed_holds G n.limit (with_node line n).limit x.1 (valid_at line writable x.0) (valid_at_fits line writable x.0 fx))

  abbrev AreRegions : List Tree → Type 0
  AreRegions vs = are_well_formed l u s around false (trees_of vs) ≡ true

  region_tree_fits : (line : ℕ) (x : Aim) → AimFits x → Holds G (region_tree line x)
  region_tree_fits line x f = after_holds S G (region_of line x) _ (set_fits line x f) (λ q fq. only fq)

  regions_fit : (line : ℕ) (xs : List Aim) → AllAimed xs → Holds AreRegions (region_trees line xs)
  regions_fit line [] f = refl
  regions_fit line (x ∷ xs) f =
      after_holds G AreRegions (region_tree line x) _ (region_tree_fits line x f.0)
      (λ v fv. after_holds AreRegions AreRegions (region_trees line xs) _ (regions_fit line xs f.1) (λ vs fvs. both fv fvs))

  separated_at_fits : (line : ℕ) (xs : List Aim) → AllAimed xs → Holds G (separated_at line xs)
  unfolding separated_at
  separated_at_fits line xs f = after_holds AreRegions G (region_trees line xs) _ (regions_fit line xs f) (λ vs fvs. fvs)

  pub separated_fits : (r : Reading) (n : Count) (line : ℕ) (terms : List t.Term) → Holds (Of G) (separated_typed c b r n line terms)
  unfolding separated_typed
  separated_fits r n line terms =
      after_holds (Of AllAimed) (Of G) (all_aimed c b r (with_node line n) terms) _ (all_aimed_fit r (with_node line n) terms)
      (λ xs fxs. closed_holds G n.limit (with_node line n).limit xs.1 (separated_at line xs.0) (separated_at_fits line xs.0 fxs))
