-- What typing makes of sets of addresses gives a region, and what is said of them is a truth.
use Rattle.std.proofs.Common.{◌≡◌, ℕ, pos, ◌-ℤ◌, Bool, true, false, if◌then◌else◌, List, [], ◌∷◌, Option, Some, None, Ok, refl, ◌∙◌}
use Rattle.c_syntax.specs.Term as t
use Rattle.c_syntax.specs.Lines.{term_line_of}
use Rattle.c_answers.specs.Answers.{wrong}
use Rattle.typed_prog.specs.declared.types.CoreType.{CoreType}
use Rattle.typed_prog.specs.Types.{element_of}
use Rattle.acsl_trees.specs.declared.heads.Content.{Content}
use Rattle.acsl_trees.specs.declared.heads.Head.TheVariants as head
use Rattle.acsl_trees.specs.declared.operands.Sort.{Sort}
use Rattle.acsl_trees.specs.declared.operands.Sort.TheVariants as sort
use Rattle.acsl_trees.specs.Tree.{Tree, trees_of, leaf}
use Rattle.acsl_trees.specs.Operands.{Operand}
use Rattle.acsl_rules.specs.Sorts.{content}
use Rattle.acsl_rules.specs.Laws as l
use Rattle.acsl_rules.specs.Laws.{Leaves, Makes, FitsSort, Fits, Made, Holds}
use Rattle.acsl_rules.specs.Objects.{pointed}
use Rattle.acsl_names.specs.declared.names.Bound.{Bound}
use Rattle.acsl_names.specs.declared.names.Reading.{Reading}
use Rattle.acsl_names.specs.declared.counting.Count.{Count}
use Rattle.acsl_names.specs.Names.{Around}
use Rattle.acsl_names.specs.Counting.{with_node}
use Rattle.acsl_terms.specs.Leaves.{misshapen}
use Rattle.acsl_terms.specs.Steps.{local_of}
use Rattle.acsl_terms.specs.Terms.{typed}
use Rattle.acsl_places.specs.Spans.{Span, Ranged, indexed_range, added_range, starred_range}
use Rattle.acsl_places.specs.Places.{may_end, end_checked, end_typed, ends_typed, reach, range_typed, entry_by, is_own_parameter, region_with, whole_array, region_by, entry_region, entry, Aim, pointer, addresses, aimed_by, aimed, all_aimed, content_by, content_of, region_of, valid_at, region_tree, region_trees, separated_at, valid_typed, separated_typed}
use Rattle.acsl_preds.specs.Ranges.{head_of}
use Rattle.acsl_well_typed.specs.WellTyped.{What, an_integer, an_object, a_region, Known, Names, no_name, types_give, are_regions, kids_give}
use Rattle.acsl_well_typed.specs.Terms.{HaveTypes, known_at, Gives}
use Rattle.acsl_well_typed.specs.Places.{PlacesAreWellTyped}
use Rattle.acsl_well_typed.proofs.Answers.{after_holds, holds_all, closed_holds, Of}
use Rattle.acsl_well_typed.proofs.Making.{node_gives, kid_more, one_gives, three_give, given, makes}
use Rattle.acsl_well_typed.proofs.Finding.{all_fine}
use Rattle.acsl_well_typed.proofs.Terms.{objects, typed_any}

module _ (ends : Bool) (c : Around) (b : Bound) (ns : Names) (have : HaveTypes c.definitions.items) (scope : types_give b.types ≡ Some ns) where
  abbrev pub k : Known
  k = known_at ends c

  abbrev pub g : Leaves
  g = given k ns

  of_term : (r : Reading) (n : Count) (a : t.Term) → Holds (Of (Fits g)) (typed c b r n a)
  of_term r n a = typed_any ends c b ns have scope r n a

  -- ---- ranges

  end_if : (line : ℕ) (x : Operand) (b : Bool) → Fits g x → Made g (if b then Ok x else wrong line)
  end_if line x true f = f
  end_if line x false f = tt

  end_fits : (r : Reading) (n : Count) (a : t.Term) → Holds (Of (Fits g)) (end_typed c b r n a)
  end_fits r n a =
      after_holds (Of (Fits g)) (Of (Fits g)) (typed c b r n a) _ (of_term r n a)
      (λ x fx. closed_holds (Fits g) n.limit n.limit x.1 (end_checked (term_line_of a) x.0) (end_if (term_line_of a) x.0 (may_end x.0.sort) fx))

  abbrev pub BothFit : Operand × Operand → Type 0
  BothFit s = Fits g s.0 × Fits g s.1

  ends_fit : (r : Reading) (n : Count) (s : Span) → Holds (Of BothFit) (ends_typed c b r n s)
  ends_fit r n s =
      after_holds (Of (Fits g)) (Of BothFit) (end_typed c b r n s.low) _ (end_fits r n s.low)
      (λ x fx. after_holds (Of (Fits g)) (Of BothFit) (end_typed c b r (with_node s.line x.1) s.high) _ (end_fits r (with_node s.line x.1) s.high)
      (λ y fy. (fx, fy)))

  reach_fits : (is_index : Bool) (z : Ranged) (x low high : Operand) → Fits g x → Fits g low → Fits g high → Made g (reach c is_index z x low high)
  reach_fits true z x low high f d e = (objects ends c b ns have [] (all_fine c b ns scope)).of_range c.sizes z.line (term_line_of z.span.low)
      (term_line_of z.span.high) x low high f d e
  reach_fits false z x low high f d e = (objects ends c b ns have [] (all_fine c b ns scope)).of_offsets c.sizes z.line (term_line_of z.span.low)
      (term_line_of z.span.high) x low high f d e

  range_fits : (r : Reading) (n : Count) (is_index : Bool) (z : Ranged) → Holds (Of (Fits g)) (range_typed c b r n is_index z)
  range_fits r n is_index z =
      after_holds (Of (Fits g)) (Of (Fits g)) (typed c b r n z.base) _ (of_term r n z.base)
      (λ x fx. after_holds (Of BothFit) (Of (Fits g)) (ends_typed c b r (with_node z.line x.1) z.span) _ (ends_fit r (with_node z.line x.1) z.span)
      (λ s fs. closed_holds (Fits g) x.1.limit (with_node z.line x.1).limit s.1 (reach c is_index z x.0 s.0.0 s.0.1)
      (reach_fits is_index z x.0 s.0.0 s.0.1 fx fs.0 fs.1)))

  -- ---- entries of `assigns`

  entry_by_fits : (r : Reading) (n : Count) (a : t.Term) (indexed starred : Option Ranged) → Holds (Of (Fits g)) (entry_by c b r n a indexed starred)
  entry_by_fits r n a (Some z) starred = range_fits r n true z
  entry_by_fits r n a None (Some z) = range_fits r (with_node (term_line_of a) n) false z
  entry_by_fits r n a None None = of_term r n a

  region_with_gives : (line : ℕ) (u : Tree) (o : Option Content) → Gives k ns an_object u → Holds (Gives k ns a_region) (region_with line u o)
  region_with_gives line u (Some q) f = one_gives k ns (head.Region q) u an_object refl f
  region_with_gives line u None f = tt

  array_gives : (type : CoreType) (u : Tree) (n : ℕ) → Gives k ns an_object u → Gives k ns an_object (whole_array c type u n)
  array_gives type u n f = three_give k ns (head_of (whole_array c type u n)) u (leaf (head.Number (pos 0)))
      (leaf (head.Number (pos n -ℤ pos 1))) an_object an_integer an_integer refl f refl refl

  region_gives : (line : ℕ) (type : CoreType) (u : Tree) (count : Option ℕ) → Gives k ns an_object u
      → Holds (Gives k ns a_region) (region_by c line type u count)
  region_gives line type u (Some n) f = region_with_gives line (whole_array c type u n) (content (element_of type)) (array_gives type u n f)
  region_gives line type u None f = region_with_gives line u (content type) f

  object_if : (line : ℕ) (type : CoreType) (u : Tree) (b : Bool) → Gives k ns an_object u
      → Holds (Gives k ns a_region) (if b then misshapen line else region_by c line type u type.count)
  object_if line type u true f = tt
  object_if line type u false f = region_gives line type u type.count f

  entry_gives : (line : ℕ) (u : Tree) (s : Sort) → FitsSort g u s → Holds (Gives k ns a_region) (entry_region c line u s)
  entry_gives line u (sort.Object type None) f = object_if line type u (is_own_parameter c (local_of u)) (makes k ns l.an_object u f)
  entry_gives line u (sort.Object type (Some x)) f = tt
  entry_gives line u (sort.Integer known) f = tt
  entry_gives line u (sort.Pointer type null) f = tt
  entry_gives line u sort.Unknown f = tt

  pub entry_fits : (r : Reading) (n : Count) (a : t.Term) → Holds (Of (Gives k ns a_region)) (entry c b r n a)
  unfolding entry
  entry_fits r n a =
      after_holds (Of (Fits g)) (Of (Gives k ns a_region)) (entry_by c b r n a (indexed_range a) (starred_range a)) _
      (entry_by_fits r n a (indexed_range a) (starred_range a))
      (λ x fx. closed_holds (Gives k ns a_region) n.limit n.limit x.1 (entry_region c (term_line_of a) x.0.tree x.0.sort)
      (entry_gives (term_line_of a) x.0.tree x.0.sort fx))

  -- ---- `\valid` and `\separated`

  abbrev pub AimFits : Aim → Type 0
  AimFits (pointer x) = Fits g x
  AimFits (addresses x) = Fits g x

  aimed_by_fits : (r : Reading) (n : Count) (a : t.Term) (z : Option Ranged) → Holds (Of AimFits) (aimed_by c b r n a z)
  aimed_by_fits r n a (Some z) = after_holds (Of (Fits g)) (Of AimFits) (range_typed c b r n false z) _ (range_fits r n false z) (λ x fx. fx)
  aimed_by_fits r n a None = after_holds (Of (Fits g)) (Of AimFits) (typed c b r n a) _ (of_term r n a) (λ x fx. fx)

  aimed_fits : (r : Reading) (n : Count) (a : t.Term) → Holds (Of AimFits) (aimed c b r n a)
  unfolding aimed
  aimed_fits r n a = aimed_by_fits r n a (added_range a)

  abbrev pub AllAimed : List Aim → Type 0
  AllAimed [] = Unit {0}
  AllAimed (x ∷ xs) = AimFits x × AllAimed xs

  all_aimed_fit : (r : Reading) (n : Count) (terms : List t.Term) → Holds (Of AllAimed) (all_aimed c b r n terms)
  all_aimed_fit r n [] = tt
  all_aimed_fit r n (a ∷ rest) =
      after_holds (Of AimFits) (Of AllAimed) (aimed c b r n a) _ (aimed_fits r n a)
      (λ x fx. after_holds (Of AllAimed) (Of AllAimed) (all_aimed c b r x.1 rest) _ (all_aimed_fit r x.1 rest) (λ xs fxs. (fx, fxs)))

  abbrev pub IsSet : Tree × Content → Type 0
  IsSet q = Gives k ns an_object q.0

  content_by_gives : (line : ℕ) (u : Tree) (o : Option Content) → Gives k ns an_object u → Holds IsSet (content_by line u o)
  content_by_gives line u (Some q) f = f
  content_by_gives line u None f = tt

  content_gives : (line : ℕ) (u : Tree) (s : Sort) → FitsSort g u s → Holds IsSet (content_of line u s)
  content_gives line u (sort.Object type label) f = content_by_gives line u (content type) (makes k ns l.an_object u f)
  content_gives line u (sort.Integer known) f = tt
  content_gives line u (sort.Pointer type null) f = tt
  content_gives line u sort.Unknown f = absurd f

  set_gives : (line : ℕ) (x : Aim) → AimFits x → Holds IsSet (region_of line x)
  set_gives line (addresses x) f = content_gives line x.tree x.sort f
  set_gives line (pointer x) f =
      holds_all (λ q. Makes g l.an_object q.0) IsSet (pointed line x) (λ q m. makes k ns l.an_object q.0 m)
      ((objects ends c b ns have [] (all_fine c b ns scope)).of_region line x f)

  valid_gives : (line : ℕ) (writable : Bool) (x : Aim) → AimFits x → Holds (Gives k ns an_integer) (valid_at line writable x)
  unfolding valid_at
  valid_gives line writable x f =
      after_holds IsSet (Gives k ns an_integer) (region_of line x) _ (set_gives line x f) (λ q s. one_gives k ns (head.Valid q.1 writable) q.0 an_object refl s)

  pub valid_fits : (r : Reading) (n : Count) (line : ℕ) (writable : Bool) (a : t.Term)
      → Holds (Of (Gives k ns an_integer)) (valid_typed c b r n line writable a)
  unfolding valid_typed
  valid_fits r n line writable a =
      after_holds (Of AimFits) (Of (Gives k ns an_integer)) (aimed c b r (with_node line n) a) _ (aimed_fits r (with_node line n) a)
      (λ x fx. closed_holds (Gives k ns an_integer) n.limit (with_node line n).limit x.1 (valid_at line writable x.0) (valid_gives line writable x.0 fx))

  region_tree_gives : (line : ℕ) (x : Aim) → AimFits x → Holds (Gives k ns a_region) (region_tree line x)
  region_tree_gives line x f =
      after_holds IsSet (Gives k ns a_region) (region_of line x) _ (set_gives line x f) (λ q s. one_gives k ns (head.Region q.1) q.0 an_object refl s)

  abbrev pub AreRegions : List Tree → Type 0
  AreRegions us = (ws : List What) × (kids_give k ns no_name (trees_of us) ≡ Some ws) × (are_regions ws ≡ Some an_integer)

  regions_give : (line : ℕ) (xs : List Aim) → AllAimed xs → Holds AreRegions (region_trees line xs)
  regions_give line [] f = ([], refl, refl)
  regions_give line (x ∷ xs) f =
      after_holds (Gives k ns a_region) AreRegions (region_tree line x) _ (region_tree_gives line x f.0)
      (λ u fu. after_holds AreRegions AreRegions (region_trees line xs) _ (regions_give line xs f.1)
      (λ us fus. (a_region ∷ fus.0, kid_more k ns u (trees_of us) a_region fus.0 fu fus.1, fus.2)))

  separated_gives : (line : ℕ) (xs : List Aim) → AllAimed xs → Holds (Gives k ns an_integer) (separated_at line xs)
  unfolding separated_at
  separated_gives line xs f =
      after_holds AreRegions (Gives k ns an_integer) (region_trees line xs) _ (regions_give line xs f)
      (λ us fus. node_gives k ns head.Separated (trees_of us) fus.0 fus.1 ∙ fus.2)

  pub separated_fits : (r : Reading) (n : Count) (line : ℕ) (terms : List t.Term) → Holds (Of (Gives k ns an_integer)) (separated_typed c b r n line terms)
  unfolding separated_typed
  separated_fits r n line terms =
      after_holds (Of AllAimed) (Of (Gives k ns an_integer)) (all_aimed c b r (with_node line n) terms) _ (all_aimed_fit r (with_node line n) terms)
      (λ xs fxs. closed_holds (Gives k ns an_integer) n.limit (with_node line n).limit xs.1 (separated_at line xs.0) (separated_gives line xs.0 fxs))

pub places_are_well_typed : PlacesAreWellTyped
places_are_well_typed ends c b ns have scope = record {
  of_entry = entry_fits ends c b ns have scope;
  of_valid = valid_fits ends c b ns have scope;
  of_separated = separated_fits ends c b ns have scope;
}
