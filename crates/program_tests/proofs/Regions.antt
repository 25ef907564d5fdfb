-- Regions that pass have no gaps, and name no variable but those that they may name.
use Rattle.std.proofs.Common.{◌≡◌, ℕ, Bool, true, false, ℤ, pos, List, [], ◌∷◌, length, Some, refl, sym, ap, subst, ◌∙◌, ◌==◌}
use Rattle.std.proofs.lemmas.Bool.{false≢true, and_parts}
use Rattle.std.proofs.lemmas.Bool.Decides.{Decides-eqb}
use Rattle.wp_base.specs.declared.kinds.CellKind.{CellKind}
use Rattle.typed_prog.specs.declared.operators.Variable.{Variable}
use Rattle.acsl_trees.specs.declared.heads.Content.{Content}
use Rattle.acsl_trees.specs.declared.heads.Content.TheVariants as content
use Rattle.acsl_trees.specs.declared.heads.Head.TheVariants as head
use Rattle.acsl_trees.specs.Tree.{Tree, node, stop, more}
use Rattle.c_runs.specs.Program.{Facts}
use Rattle.c_runs.specs.Claims.{value_of}
use Rattle.c_runs.specs.TruthStates.{Value, World, region, one_address, span_of, content_cells, is_negative}
use Rattle.c_runs.specs.Truth.{calls_of, named}
use Rattle.acsl_well_typed.specs.WellTyped.{an_object, a_region, Known, binder_of, gives, what_of, kids_give}
use Rattle.annotations_encoded.specs.Sights.{Sights}
use Rattle.annotations_encoded.specs.Shapes.{Shape, an_address, a_variable, a_set, no_shape, shape}
use Rattle.annotations_encoded.specs.Serving.{cells_of, is_region, serves, all_serve}
use Rattle.annotations_encoded.proofs.Kids.{node_given}
use Rattle.annotations_encoded.proofs.Inverting.{region_kids}
use Rattle.typed_modular.specs.Solid.{IsSolid}
use Rattle.typed_modular.proofs.Regions.{regions_are_solid}
use Rattle.memory_statements.specs.Regions as tree
use Rattle.memory_calls.specs.LoopFits.{content_of}
use Rattle.typed_annotations.specs.Claims.{IsRegionIn, names, has_cells}
use Rattle.program_tests.proofs.Places.{LeadsWell, AreElements, AreSeen, HasPlace, is_plain_site, object}
use Rattle.program_tests.proofs.Pointers.{node_kids, one_more, none_left, region_only}

-- A region has no gaps, and its block is one that pointers may lead to, or that of a variable which it may name.
pub record IsFine (homes : Variable → ℤ) (may : Variable → Bool) (v : Value) : Type 0 where
  pub solid : IsSolid v
  pub block : (b : ℤ) → is_negative b ≡ true → (span_of v).block ≡ b → (x : Variable) × (may x ≡ true) × (homes x ≡ b)

-- a variable that may be named is one that no pointer leads to
abbrev pub MayBeNamed : (Variable → Bool) → Sights → Type 0
MayBeNamed may g = (x : Variable) → may x ≡ true → is_plain_site (g.here.site x) ≡ true

number_same : (a b : ℕ) → (a == b) ≡ true → a ≡ b
number_same a b h = (Decides-eqb a b).0 h

module _ (p : Facts) (k : Known) (homes : Variable → ℤ) (may : Variable → Bool) (g : Sights) (w : World) (seen : AreSeen homes g w) (plain : MayBeNamed may g)
    (structs : (n : ℕ) → g.structs n ≡ w.structs n) where
  same_cells : (c : Content) → cells_of g c ≡ content_cells w c
  same_cells (content.Integer l) = refl
  same_cells content.Pointer = refl
  same_cells (content.Struct n) = structs n

  no_block : (v : Value) (c : ℤ) → (span_of v).block ≡ c → is_negative c ≡ false → (b : ℤ) → is_negative b ≡ true → (span_of v).block ≡ b
      → (x : Variable) × (may x ≡ true) × (homes x ≡ b)
  no_block v c is there b negative same = absurd (false≢true (sym there ∙ ap is_negative (sym is ∙ same) ∙ negative))

  object_fine : (ks : List CellKind) (v : Value) → LeadsWell v → IsFine homes may (region ks (span_of v))
  object_fine ks v h = subst (λ v. IsFine homes may (region ks (span_of v))) (sym h.is) (record {
    solid = regions_are_solid.objects ks h.block h.offset;
    block = no_block (region ks (one_address h.block h.offset)) h.block refl h.there;
  })

  set_fine : (ks : List CellKind) (v : Value) (size : ℕ) → AreElements size v → size ≡ length ks → IsFine homes may (region ks (span_of v))
  set_fine ks v size h same = subst (λ v. IsFine homes may (region ks (span_of v))) (sym h.is) (record {
    solid = regions_are_solid.ranges ks h.span (h.sized ∙ ap pos same);
    block = no_block (region ks h.span) h.span.block refl h.there;
  })

  shape_fine : (c : Content) (z : Shape) (v : Value) → HasPlace homes z v → is_region (cells_of g c) z ≡ true → IsFine homes may (region (content_cells w c) (span_of v))
  shape_fine c an_address v h e = object_fine (content_cells w c) v h
  shape_fine c (a_variable x) v h e = absurd (false≢true e)
  shape_fine c (a_set size) v h e = set_fine (content_cells w c) v size h (number_same size (length (cells_of g c)) e ∙ ap length (same_cells c))
  shape_fine c no_shape v h e = absurd (false≢true e)

  cells_fine : (a : Tree) → what_of k [] a ≡ Some a_region → serves k g a ≡ true → IsFine homes may (value_of p w a)
  cells_fine (node (head.Region c) stop) e s =
      absurd (none_left k an_object [] (node_kids k (head.Region c) stop a_region (an_object ∷ []) (λ us i. (region_kids k [] c us a_region i).0) e))
  cells_fine (node (head.Region c) (more t ts)) e s =
      let f = one_more k t ts an_object [] (node_kids k (head.Region c) (more t ts) a_region (an_object ∷ []) (λ us i. (region_kids k [] c us a_region i).0) e) in
      let b = and_parts (is_region (cells_of g c) (shape g t)) (all_serve k g (more t ts)) s in
      let d = and_parts (serves k g t) (all_serve k g ts) b.1 in
      shape_fine c (shape g t) (value_of p w t) (object homes k (calls_of p.definitions) (named []) 0 t g w seen f.0 d.0) b.0
  cells_fine (node h ks) e s =
      let q = node_given (gives k [] h) (kids_give k [] (binder_of h) ks) a_region e in absurd (region_only k h q.0 q.2)

  named_fine : (c : Content) (x : Variable) → may x ≡ true → IsFine homes may (value_of p w (tree.region c (node (head.Variable x) stop)))
  named_fine c x h = record {
    solid = regions_are_solid.objects (content_cells w c) (w.here.home x) (pos 0);
    block = λ b negative same. (x, h, sym (seen.here.plain x (plain x h)) ∙ same);
  }

  pub region_fine : (a : Tree) → IsRegionIn may k g a → IsFine homes may (value_of p w a)
  region_fine a (names x l h is) = subst (λ a. IsFine homes may (value_of p w a)) (sym is) (named_fine (content_of l) x h)
  region_fine a (has_cells e s table) = cells_fine a e s
