-- Typed regions have cells with closed terms, whose ends they are, or name variables.
use Rattle.std.proofs.Common.{◌≡◌, Bool, true, List, [], Some, refl, sym, ap, ◌∙◌, subst}
use Rattle.wp_base.specs.declared.kinds.CellKind.{CellKind}
use Rattle.wp_base.specs.declared.kinds.CellKind.TheVariants as cell
use Rattle.typed_prog.specs.declared.types.CoreType.{CoreType}
use Rattle.typed_prog.specs.declared.operators.Variable as code
use Rattle.acsl_trees.specs.declared.heads.Content.{Content}
use Rattle.acsl_trees.specs.declared.heads.Head.TheVariants as head
use Rattle.acsl_trees.specs.Tree as acsl
use Rattle.acsl_names.specs.declared.names.Definition.{Definition}
use Rattle.c_runs.specs.TruthStates as labelled
use Rattle.c_runs.specs.TruthStates.{Value, span_of}
use Rattle.c_runs.specs.Truth.{calls_of, named}
use Rattle.c_runs.specs.Truth as truth
use Rattle.qed_terms.specs.Tree.{Tree as Term}
use Rattle.qed_terms.specs.Meaning as sense
use Rattle.c_runs.specs.Program.{Facts}
use Rattle.acsl_encode.specs.Readings.{Terms, elements, Reading}
use Rattle.acsl_encode.specs.Readings as reading
use Rattle.acsl_encode.specs.Encode.{terms_of, content_cells}
use Rattle.acsl_encode.specs.Meaning.{HasAddress, Means, Stands}
use Rattle.acsl_well_typed.specs.WellTyped.{a_region}
use Rattle.acsl_well_typed.specs.Definitions.{known_with}
use Rattle.annotations_encoded.specs.Sights.{Site, holds_integer, holds_pointer, has_block, unknown, Sights, sights_of}
use Rattle.annotations_encoded.specs.Shapes.{shape, shape_at, HasShape}
use Rattle.annotations_encoded.specs.Serving.{cells_of, is_region, serves}
use Rattle.annotations_encoded.proofs.Annotations.{annotations_are_encoded, regions_are_nodes}
use Rattle.memory_steps.specs.State.{State}
use Rattle.memory_words.specs.Leaves.{leaves_of}
use Rattle.memory_words.specs.Shapes.{FileCells, Shape}
use Rattle.memory_words.specs.Readings.{InScope, Texts}
use Rattle.memory_words.specs.Seen.{CellsFit}
use Rattle.memory_words.specs.Typed as asked
use Rattle.memory_words.specs.Typed.{is_plain_variable, is_scalar, RegionFits}
use Rattle.memory_statements.specs.Regions.{region, EndsFit}
use Rattle.memory_calls.specs.LoopSets.{region_variable}
use Rattle.memory_calls.specs.LoopFits as loops
use Rattle.memory_calls.specs.LoopFits.{content_of, IsInSight, SetRegion}
use Rattle.leaf_annotations.specs.Closed.{TermsClosed}
use Rattle.leaf_annotations.proofs.Formulas.{terms_mean, formulas_mean}
use Rattle.leaf_annotations.proofs.ClosedHeads.{terms_are_closed}
use Rattle.typed_annotations.specs.Claims.{IsRegionIn, names, has_cells, Reads}
use Rattle.typed_annotations.specs.Laws.{IsSeen, RegionsFit}
use Rattle.typed_annotations.proofs.Ends.{EndsAre, ends_are, block_home, same_cells}
use Rattle.typed_annotations.proofs.Sets.{set_home, set_of}

-- the terms of a region of cells
abbrev HasTerms : Reading → acsl.Tree → Type 0
HasTerms r a = (cells : List CellKind) × (block : Term) × (low : Term) × (high : Term) × (terms_of r a ≡ reading.region cells block low high)

-- a region of one object or set, by its reading
module _ (m : sense.World) (p : Facts) (texts : Texts) (g : Sights) (r : acsl.Tree → Reading) (c : Content) (t : acsl.Tree) (reads : Reads m p texts g r (region c t))
    (h : HasTerms (r (region c t)) (region c t)) where
  abbrev a : acsl.Tree
  a = region c t

  abbrev cells : List CellKind
  cells = h.0

  abbrev block : Term
  block = h.1

  abbrev low : Term
  low = h.2

  abbrev high : Term
  high = h.3

  abbrev closed : TermsClosed [] (reading.region cells block low high)
  closed = subst (TermsClosed []) h.4 (terms_are_closed (r a) a reads.over.closed)

  abbrev cells_fit : CellsFit m p r a
  cells_fit = record {
    kinds = cells;
    block = block;
    low = low;
    high = high;
    is = h.4;
    closed_block = closed.0;
    closed_low = closed.1;
    closed_high = closed.2;
    means = λ w sts stands.
        (formulas_mean m (texts.binders a) (r a) p.definitions (leaves_of sts) w a reads.over reads.calls stands).region cells block low high h.4;
  }

  abbrev meant : labelled.World → Value
  meant w = truth.value (calls_of p.definitions) (named []) 0 w t

  inner : (w : labelled.World) (sts : List State) → Stands m (r a) (leaves_of sts) w → Means m (r a).common (leaves_of sts) (terms_of (r a) t) (meant w)
  inner w sts stands = terms_mean m (texts.binders a) (r a) p.definitions (leaves_of sts) w t reads.over reads.calls stands

  ends_there : (w : labelled.World) (sts : List State) → Stands m (r a) (leaves_of sts) w
      → EndsAre m (r a).common (leaves_of sts) (content_cells (r a).common c) (labelled.region (labelled.content_cells w c) (span_of (meant w))) block low high
  ends_there w sts stands =
      subst (λ ks. EndsAre m (r a).common (leaves_of sts) (content_cells (r a).common c) (labelled.region ks (span_of (meant w))) block low high)
      (same_cells (r a).common w c stands.structs)
      (ends_are m (r a).common (leaves_of sts) (content_cells (r a).common c) (terms_of (r a) t) (meant w) (inner w sts stands) cells block low high h.4)

  abbrev ends_fit : EndsFit m p r a
  ends_fit = record {
    cells = cells_fit;
    ends = λ w sts stands. let e = ends_there w sts stands in record { cells = cells_fit.means w sts stands; block = e.block; first = e.first; last = e.last };
  }

  -- pointers may lead to its block
  home_there : HasShape (shape (sights_of (r a)) t) (terms_of (r a) t) → is_region (cells_of (sights_of (r a)) c) (shape (sights_of (r a)) t) ≡ true
      → (w : labelled.World) (sts : List State) → Stands m (r a) (leaves_of sts) w → HasAddress (sense.value m (leaves_of sts) block)
  home_there z s w sts stands =
      block_home m (r a).common (leaves_of sts) (content_cells (r a).common c) (terms_of (r a) t) (meant w) (inner w sts stands)
      (λ b o n i j e. let k = set_of (cells_of (sights_of (r a)) c) (shape (sights_of (r a)) t) b o n i j (subst (HasShape (shape (sights_of (r a)) t)) e z) s in
      set_home m (leaves_of sts) (texts.binders a) p.definitions t (r a) w reads.over reads.calls stands k.0 k.1 b o n i j e)
      cells block low high h.4

-- ---- variables

-- a region of cells isn't that of a variable that no pointer leads to
reached_block : (ks : List CellKind) (x : code.Variable) (z : Site) → is_region ks (shape_at x z) ≡ true → z ≡ has_block
reached_block ks x (holds_integer k) e = absurd cc
reached_block ks x holds_pointer e = absurd cc
reached_block ks x has_block e = refl
reached_block ks x unknown e = absurd cc

module _ (g : Sights) (c : Content) where
  variable_block : (t : acsl.Tree) (x : code.Variable) → region_variable (region c t) ≡ Some x → is_region (cells_of g c) (shape g t) ≡ true → g.here.site x ≡ has_block
  variable_block (acsl.node (head.Variable y) acsl.stop) x e s =
      let same : y ≡ x = cc in
      ap (λ x. g.here.site x) (sym same) ∙ reached_block (cells_of g c) y (g.here.site y) s
  variable_block (acsl.node (head.Variable y) (acsl.more u us)) x e s = absurd cc
  variable_block t x e s = absurd cc

content_scalar : (k : CellKind) → is_scalar (content_of k) ≡ true
content_scalar (cell.Of k) = refl
content_scalar cell.Ptr = refl

-- ---- regions

module _ (m : sense.World) (p : Facts) (s : Shape) (cells : FileCells) (texts : Texts) (i : InScope) (may : code.Variable → Bool) (g : Sights)
    (r : acsl.Tree → Reading) (seen : IsSeen p s cells i may g) where
  abbrev Fine : acsl.Tree → Type 0
  Fine a = SetRegion m p s cells i r a × RegionFits m p s r a

  has_fine : (c : Content) (t : acsl.Tree) → Reads m p texts g r (region c t) → HasTerms (r (region c t)) (region c t)
      → HasShape (shape (sights_of (r (region c t))) t) (terms_of (r (region c t)) t)
      → is_region (cells_of (sights_of (r (region c t))) c) (shape (sights_of (r (region c t))) t) ≡ true → g.here.has_table ≡ true → Fine (region c t)
  has_fine c t reads h z e table = (
    loops.has_cells (sym seen.table ∙ table)
        (λ x v. seen.blocks x (variable_block g c t x v (subst (λ g. is_region (cells_of g c) (shape g t) ≡ true) reads.sights e)))
        (ends_fit m p texts g r c t reads h) (home_there m p texts g r c t reads h z e),
    asked.has_cells (cells_fit m p texts g r c t reads h) (home_there m p texts g r c t reads h z e),
  )

  module _ (ds : List Definition) (result : CoreType) where
    region_fits : (a : acsl.Tree) → Reads m p texts g r a → IsRegionIn may (known_with true ds result) g a → Fine a
    region_fits a reads (names x l e is) = (
      loops.names x l (seen.plain x e) (seen.in_sight x e) is,
      asked.names x (content_of l) (content_scalar l) (seen.plain x e) is,
    )
    region_fits a reads (has_cells e s table) =
        let s' = subst (λ g. serves (known_with true ds result) g a ≡ true) (sym reads.sights) s in
        let n = regions_are_nodes ds result (r a) a e s' in
        let h = annotations_are_encoded ds result (r a) a a_region e s' in
        subst
        (λ b. Reads m p texts g r b → HasTerms (r b) b → HasShape (shape (sights_of (r b)) n.object) (terms_of (r b) n.object)
        → is_region (cells_of (sights_of (r b)) n.content) (shape (sights_of (r b)) n.object) ≡ true → Fine b)
        (sym n.is) (λ reads h z e. has_fine n.content n.object reads h z e table) reads h n.shaped n.reached

pub regions_fit : RegionsFit
regions_fit m p s cells texts ds result i may g r a reads seen is = region_fits m p s cells texts i may g r seen ds result a reads is
