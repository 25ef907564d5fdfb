-- What formulas of sets of cells mean (ACSL 2.3.2, 2.3.4), on trees and values alone.
use Rattle.std.specs.Prelude.{◌≡◌, ℕ, true, ℤ, List, [], ◌∷◌}
use Rattle.std.specs.List.{list_all}
use Rattle.wp_base.specs.declared.kinds.CellKind.{CellKind}
use Rattle.acsl_trees.specs.Tree as acsl
use Rattle.acsl_trees.specs.declared.heads.Content.{Content}
use Rattle.acsl_trees.specs.declared.heads.Head.TheVariants as head
use Rattle.qed_terms.specs.Meaning as sense
use Rattle.qed_terms.specs.Meaning.{value, truth}
use Rattle.qed_terms.specs.Tree.{Tree}
use Rattle.c_runs.specs.TruthStates as labelled
use Rattle.c_runs.specs.TruthStates.{Value, span_of, is_negative}
use Rattle.acsl_encode.specs.Readings as annotation
use Rattle.acsl_encode.specs.Meaning.{HasAddress, IsStretch, Stands}
use Rattle.c_runs.specs.Program.{Facts}
use Rattle.c_runs.specs.States.{Granted}
use Rattle.c_runs.specs.Claims.{value_of, lets_cell}
use Rattle.goal_segments.specs.Sets.{first_cell, last_end, region_inside}
use Rattle.memory_steps.specs.State.{State}
use Rattle.memory_words.specs.Leaves.{leaves_of}
use Rattle.memory_words.specs.Seen.{CellsFit}
use Rattle.memory_words.specs.Regions.{RegionTree, cell_inside, regions_inside}

-- a set of regions, taken when there were so many blocks
abbrev pub set_of : List Value → (count : ℤ) → (declared : ℕ) → Granted
set_of vs n d = record { regions = vs; count = n; declared = d }

module _ (m : sense.World) (env : sense.Values) where
  -- the cells of the terms are those of the region
  abbrev pub HasCells : RegionTree → Value → Type 0
  HasCells g v = IsStretch g.cells (value m env g.block) (value m env g.low) (value m env g.high) v

  -- The terms are also its first cell and the address behind its last one, be it empty.
  pub record HasEnds (g : RegionTree) (v : Value) : Type 0 where
    pub cells : HasCells g v
    pub block : (span_of v).block ≡ value m env g.block
    pub first : first_cell v ≡ value m env g.low
    pub last : last_end v ≡ value m env g.high

-- The regions of a set, in order: those that have cells have terms of which this is so, and the others are variables that no pointer leads to.
pub data AreRegions (is : RegionTree → Value → Type 0) : List RegionTree → List Value → Type 0 where
  no_more : AreRegions is [] []
  has_cells : {g : RegionTree} {gs : List RegionTree} {v : Value} {vs : List Value} → is g v → AreRegions is gs vs → AreRegions is (g ∷ gs) (v ∷ vs)
  is_variable : {gs : List RegionTree} {v : Value} {vs : List Value} → is_negative (span_of v).block ≡ true → AreRegions is gs vs → AreRegions is gs (v ∷ vs)

-- the regions of another set that have cells
abbrev pub AllHaveEnds : (m : sense.World) (env : sense.Values) → List RegionTree → List Value → Type 0
AllHaveEnds m env [] [] = Unit {0}
AllHaveEnds m env [] (v ∷ vs) = ⊥
AllHaveEnds m env (r ∷ rs) [] = ⊥
AllHaveEnds m env (r ∷ rs) (v ∷ vs) = HasEnds m env r v × HasAddress (value m env r.block) × AllHaveEnds m env rs vs

-- ---- regions of annotations

-- A region of cells whose terms are its ends too, be it empty.
pub record EndsFit (m : sense.World) (p : Facts) (r : acsl.Tree → annotation.Reading) (a : acsl.Tree) : Type 0 where
  pub cells : CellsFit m p r a
  pub ends : (w : labelled.World) (sts : List State) → Stands m (r a) (leaves_of sts) w
      → HasEnds m (leaves_of sts) (record { cells = cells.kinds; block = cells.block; low = cells.low; high = cells.high }) (value_of p w a)

abbrev pub region : Content → acsl.Tree → acsl.Tree
region c t = acsl.node (head.Region c) (acsl.more t acsl.stop)

-- ---- sets

-- Whether a cell is in a set.
abbrev pub CellsInside : Type 0
CellsInside =
    (m : sense.World) (env : sense.Values) (e : Tree) (gs : List RegionTree) (vs : List Value) → AreRegions (HasCells m env) gs vs
    → (k : CellKind) (b o : Tree) → HasAddress (value m env b) → (declared : ℕ)
    → truth m env (cell_inside e gs k b o) ≡ lets_cell k (value m env b) (value m env o) (set_of vs (value m env e) declared)

-- Whether all regions of another set that have cells lie in it.
abbrev pub RegionsInside : Type 0
RegionsInside =
    (m : sense.World) (env : sense.Values) (p : Facts) (e : Tree) (gs : List RegionTree) (vs : List Value) → AreRegions (HasEnds m env) gs vs
    → (rs : List RegionTree) (us : List Value) → AllHaveEnds m env rs us → (declared : ℕ)
    → truth m env (regions_inside e gs rs) ≡ list_all (region_inside p (set_of vs (value m env e) declared)) us
