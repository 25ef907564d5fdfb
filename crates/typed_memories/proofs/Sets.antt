-- Regions of goals that have the cells of regions of annotations.
use Rattle.std.proofs.Common.{◌≡◌, ℕ, Bool, true, false, ◌&&◌, ◌||◌, if◌then◌else◌, ℤ, pos, List, [], ◌∷◌, refl, sym, ap, ap₂, ◌∙◌}
use Rattle.std.specs.Prelude.{int_le, int_lt}
use Rattle.wp_base.specs.declared.kinds.CellKind.{CellKind}
use Rattle.wp_base.specs.Blocks.{count, is_cell}
use Rattle.qed_terms.specs.Memory.{Region, is_inside}
use Rattle.c_runs.specs.TruthStates.{Value, covers}
use Rattle.c_runs.specs.TruthAllowed.{has_kind, lies_in}
use Rattle.c_runs.specs.States.{Memory}
use Rattle.c_runs.specs.Claims.{lets_cell}
use Rattle.typed_memories.specs.Cells.{lies_inside}
use Rattle.typed_memories.specs.Changes.{AreRegions, regions_of_kind, set_of}
use Rattle.typed_memories.specs.ChangeLaws.{RegionsAreSets}
use Rattle.typed_memories.proofs.Tables.{test_lt, not_le_test, cell_below}

-- a region counts for the kinds of its cells
chosen_inside : (s c : Bool) (r : Region) (rs : List Region) (rest : Bool) (b o : ℤ) → c ≡ is_inside b o r → lies_inside rs b o ≡ rest
    → lies_inside (if s then r ∷ rs else rs) b o ≡ ((c && s) || rest)
chosen_inside true true r rs rest b o e h = ap (λ t. t || lies_inside rs b o) (sym e)
chosen_inside true false r rs rest b o e h = ap (λ t. t || lies_inside rs b o) (sym e) ∙ h
chosen_inside false true r rs rest b o e h = h
chosen_inside false false r rs rest b o e h = h

pub inside_of_kind : (k : CellKind) (vs : List Value) (rs : List Region) → AreRegions vs rs → (b o : ℤ)
    → lies_inside (regions_of_kind k vs rs) b o ≡ lies_in vs k b o
inside_of_kind k [] [] a b o = refl
inside_of_kind k [] (r ∷ rs) a b o = absurd a
inside_of_kind k (v ∷ vs) [] a b o = absurd a
inside_of_kind k (v ∷ vs) (r ∷ rs) a b o =
    chosen_inside (has_kind k v) (covers v b o) r (regions_of_kind k vs rs) (lies_in vs k b o) b o (a.0 b o) (inside_of_kind k vs rs a.1 b o)

module _ (vs : List Value) (rs : List Region) (a : AreRegions vs rs) where
  set_cells : (n : ℤ) (k : CellKind) (b o : ℤ) → int_lt b n ≡ true → lies_inside (set_of n vs rs k) b o ≡ lies_in vs k b o
  set_cells n k b o h = ap₂ (λ s t. s || t) (not_le_test n b (test_lt b n h)) (inside_of_kind k vs rs a b o)

  set_granted : (n : ℤ) (declared : ℕ) (k : CellKind) (i : ℕ) (o : ℤ)
      → lies_inside (set_of n vs rs k) (pos i) o ≡ lets_cell k (pos i) o (record { regions = vs; count = n; declared = declared })
  set_granted n declared k i o = ap (λ t. int_le n (pos i) || t) (inside_of_kind k vs rs a (pos i) o)

  set_there : (m : Memory) (k : CellKind) (b o : ℤ) → is_cell k m.blocks b o ≡ true → lies_inside (set_of (count m.blocks) vs rs k) b o ≡ lies_in vs k b o
  set_there m k b o is = set_cells (count m.blocks) k b o (cell_below k m.blocks b o is)

pub regions_are_sets : RegionsAreSets
regions_are_sets vs rs a = record {
  cells = set_cells vs rs a;
  granted = set_granted vs rs a;
  allowed = λ m n. (
    (λ h k b o is out. h k b o is (set_there vs rs a m k b o is ∙ out)),
    (λ h k b o is out. h k b o is (sym (set_there vs rs a m k b o is) ∙ out)),
  );
}
