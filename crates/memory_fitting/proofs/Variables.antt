-- Variables of a core function with memory fit.
use Rattle.std.proofs.Common.{◌≡◌, ℕ, zero, suc, Bool, true, false, if◌then◌else◌, List, [], ◌∷◌, ◌++◌, map, Some, slice_get, refl, sym, ap, subst, ◌∙◌, ⊎_elim}
use Rattle.std.specs.List.{list_all, list_any}
use Rattle.std.proofs.lemmas.Bool.{or_cases}
use Rattle.std.proofs.lemmas.Option.{none-some, same_Some}
use Rattle.wp_base.specs.Blocks.{same_cell, repeated, cells_of}
use Rattle.wp_base.specs.declared.kinds.CellKind.{CellKind}
use Rattle.c_runs.specs.Program.{Variable, Facts}
use Rattle.typed_memories.proofs.CellKinds.{same_kind}
use Rattle.goal_segments.specs.Told.{with_name}
use Rattle.typed_runs.specs.Fitting as typed
use Rattle.memory_words.specs.Shapes.{FileCells, Shape, kind_of}
use Rattle.memory_words.specs.Readings.{InScope}
use Rattle.memory_words.specs.Typed.{DeclaredFits, Declares, Takes}
use Rattle.program_cells.specs.Parts.{blocks, of_kind, is_part_of, AreKnown}
use Rattle.program_cells.specs.Programs.{if_pointer, variable_parts, variables_parts}
use Rattle.memory_fitting.specs.Expressions.{typed_shape}
use Rattle.memory_fitting.specs.Values.{TypedVariablesFit}
use Rattle.memory_fitting.proofs.Typing.{and_first, and_second, known_left, known_right, blocks_known}

module _ (cells : FileCells) where
  -- ---- one of the kinds that are known

  any_known : (k : CellKind) (ks : List CellKind) → AreKnown cells (map of_kind ks) → list_any (same_cell k) ks ≡ true → cells.has_kind k ≡ true
  any_known k [] known is = absurd cc
  any_known k (l ∷ ks) known is =
      ⊎_elim (λ here. ap cells.has_kind (same_kind k l here) ∙ and_first (cells.has_kind l) (list_all (is_part_of cells) (map of_kind ks)) known)
      (λ there. any_known k ks (and_second (cells.has_kind l) (list_all (is_part_of cells) (map of_kind ks)) known) there)
      (or_cases (same_cell k l) (list_any (same_cell k) ks) is)

  none_repeated : (n : ℕ) → repeated n [] ≡ []
  none_repeated zero = refl
  none_repeated (suc n) = none_repeated n

  no_cell : (k : CellKind) → [] ≡ k ∷ [] → ⊥
  no_cell k e = absurd cc

  first_cell : (c k : CellKind) (cs ks : List CellKind) → c ∷ cs ≡ k ∷ ks → c ≡ k
  first_cell c k cs ks e = cc

  -- that of an object with one cell
  one_known : (k : CellKind) (n : ℕ) (cs : List CellKind) → AreKnown cells (map of_kind cs) → repeated n cs ≡ k ∷ [] → cells.has_kind k ≡ true
  one_known k n [] known one = absurd (no_cell k (sym (none_repeated n) ∙ one))
  one_known k zero (c ∷ cs) known one = absurd (no_cell k one)
  one_known k (suc n) (c ∷ cs) known one =
      ap cells.has_kind (sym (first_cell c k (cs ++ repeated n (c ∷ cs)) [] one)) ∙ and_first (cells.has_kind c) (list_all (is_part_of cells) (map of_kind cs)) known

  -- ---- one of the variables

  pub variable_known : (xs : List Variable) → AreKnown cells (variables_parts xs) → (y : ℕ) (v : Variable) → slice_get xs y ≡ Some v → AreKnown cells (variable_parts v)
  variable_known [] known y v found = absurd (none-some v found)
  variable_known (x ∷ xs) known zero v found =
      subst (λ w. AreKnown cells (variable_parts w)) (same_Some x v found) (known_left cells (variable_parts x) (variables_parts xs) known)
  variable_known (x ∷ xs) known (suc y) v found = variable_known xs (known_right cells (variable_parts x) (variables_parts xs) known) y v found

  -- which has a block
  home_known : (v : Variable) → AreKnown cells (variable_parts v) → v.is_plain ≡ false → AreKnown cells (blocks ∷ map of_kind v.layout.cells)
  home_known v known home = subst (λ b. AreKnown cells (if b then if_pointer (kind_of v) else blocks ∷ map of_kind v.layout.cells)) home known

  kinds_known : (ks : List CellKind) → AreKnown cells (blocks ∷ map of_kind ks) → AreKnown cells (map of_kind ks)
  kinds_known ks known = and_second cells.has_blocks (list_all (is_part_of cells) (map of_kind ks)) known

  pub declared_fits : (s : Shape) (v : Variable) → AreKnown cells (variable_parts v) → DeclaredFits s cells v
  declared_fits s v known = record {
    blocks = λ home. blocks_known cells (map of_kind v.layout.cells) (home_known v known home);
    kinds = λ home k is. any_known k v.layout.cells (kinds_known v.layout.cells (home_known v known home)) is;
  }

  pub one_cell_fits : (v : Variable) (k : CellKind) → AreKnown cells (variable_parts v) → v.is_plain ≡ false → cells_of v.layout ≡ k ∷ []
      → (cells.has_blocks ≡ true) × (cells.has_kind k ≡ true)
  one_cell_fits v k known home one = (
    blocks_known cells (map of_kind v.layout.cells) (home_known v known home),
    one_known k v.layout.count v.layout.cells (kinds_known v.layout.cells (home_known v known home)) one,
  )

  -- ---- variables that are declared

  module _ (p : Facts) (s : Shape) (n : ℕ) (k : ℕ → CellKind) (b : Bool) (h : CellKind → Bool) (known : AreKnown cells (variables_parts s.variables)) where
    pub declares : (i : InScope) (low : ℕ) (ys : List ℕ) → typed.Declares p (typed_shape s n k b h) i low ys → Declares s cells i ys
    declares i low [] is = tt
    declares i low (y ∷ ys) is =
        (is.0, (is.2.0, is.2.1, declared_fits s is.2.0 (variable_known s.variables known y is.2.0 is.2.1)), declares (with_name y i) low ys is.3)

    pub takes : (i : InScope) (low x : ℕ) (l : CellKind) → typed.Takes p (typed_shape s n k b h) i low x l → Takes s cells i x l
    takes i low x l is = record {
      variable = is.variable;
      found = is.found;
      scoped = is.scoped;
      kind = is.kind;
      one_cell = λ home.
          let cell = one_cell_fits is.variable l (variable_known s.variables known x is.variable is.found) home (is.one_cell home) in (is.one_cell home, cell.0, cell.1);
    }

pub typed_variables_fit : TypedVariablesFit
typed_variables_fit p s n k b h cells i known = record { declared = declares cells p s n k b h known i; takes = takes cells p s n k b h known i }
