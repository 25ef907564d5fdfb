-- The variables of a body in its program.
use Rattle.std.proofs.Common.{◌≡◌, ℕ, zero, suc, ◌+◌, ◌≤◌, pos, Bool, true, false, ◌&&◌, ◌||◌, List, [], ◌∷◌, length, Some, slice_get, slice_index_or, refl, sym, ap, ◌∙◌, arith}
use Rattle.std.specs.Prelude.{int_le}
use Rattle.std.specs.Option.{unwrap_or}
use Rattle.std.specs.List.{list_all}
use Rattle.wp_base.specs.declared.kinds.Layout.{Layout}
use Rattle.wp_base.specs.Blocks.{repeated, cells_of}
use Rattle.c_kinds.specs.Models.{high, difference_kind}
use Rattle.c_scopes.specs.declared.symbols.Object.{Object}
use Rattle.c_scopes.specs.declared.symbols.Structure.{Structure}
use Rattle.c_scopes.specs.Extents.{element_cells, most_cells}
use Rattle.c_well_typed.specs.Operators.{IsScalar}
use Rattle.c_programs.specs.Files.{or_none, layout_of, variable_of, variables_from}
use Rattle.c_runs.specs.Program.{Variable, Facts}
use Rattle.c_runs.specs.Objects.{is_plain_in}
use Rattle.c_runs.specs.Scopes.{scalar_of}
use Rattle.run_blocks.specs.Ends.{is_short}
use Rattle.typed_runs.specs.Fitting.{kind_of}
use Rattle.value_terms.specs.Typed.{kind_given}
use Rattle.typed_values.specs.Declared.{HasLayout}
use Rattle.typed_values.proofs.Types.{scalar_one, scalar_cells}
use Rattle.plain_files.proofs.Names.{some_is}
use Rattle.kinded_files.proofs.Short.{within_differences}

-- ---- a variable by its number

pub layout_there : (ss : List Structure) (ps vs : List Bool) (k n : ℕ) (os : List Object) (o : Object) (v : Variable) → slice_get os n ≡ Some o → slice_get (variables_from ss ps vs k os) n ≡ Some v
    → v.layout ≡ layout_of ss o.ty o.is_const
layout_there ss ps vs k n [] o v h e = absurd cc
layout_there ss ps vs k zero (x ∷ os) o v h e =
    let one = some_is (variable_of ss x (slice_index_or ps k false) (slice_index_or vs k false)) v e in
    ap (λ (w : Variable). w.layout) (sym one) ∙ ap (λ (y : Object). layout_of ss y.ty y.is_const) (some_is x o h)
layout_there ss ps vs k (suc n) (x ∷ os) o v h e = layout_there ss ps vs (k + 1) n os o v h e

-- a variable that no pointer leads to has its flag
pub plain_there : (ss : List Structure) (ps vs : List Bool) (k n m : ℕ) (os : List Object) → m ≡ k + n → is_plain_in (slice_get (variables_from ss ps vs k os) n) ≡ true → slice_index_or ps m false ≡ true
plain_there ss ps vs k n m [] at h = absurd cc
plain_there ss ps vs k zero m (o ∷ os) at h = let e : m ≡ k = omega (arith, at) in ap (λ i. slice_index_or ps i false) e ∙ h
plain_there ss ps vs k (suc n) m (o ∷ os) at h = plain_there ss ps vs (k + 1) n m os (omega (arith, at)) h

-- ---- scalars

module _ (ss : List Structure) (o : Object) (v : Variable) (layout : v.layout ≡ layout_of ss o.ty o.is_const) (scalar : IsScalar o.ty) where
  one_cell : v.layout.cells ≡ kind_given o.ty ∷ []
  one_cell = ap (λ (l : Layout). l.cells) layout ∙ ap or_none (scalar_cells ss o.ty scalar)

  one_element : v.layout.count ≡ 1
  one_element = ap (λ (l : Layout). l.count) layout ∙ ap (λ n. unwrap_or n 1) (scalar_one o.ty scalar)

  pub kind_there : kind_given o.ty ≡ kind_of v
  kind_there = sym (ap scalar_of one_cell)

  pub cell_there : cells_of v.layout ≡ kind_of v ∷ []
  cell_there =
      ap (λ n. repeated n v.layout.cells) one_element ∙ ap (λ cells. repeated 1 cells) one_cell ∙ ap (λ k. k ∷ []) kind_there

-- ---- objects within the limit

cells_there : (ss : List Structure) (o : Object) (l : Layout) → HasLayout ss o.ty l → cells_of (layout_of ss o.ty o.is_const) ≡ cells_of l
cells_there ss o l h = ap (λ n. repeated n (or_none (element_cells ss o.ty.base o.ty.stars))) (sym h.count) ∙ ap (λ cells. repeated l.count (or_none cells)) h.elements

or_second : (a b : Bool) → b ≡ true → (a || b) ≡ true
or_second true b h = refl
or_second false b h = h

and_both : (a b : Bool) → a ≡ true → b ≡ true → (a && b) ≡ true
and_both true b h k = k
and_both false b h k = h

module _ (p : Facts) (ss : List Structure) (ps vs : List Bool) where
  pub all_short : (k : ℕ) (os : List Object) → ((n : ℕ) (o : Object) → slice_get os n ≡ Some o → (l : Layout) × HasLayout ss o.ty l × (length (cells_of l) ≤ most_cells))
      → list_all (is_short p) (variables_from ss ps vs k os) ≡ true
  all_short k [] h = refl
  all_short k (o ∷ os) h =
      let first = h 0 o refl in
      let same = cells_there ss o first.0 first.1 in
      let short = within_differences p.model (length (cells_of first.0)) first.2 in
      let v = variable_of ss o (slice_index_or ps k false) (slice_index_or vs k false) in
      and_both (is_short p v) (list_all (is_short p) (variables_from ss ps vs (k + 1) os))
      (or_second (slice_index_or ps k false) (int_le (pos (length (cells_of v.layout))) (high p.model (difference_kind p.model)))
      (ap (λ cells. int_le (pos (length cells)) (high p.model (difference_kind p.model))) same ∙ short))
      (all_short (k + 1) os (λ n x e. h (suc n) x e))
