-- Variables of a file's program have the cells of their types.
use Rattle.std.proofs.Common.{◌≡◌, ℕ, zero, suc, ◌+◌, Bool, false, is_some, List, [], ◌∷◌, map, Option, Some, None, slice_get, slice_index_or, refl, sym, ap, ◌∙◌, arith}
use Rattle.wp_base.specs.declared.kinds.CellKind.{CellKind}
use Rattle.wp_base.specs.declared.kinds.Layout.{Layout}
use Rattle.typed_prog.specs.declared.types.Base.{Base}
use Rattle.typed_prog.specs.declared.types.Base.TheVariants as base
use Rattle.typed_prog.specs.declared.operators.Variable.TheVariants as variable
use Rattle.c_scopes.specs.declared.symbols.Object.{Object}
use Rattle.c_scopes.specs.declared.symbols.Structure.{Structure}
use Rattle.c_scopes.specs.Extents.{element_cells, struct_cells}
use Rattle.c_programs.specs.Files.{or_none, variable_of, variables_from}
use Rattle.c_runs.specs.Program.{Variable}
use Rattle.value_terms.specs.Typed.{Scope}
use Rattle.typed_values.specs.Declared.{HasLayout, Holds}
use Rattle.typed_values.specs.Files.{VariablesAreKnown}
use Rattle.typed_values.specs.Programs.{PlainAreScalars, ProgramsMeetTheirFiles}
use Rattle.typed_values.proofs.Files.{files_know_their_cells}

-- a variable by its number
record IsThere (ss : List Structure) (vs : List Variable) (n : ℕ) (o : Object) (is_plain : Bool) : Type 0 where
  pub valued : Bool
  pub found : slice_get vs n ≡ Some (variable_of ss o is_plain valued)

is_there : (ss : List Structure) (ps vs : List Bool) (start n m : ℕ) (os : List Object) (o : Object) → m ≡ start + n → slice_get os n ≡ Some o
    → IsThere ss (variables_from ss ps vs start os) n o (slice_index_or ps m false)
is_there ss ps vs start n m [] o at h = absurd cc
is_there ss ps vs start zero m (x ∷ os) o at h =
    let e : start ≡ m = omega (arith, at) in
    let same : x ≡ o = cc in
    record {
      valued = slice_index_or vs start false;
      found = ap (λ (y : Object). Some (variable_of ss y (slice_index_or ps start false) (slice_index_or vs start false))) same
          ∙ ap (λ k. Some (variable_of ss o (slice_index_or ps k false) (slice_index_or vs start false))) e;
    }
is_there ss ps vs start (suc n) m (x ∷ os) o at h =
    let r = is_there ss ps vs (start + 1) n m os o (omega (arith, at)) h in record { valued = r.valued; found = r.found }

-- more structs leave the cells of a type as they are
more_by : (found : Option Structure) (cells : List CellKind) → struct_cells found ≡ Some cells → (x : Structure) × (found ≡ Some x) × (struct_cells (Some x) ≡ Some cells)
more_by None cells h = absurd cc
more_by (Some x) cells h = (x, refl, h)

module _ (ss more : List Structure) (in_more : (tag : ℕ) (x : Structure) → slice_get ss tag ≡ Some x → slice_get more tag ≡ Some x) where
  pub more_cells : (b : Base) (stars : List Bool) (cells : List CellKind) → element_cells ss b stars ≡ Some cells → element_cells more b stars ≡ Some cells
  more_cells (base.Struct n) [] cells h =
      let r = more_by (slice_get ss n) cells h in ap struct_cells (in_more n r.0 r.1) ∙ r.2
  more_cells (base.Of k) [] cells h = h
  more_cells base.Void [] cells h = absurd cc
  more_cells (base.Struct n) (star ∷ stars) cells h = h
  more_cells (base.Of k) (star ∷ stars) cells h = h
  more_cells base.Void (star ∷ stars) cells h = h

  -- the layout that the program has of the object
  layout_is : (o : Object) (l : Layout) (is_plain valued : Bool) → HasLayout ss o.ty l → HasLayout ss o.ty (variable_of more o is_plain valued).layout
  layout_is o l is_plain valued h = record {
    elements = h.elements ∙ ap (λ (cells : Option (List CellKind)). Some (or_none cells)) (sym (more_cells o.ty.base o.ty.stars l.cells h.elements));
    count = refl;
  }

  holds : (s : Scope) (ps vs : List Bool) (os : List Object) (n : ℕ) (o : Object) → PlainAreScalars ps os → VariablesAreKnown s ps os → slice_get os n ≡ Some o
      → ((l : Layout) × HasLayout ss o.ty l) → Holds ss s (variables_from more ps vs 0 os) n o
  holds s ps vs os n o scalars known h laid =
      let there = is_there more ps vs 0 n n os o (omega arith) h in
      let k = known n o h in
      record {
        variable = variable_of more o (slice_index_or ps n false) there.valued;
        found = there.found;
        layout = layout_is o laid.0 (slice_index_or ps n false) there.valued laid.1;
        scalar = λ plain. scalars n o h plain;
        target = k.target;
        blocks = k.blocks;
        object = k.object;
      }

pub programs_meet_their_files : ProgramsMeetTheirFiles
programs_meet_their_files f a n b found c laid stands s of_file values =
    let known = files_know_their_cells f s of_file in
    let body = known.bodies n b found in
    record {
      model = stands.model;
      globals = λ i o h.
          holds c.scope.file.structs f.file.structs stands.structs s f.plain (map is_some f.inits) f.file.globals i o stands.plain_globals known.globals (stands.globals i o h)
          (laid.variables (variable.Global i) o h);
      locals = λ i o h.
          holds c.scope.file.structs f.file.structs stands.structs s b.plain values b.locals i o stands.plain_locals body.locals (stands.locals i o h)
          (laid.variables (variable.Local i) o h);
      sizes = laid.sizes;
      structs = laid.structs;
      fields = λ tag number x m h has. known.fields tag number x m (stands.structs tag x h) has;
    }
