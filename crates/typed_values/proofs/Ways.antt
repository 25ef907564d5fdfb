-- Where ways lead: to objects that are spoken of, and in a variable to the cells of their types.
use Rattle.std.proofs.Common.{◌≡◌, ℕ, ◌+◌, ◌*◌, ◌<◌, Bool, true, List, [], ◌∷◌, length, Option, Some, None, slice_get, slice_index_or, refl, sym, ap, subst, ◌∙◌, arith}
use Rattle.std.specs.Option.{unwrap_or}
use Rattle.std.specs.List.{list_all}
use Rattle.wp_base.specs.declared.kinds.CellKind.{CellKind}
use Rattle.wp_base.specs.declared.kinds.Layout.{Layout}
use Rattle.wp_base.specs.Blocks.{repeated, cells_of}
use Rattle.typed_prog.specs.declared.types.Base.{Base}
use Rattle.typed_prog.specs.declared.types.Base.TheVariants as base
use Rattle.typed_prog.specs.declared.types.CoreType.{CoreType}
use Rattle.typed_prog.specs.declared.operators.Step.{Step}
use Rattle.typed_prog.specs.declared.operators.Step.TheVariants as step
use Rattle.c_rules.specs.Pointers.{cells_by}
use Rattle.c_scopes.specs.declared.symbols.Resolved.{Resolved}
use Rattle.c_scopes.specs.declared.symbols.Structure.{Structure}
use Rattle.c_scopes.specs.Extents.{element_cells, struct_cells}
use Rattle.c_exprs.specs.Typing.{Around}
use Rattle.c_well_typed.specs.Paths.{IsField, IsElement, AllLead}
use Rattle.c_well_typed.specs.Operators.{IsScalar}
use Rattle.c_well_typed.specs.Scalars.{HasObjects}
use Rattle.c_runs.specs.Program.{Facts, Variable}
use Rattle.value_terms.specs.Typed.{Scope, kind_given, ReachesFrom}
use Rattle.typed_values.specs.Kinds.{ObjectIsKnown}
use Rattle.typed_values.specs.Declared.{HasLayout, Meets}
use Rattle.typed_values.specs.Values.{stays}
use Rattle.typed_values.proofs.Cells.{found_first, in_element, in_field, FieldHas, field_has}
use Rattle.typed_values.proofs.Types.{scalar_one, scalar_no_struct, scalar_cells, has_objects, struct_is}

-- ---- objects in cells

-- from this cell on there are those of an object of the type
pub record Lies (ss : List Structure) (cells : List CellKind) (n : ℕ) (type : CoreType) : Type 0 where
  pub element : List CellKind
  pub are : element_cells ss type.base type.stars ≡ Some element
  pub there : (i : ℕ) (k : CellKind) → slice_get (repeated (unwrap_or type.count 1) element) i ≡ Some k → slice_get cells (n + i) ≡ Some k

-- an object that may be read, and isn't `void`
pub record IsSound (s : Scope) (type : CoreType) : Type 0 where
  pub objects : HasObjects type
  pub known : ObjectIsKnown s type

same_element : (x y : List CellKind) → Some x ≡ Some y → x ≡ y
same_element x y h = cc

-- the whole of a variable
pub whole : (ss : List Structure) (type : CoreType) (l : Layout) → HasLayout ss type l → Lies ss (cells_of l) 0 type
whole ss type l h = record {
  element = l.cells;
  are = h.elements;
  there = λ i k found.
      let e : 0 + i ≡ i = omega arith in
      ap (λ n. slice_get (cells_of l) n) e ∙ ap (λ n. slice_get (repeated n l.cells) i) h.count ∙ found;
}

-- a scalar has one cell, of its kind
pub scalar_there : (ss : List Structure) (cells : List CellKind) (n : ℕ) (type : CoreType) → Lies ss cells n type → IsScalar type → slice_get cells n ≡ Some (kind_given type)
scalar_there ss cells n type lies h =
    let same : lies.element ≡ kind_given type ∷ [] = same_element _ _ (sym lies.are ∙ scalar_cells ss type h) in
    let one : unwrap_or type.count 1 ≡ 1 = ap (λ (c : Option ℕ). unwrap_or c 1) (scalar_one type h) in
    let e : n ≡ n + 0 = omega arith in
    ap (λ m. slice_get cells m) e
    ∙ lies.there 0 (kind_given type) (ap (λ m. slice_get (repeated m lies.element) 0) one ∙ ap (λ es. slice_get (repeated 1 es) 0) same)

-- ---- what no way leads to

module _ (c : Around) (types : List CoreType) where
  -- a scalar has no parts
  pub no_parts : (ss : List Step) (from to : Resolved) → IsScalar from.ty → AllLead c types ss from to → list_all stays ss ≡ true → ss ≡ []
  no_parts [] from to h leads stay = refl
  no_parts (step.Field number offset ∷ ss) from to h leads stay =
      let none : Some leads.1.tag ≡ None = sym leads.1.is_struct ∙ scalar_no_struct from.ty h in absurd cc
  no_parts (step.Element operand size count line ∷ ss) from to h leads stay =
      let none : Some count ≡ None = sym leads.1.is_array ∙ scalar_one from.ty h in absurd cc
  no_parts (step.Moved operand size ∷ ss) from to h leads stay = absurd cc

module _ (p : Facts) (xs : List Variable) (s : Scope) (c : Around) (meets : Meets c p xs s) where
  abbrev structs : List Structure
  structs = c.scope.file.structs

  -- ---- one step

  abbrev has_field : (number offset : ℕ) (from to : Resolved) (f : IsField c number offset from to)
      → FieldHas structs (meets.structs f.tag f.structure f.declared).parts number f.member
  has_field number offset from to f =
      let laid = meets.structs f.tag f.structure f.declared in field_has structs f.structure.fields laid.parts number f.member laid.fields f.has

  field_sound : (number offset : ℕ) (from to : Resolved) → IsField c number offset from to → IsSound s to.ty
  field_sound number offset from to f =
      let has = has_field number offset from to f in
      subst (λ (t : Resolved). IsSound s t.ty) (sym f.same)
      (record { objects = has_objects structs f.member.ty has.part.cells has.layout.elements; known = meets.fields f.tag number f.structure f.member f.declared f.has })

  field_lies : (cells : List CellKind) (n number offset : ℕ) (from to : Resolved) → Lies structs cells n from.ty → IsField c number offset from to → Lies structs cells (n + offset) to.ty
  field_lies cells n number offset from to lies f =
      let laid = meets.structs f.tag f.structure f.declared in
      let has = has_field number offset from to f in
      let type = struct_is from.ty f.tag f.is_struct in
      let element : lies.element ≡ f.structure.layout.cells =
      same_element _ _ (sym lies.are ∙ ap (λ (t : CoreType). element_cells structs t.base t.stars) type ∙ ap struct_cells f.declared) in
      let one : unwrap_or from.ty.count 1 ≡ 1 = ap (λ (t : CoreType). unwrap_or t.count 1) type in
      subst (λ (t : Resolved). Lies structs cells (n + offset) t.ty) (sym f.same)
      (record {
        element = has.part.cells;
        are = has.layout.elements;
        there = λ i k found.
            let e : (n + offset) + i ≡ n + (offset + i) = omega arith in
            let inside = in_field laid.parts number has.part offset has.found (ap (λ ns. slice_get ns number) (sym laid.offsets) ∙ f.stands) i k
            (ap (λ m. slice_get (repeated m has.part.cells) i) has.layout.count ∙ found) in
            let in_struct : slice_get f.structure.layout.cells (offset + i) ≡ Some k = ap (λ ks. slice_get ks (offset + i)) laid.cells ∙ inside in
            ap (λ m. slice_get cells m) e
            ∙ lies.there (offset + i) k
            (ap (λ m. slice_get (repeated m lies.element) (offset + i)) one
            ∙ ap (λ es. slice_get (repeated 1 es) (offset + i)) element
            ∙ found_first f.structure.layout.cells [] (offset + i) k in_struct);
      })

  struct_size : (tag : ℕ) (element : List CellKind) (found : Option Structure) → slice_get structs tag ≡ found → struct_cells found ≡ Some element
      → slice_index_or c.sizes tag 1 ≡ length element
  struct_size tag element (Some x) e h = meets.sizes tag x e ∙ ap length (same_element x.layout.cells element h)
  struct_size tag element None e h = absurd cc

  size_by : (b : Base) (stars : List Bool) (element : List CellKind) → element_cells structs b stars ≡ Some element → cells_by c.sizes b stars ≡ length element
  size_by (base.Struct tag) [] element h = struct_size tag element (slice_get structs tag) refl h
  size_by (base.Of k) [] element h = ap length (same_element (_ ∷ []) element h)
  size_by base.Void [] element h = absurd cc
  size_by (base.Struct tag) (star ∷ stars) element h = ap length (same_element (_ ∷ []) element h)
  size_by (base.Of k) (star ∷ stars) element h = ap length (same_element (_ ∷ []) element h)
  size_by base.Void (star ∷ stars) element h = ap length (same_element (_ ∷ []) element h)

  module _ (types : List CoreType) where
    element_lies : (cells : List CellKind) (n operand size count i : ℕ) (from to : Resolved) → Lies structs cells n from.ty → IsElement c types operand size count from to → i < count
        → Lies structs cells (n + size * i) to.ty
    element_lies cells n operand size count i from to lies f below =
        let is_size : size ≡ length lies.element = f.cells ∙ size_by from.ty.base from.ty.stars lies.element lies.are in
        let count_is : unwrap_or from.ty.count 1 ≡ count = ap (λ (o : Option ℕ). unwrap_or o 1) f.is_array in
        subst (λ (t : Resolved). Lies structs cells (n + size * i) t.ty) (sym f.same)
        (record {
          element = lies.element;
          are = lies.are;
          there = λ j k found.
              let e : (n + size * i) + j ≡ n + (size * i + j) = omega arith in
              let front : slice_get lies.element j ≡ Some k = ap (λ es. slice_get es j) (sym (one_time lies.element)) ∙ found in
              ap (λ m. slice_get cells m) e
              ∙ lies.there (size * i + j) k
              (ap (λ m. slice_get (repeated m lies.element) (size * i + j)) count_is
              ∙ ap (λ m. slice_get (repeated count lies.element) (m * i + j)) is_size
              ∙ in_element count i j lies.element k below front);
        })
      where
        one_time : (es : List CellKind) → repeated 1 es ≡ es
        one_time [] = refl
        one_time (e ∷ es) = ap (λ ks. e ∷ ks) (one_time es)

    -- ---- whole ways

    pub sound_along : (ss : List Step) (from to : Resolved) → IsSound s from.ty → AllLead c types ss from to → IsSound s to.ty
    sound_along [] from to sound leads = subst (λ (t : Resolved). IsSound s t.ty) (sym leads) sound
    sound_along (step.Field number offset ∷ ss) from to sound leads = sound_along ss leads.0 to (field_sound number offset from leads.0 leads.1) leads.2
    sound_along (step.Element operand size count line ∷ ss) from to sound leads =
        sound_along ss leads.0 to (subst (λ (t : Resolved). IsSound s t.ty) (sym leads.1.same) (record { objects = sound.objects; known = sound.known })) leads.2
    sound_along (step.Moved operand size ∷ ss) from to sound leads = sound_along ss leads.0 to (subst (λ (t : Resolved). IsSound s t.ty) (sym leads.1.same) sound) leads.2

    pub reaches : (cells : List CellKind) (n : ℕ) (ss : List Step) (from to : Resolved) → Lies structs cells n from.ty → AllLead c types ss from to → list_all stays ss ≡ true → IsScalar to.ty
        → ReachesFrom n cells ss (kind_given to.ty)
    reaches cells n [] from to lies leads stay h = scalar_there structs cells n to.ty (subst (λ (t : Resolved). Lies structs cells n t.ty) (sym leads) lies) h
    reaches cells n (step.Field number offset ∷ ss) from to lies leads stay h =
        reaches cells (n + offset) ss leads.0 to (field_lies cells n number offset from leads.0 lies leads.1) leads.2 stay h
    reaches cells n (step.Element operand size count line ∷ ss) from to lies leads stay h =
        λ i below. reaches cells (n + size * i) ss leads.0 to (element_lies cells n operand size count i from leads.0 lies leads.1 below) leads.2 stay h
    reaches cells n (step.Moved operand size ∷ ss) from to lies leads stay h = absurd cc
