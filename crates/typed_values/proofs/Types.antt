-- What is so of scalars, of pointers, and of types whose cells are spoken of.
use Rattle.std.proofs.Common.{◌≡◌, ℕ, Bool, true, false, ◌||◌, is_some, List, [], ◌∷◌, Option, Some, None, refl, sym, ap, subst, ◌∙◌}
use Rattle.wp_base.specs.declared.kinds.CellKind.{CellKind}
use Rattle.wp_base.specs.declared.kinds.CellKind.TheVariants as cell
use Rattle.wp_base.specs.declared.kinds.Kind.{Kind}
use Rattle.wp_base.specs.declared.kinds.Kind.TheVariants as kind
use Rattle.c_kinds.specs.Conversions.{promote}
use Rattle.typed_prog.specs.declared.types.Base.{Base}
use Rattle.typed_prog.specs.declared.types.Base.TheVariants as base
use Rattle.typed_prog.specs.declared.types.CoreType.{CoreType}
use Rattle.typed_prog.specs.Types.{type_with, of_kind, kind_by, struct_by, struct_of, target_by, target_of, is_pointer_by, is_pointer, is_void_by, is_void, with_const_target, with_const_by}
use Rattle.c_scopes.specs.declared.symbols.Structure.{Structure}
use Rattle.c_scopes.specs.Extents.{element_cells}
use Rattle.c_well_typed.specs.Paths.{IsInteger as IsNumber}
use Rattle.c_well_typed.specs.Operators.{IsScalar}
use Rattle.c_well_typed.specs.Scalars.{HasObjects}
use Rattle.c_runs.specs.Objects.{cell_of}
use Rattle.c_runs.specs.Values.{kind_at}
use Rattle.value_terms.specs.Typed.{Scope, kind_given, IsInteger}
use Rattle.typed_values.specs.Kinds.{ObjectIs, TargetIs, ObjectIsKnown, TargetIsKnown}

-- ---- scalars

one_by : (b : Base) (stars : List Bool) (count : Option ℕ) → (is_some (kind_by b stars count) || is_pointer_by stars count) ≡ true → count ≡ None
one_by b stars None h = refl
one_by (base.Of k) [] (Some n) h = absurd cc
one_by base.Void [] (Some n) h = absurd cc
one_by (base.Struct m) [] (Some n) h = absurd cc
one_by (base.Of k) (star ∷ stars) (Some n) h = absurd cc
one_by base.Void (star ∷ stars) (Some n) h = absurd cc
one_by (base.Struct m) (star ∷ stars) (Some n) h = absurd cc

pub scalar_one : (type : CoreType) → IsScalar type → type.count ≡ None
scalar_one type h = one_by type.base type.stars type.count h

no_struct_by : (b : Base) (stars : List Bool) (count : Option ℕ) → (is_some (kind_by b stars count) || is_pointer_by stars count) ≡ true → struct_by b stars count ≡ None
no_struct_by (base.Of k) stars count h = refl
no_struct_by base.Void stars count h = refl
no_struct_by (base.Struct m) [] None h = absurd cc
no_struct_by (base.Struct m) [] (Some n) h = absurd cc
no_struct_by (base.Struct m) (star ∷ stars) count h = refl

pub scalar_no_struct : (type : CoreType) → IsScalar type → struct_of type ≡ None
scalar_no_struct type h = no_struct_by type.base type.stars type.count h

held_by : (b : Base) (stars : List Bool) (count : Option ℕ) → is_void_by b stars None ≡ false → count ≡ None → struct_by b stars count ≡ None
    → IsScalar (type_with b stars count)
held_by b stars (Some n) h none e = absurd cc
held_by base.Void [] None h none e = absurd cc
held_by base.Void (star ∷ stars) None h none e = refl
held_by (base.Of k) [] None h none e = refl
held_by (base.Of k) (star ∷ stars) None h none e = refl
held_by (base.Struct n) [] None h none e = absurd cc
held_by (base.Struct n) (star ∷ stars) None h none e = refl

pub held : (type : CoreType) → HasObjects type → type.count ≡ None → struct_of type ≡ None → IsScalar type
held type h none e = held_by type.base type.stars type.count h none e

cell_is_by : (b : Base) (stars : List Bool) (count : Option ℕ) → IsScalar (type_with b stars count) → cell_of (type_with b stars count) ≡ kind_given (type_with b stars count)
cell_is_by (base.Of k) [] None h = refl
cell_is_by (base.Of k) [] (Some n) h = absurd cc
cell_is_by base.Void [] None h = absurd cc
cell_is_by base.Void [] (Some n) h = absurd cc
cell_is_by (base.Struct m) [] None h = absurd cc
cell_is_by (base.Struct m) [] (Some n) h = absurd cc
cell_is_by (base.Of k) (star ∷ stars) None h = refl
cell_is_by base.Void (star ∷ stars) None h = refl
cell_is_by (base.Struct m) (star ∷ stars) None h = refl
cell_is_by (base.Of k) (star ∷ stars) (Some n) h = absurd cc
cell_is_by base.Void (star ∷ stars) (Some n) h = absurd cc
cell_is_by (base.Struct m) (star ∷ stars) (Some n) h = absurd cc

pub cell_is : (type : CoreType) → IsScalar type → cell_of type ≡ kind_given type
cell_is type h = cell_is_by type.base type.stars type.count h

-- the one cell of a scalar
cells_by : (ss : List Structure) (b : Base) (stars : List Bool) (count : Option ℕ) → IsScalar (type_with b stars count)
    → element_cells ss b stars ≡ Some (kind_given (type_with b stars count) ∷ [])
cells_by ss (base.Of k) [] None h = refl
cells_by ss (base.Of k) [] (Some n) h = absurd cc
cells_by ss base.Void [] None h = absurd cc
cells_by ss base.Void [] (Some n) h = absurd cc
cells_by ss (base.Struct m) [] None h = absurd cc
cells_by ss (base.Struct m) [] (Some n) h = absurd cc
cells_by ss (base.Of k) (star ∷ stars) None h = refl
cells_by ss base.Void (star ∷ stars) None h = refl
cells_by ss (base.Struct m) (star ∷ stars) None h = refl
cells_by ss (base.Of k) (star ∷ stars) (Some n) h = absurd cc
cells_by ss base.Void (star ∷ stars) (Some n) h = absurd cc
cells_by ss (base.Struct m) (star ∷ stars) (Some n) h = absurd cc

pub scalar_cells : (ss : List Structure) (type : CoreType) → IsScalar type → element_cells ss type.base type.stars ≡ Some (kind_given type ∷ [])
scalar_cells ss type h = cells_by ss type.base type.stars type.count h

-- what has cells isn't `void`
objects_by : (ss : List Structure) (b : Base) (stars : List Bool) (cells : List CellKind) → element_cells ss b stars ≡ Some cells → is_void_by b stars None ≡ false
objects_by ss (base.Of k) stars cells h = refl
objects_by ss (base.Struct n) stars cells h = refl
objects_by ss base.Void (star ∷ stars) cells h = refl
objects_by ss base.Void [] cells h = absurd cc

pub has_objects : (ss : List Structure) (type : CoreType) (cells : List CellKind) → element_cells ss type.base type.stars ≡ Some cells → HasObjects type
has_objects ss type cells h = objects_by ss type.base type.stars cells h

struct_is_by : (b : Base) (stars : List Bool) (count : Option ℕ) (tag : ℕ) → struct_by b stars count ≡ Some tag → type_with b stars count ≡ type_with (base.Struct tag) [] None
struct_is_by (base.Of k) stars count tag h = absurd cc
struct_is_by base.Void stars count tag h = absurd cc
struct_is_by (base.Struct m) [] None tag h = let e : m ≡ tag = cc in ap (λ n. type_with (base.Struct n) [] None) e
struct_is_by (base.Struct m) [] (Some n) tag h = absurd cc
struct_is_by (base.Struct m) (star ∷ stars) count tag h = absurd cc

pub struct_is : (type : CoreType) (tag : ℕ) → struct_of type ≡ Some tag → type ≡ type_with (base.Struct tag) [] None
struct_is type tag h = struct_is_by type.base type.stars type.count tag h

-- ---- integers

number_by : (b : Base) (stars : List Bool) (count : Option ℕ) (k : Kind) → kind_by b stars count ≡ Some k → type_with b stars count ≡ of_kind k
number_by (base.Of j) [] None k h = let e : j ≡ k = cc in ap of_kind e
number_by (base.Of j) [] (Some n) k h = absurd cc
number_by (base.Of j) (c ∷ cs) count k h = absurd cc
number_by base.Void stars count k h = absurd cc
number_by (base.Struct n) stars count k h = absurd cc

pub number_is : (type : CoreType) → IsNumber type → (k : Kind) × (type ≡ of_kind k)
number_is type h = (h.0, number_by type.base type.stars type.count h.0 h.1)

abbrev is_bool : Kind → Bool
is_bool kind.Bool = true
is_bool k = false

promoted_bool : (k : Kind) → promote k ≡ k → k ≡ kind.Bool → ⊥
promoted_bool k h e = let all : true ≡ false = ap is_bool (sym e ∙ sym h ∙ ap promote e) in cc

pub of_promoted : (type : CoreType) (k : Kind) → type ≡ of_kind k → promote k ≡ k → IsInteger type
of_promoted type k same promoted = record { no_pointer = ap is_pointer same; promoted = λ e. promoted_bool k promoted (sym (ap kind_at same) ∙ e) }

-- ---- pointers

pub pointer_given : (type : CoreType) → is_pointer type ≡ true → kind_given type ≡ cell.Ptr
pointer_given type h = ap (λ b. given b (kind_at type)) h
  where
    given : Bool → Kind → CellKind
    given true k = cell.Ptr
    given false k = cell.Of k

const_by : (b : Base) (stars : List Bool) (count : Option ℕ) → is_pointer_by stars count ≡ true → is_pointer (with_const_by b stars count) ≡ true
const_by b [] count h = h
const_by b (star ∷ stars) None h = refl
const_by b (star ∷ stars) (Some n) h = h

pub const_pointer : (a : CoreType) → is_pointer a ≡ true → is_pointer (with_const_target a) ≡ true
const_pointer a h = const_by a.base a.stars a.count h

target_pointer_by : (b : Base) (stars : List Bool) (count : Option ℕ) (to : CoreType × Bool) → target_by b stars count ≡ Some to → is_pointer_by stars count ≡ true
target_pointer_by b [] count to h = absurd cc
target_pointer_by b (star ∷ stars) (Some n) to h = absurd cc
target_pointer_by b (star ∷ stars) None to h = refl

pub target_pointer : (type : CoreType) (to : CoreType × Bool) → target_of type ≡ Some to → is_pointer type ≡ true
target_pointer type to h = target_pointer_by type.base type.stars type.count to h

-- ---- what is known

module _ (s : Scope) where
  object_target : (b : Base) (stars : List Bool) → ObjectIs s b stars → TargetIs s b stars
  object_target b [] h = tt
  object_target b (star ∷ stars) h = (h.1, h.2)

  pub known_target : (type : CoreType) → ObjectIsKnown s type → TargetIsKnown s type
  known_target type h = object_target type.base type.stars h

  kind_known_by : (b : Base) (stars : List Bool) (count : Option ℕ) → IsScalar (type_with b stars count) → ObjectIs s b stars → s.has_kind (kind_given (type_with b stars count)) ≡ true
  kind_known_by (base.Of k) [] None h known = known
  kind_known_by (base.Of k) [] (Some n) h known = absurd cc
  kind_known_by base.Void [] None h known = absurd cc
  kind_known_by base.Void [] (Some n) h known = absurd cc
  kind_known_by (base.Struct m) [] None h known = absurd cc
  kind_known_by (base.Struct m) [] (Some n) h known = absurd cc
  kind_known_by (base.Of k) (star ∷ stars) None h known = known.0
  kind_known_by base.Void (star ∷ stars) None h known = known.0
  kind_known_by (base.Struct m) (star ∷ stars) None h known = known.0
  kind_known_by (base.Of k) (star ∷ stars) (Some n) h known = absurd cc
  kind_known_by base.Void (star ∷ stars) (Some n) h known = absurd cc
  kind_known_by (base.Struct m) (star ∷ stars) (Some n) h known = absurd cc

  pub kind_known : (type : CoreType) → IsScalar type → ObjectIsKnown s type → s.has_kind (kind_given type) ≡ true
  kind_known type h known = kind_known_by type.base type.stars type.count h known

  pointer_blocks_by : (b : Base) (stars : List Bool) (count : Option ℕ) → is_pointer_by stars count ≡ true → TargetIs s b stars → s.has_blocks ≡ true
  pointer_blocks_by b [] count h known = absurd cc
  pointer_blocks_by b (star ∷ stars) count h known = known.0

  pub pointer_blocks : (type : CoreType) → is_pointer type ≡ true → TargetIsKnown s type → s.has_blocks ≡ true
  pointer_blocks type h known = pointer_blocks_by type.base type.stars type.count h known

  -- what a known pointer leads to is known
  pointed_by : (b : Base) (stars : List Bool) (count : Option ℕ) (to : CoreType × Bool) → target_by b stars count ≡ Some to → TargetIs s b stars → ObjectIsKnown s to.0
  pointed_by b [] count to h known = absurd cc
  pointed_by b (star ∷ stars) (Some n) to h known = absurd cc
  pointed_by b (star ∷ stars) None to h known =
      let target : CoreType × Bool = (type_with b stars None, star) in let same : target ≡ to = cc in subst (λ (p : CoreType × Bool). ObjectIsKnown s p.0) same known.1

  pub pointed_known : (type : CoreType) (to : CoreType × Bool) → target_of type ≡ Some to → TargetIsKnown s type → ObjectIsKnown s to.0
  pointed_known type to h known = pointed_by type.base type.stars type.count to h known

  const_known_by : (b : Base) (stars : List Bool) (count : Option ℕ) → TargetIs s b stars → TargetIsKnown s (with_const_by b stars count)
  const_known_by b [] count h = tt
  const_known_by b (star ∷ stars) count h = h

  pub const_known : (type : CoreType) → TargetIsKnown s type → TargetIsKnown s (with_const_target type)
  const_known type h = const_known_by type.base type.stars type.count h

-- a pointer's target is no array
one_target_by : (b : Base) (stars : List Bool) (count : Option ℕ) (to : CoreType × Bool) → target_by b stars count ≡ Some to → to.0.count ≡ None
one_target_by b [] count to h = absurd cc
one_target_by b (star ∷ stars) (Some n) to h = absurd cc
one_target_by b (star ∷ stars) None to h =
    let target : CoreType × Bool = (type_with b stars None, star) in let same : target ≡ to = cc in ap (λ (p : CoreType × Bool). p.0.count) (sym same)

pub target_objects : (type : CoreType) (to : CoreType × Bool) → target_of type ≡ Some to → is_void to.0 ≡ false → HasObjects to.0
target_objects type to leads h = subst (λ n. is_void_by to.0.base to.0.stars n ≡ false) (one_target_by type.base type.stars type.count to leads) h
