-- Types: what they are, and what is made of them (C11 6.2.5).
use Rattle.std.specs.Prelude.{◌≡◌, ◌↔◌, ℕ, Bool, true, false, ◌&&◌, ◌==◌, List, [], ◌∷◌, Option, Some, None}
use denote.Enum.Bare.{sameb}
use Rattle.wp_base.specs.contracts.kinds.Kind.{the_type}
use Rattle.wp_base.specs.declared.kinds.Kind.{Kind}
use Rattle.typed_prog.specs.declared.types.Base.{Base}
use Rattle.typed_prog.specs.declared.types.Base.TheVariants as base
use Rattle.typed_prog.specs.declared.types.CoreType.{CoreType}

abbrev pub type_with : Base → List Bool → Option ℕ → CoreType
type_with root stars count = record { base = root; stars = stars; count = count }

abbrev pub of_kind : Kind → CoreType
of_kind k = type_with (base.Of k) [] None

abbrev pub void : CoreType
void = type_with base.Void [] None

-- the type of an array's elements
abbrev pub element_of : CoreType → CoreType
element_of type = type_with type.base type.stars None

-- a pointer to an object of the type, or to the elements of an array
abbrev pub pointer_to : CoreType → (is_const : Bool) → CoreType
pointer_to type is_const = type_with type.base (is_const ∷ type.stars) None

-- what a pointer points to, and whether that is constant
abbrev pub target_by : Base → List Bool → Option ℕ → Option (CoreType × Bool)
target_by root (is_const ∷ stars) None = Some (type_with root stars None, is_const)
target_by _ _ _ = None

abbrev pub target_of : CoreType → Option (CoreType × Bool)
target_of type = target_by type.base type.stars type.count

abbrev pub kind_by : Base → List Bool → Option ℕ → Option Kind
kind_by (base.Of k) [] None = Some k
kind_by _ _ _ = None

-- the kind of an integer
abbrev pub kind_of : CoreType → Option Kind
kind_of type = kind_by type.base type.stars type.count

abbrev pub struct_by : Base → List Bool → Option ℕ → Option ℕ
struct_by (base.Struct number) [] None = Some number
struct_by _ _ _ = None

-- the number of a struct
abbrev pub struct_of : CoreType → Option ℕ
struct_of type = struct_by type.base type.stars type.count

abbrev pub is_pointer_by : List Bool → Option ℕ → Bool
is_pointer_by (is_const ∷ stars) None = true
is_pointer_by _ _ = false

abbrev pub is_pointer : CoreType → Bool
is_pointer type = is_pointer_by type.stars type.count

abbrev pub is_void_by : Base → List Bool → Option ℕ → Bool
is_void_by base.Void [] None = true
is_void_by _ _ _ = false

abbrev pub is_void : CoreType → Bool
is_void type = is_void_by type.base type.stars type.count

-- the same pointer type, but what it points to is constant
abbrev pub with_const_by : Base → List Bool → Option ℕ → CoreType
with_const_by root [] count = type_with root [] count
with_const_by root (is_const ∷ stars) count = type_with root (true ∷ stars) count

abbrev pub with_const_target : CoreType → CoreType
with_const_target type = with_const_by type.base type.stars type.count

-- ---- whether two types are the same

abbrev pub same_base : Base → Base → Bool
same_base base.Void base.Void = true
same_base (base.Of k) (base.Of l) = sameb the_type k l
same_base (base.Struct m) (base.Struct n) = m == n
same_base _ _ = false

abbrev pub same_star : Bool → Bool → Bool
same_star true true = true
same_star false false = true
same_star _ _ = false

abbrev pub same_stars : List Bool → List Bool → Bool
same_stars [] [] = true
same_stars (c ∷ cs) (d ∷ ds) = same_star c d && same_stars cs ds
same_stars _ _ = false

abbrev pub same_count : Option ℕ → Option ℕ → Bool
same_count None None = true
same_count (Some m) (Some n) = m == n
same_count _ _ = false

abbrev pub same_type : CoreType → CoreType → Bool
same_type a b = same_base a.base b.base && same_stars a.stars b.stars && same_count a.count b.count

-- the test tells exactly whether they are equal
abbrev pub TypesAreCompared : Type 0
TypesAreCompared = (a b : CoreType) → (same_type a b ≡ true) ↔ (a ≡ b)
