-- What stands for the object or the set of addresses of a tree (ACSL 2.2.3, 2.3.4), and for what a tree gives.
use Rattle.std.specs.Prelude.{◌≡◌, ℕ}
use Rattle.typed_prog.specs.declared.operators.Variable.{Variable}
use Rattle.acsl_trees.specs.declared.heads.Head.TheVariants as head
use Rattle.acsl_trees.specs.Tree.{Tree, node, more}
use Rattle.acsl_encode.specs.Readings.{Terms, integer, truth, address, variable, elements, region}
use Rattle.acsl_well_typed.specs.WellTyped.{What, an_integer, a_pointer, an_object, a_region, a_linked_integer, a_linked_pointer}
use Rattle.annotations_encoded.specs.Sights.{Site, holds_integer, holds_pointer, has_block, unknown, Sights, moved}

-- An address; a variable that no pointer leads to; addresses of elements of so many cells; or none of these.
pub data Shape : Type 0 where
  an_address : Shape
  a_variable : (x : Variable) → Shape
  a_set : (size : ℕ) → Shape
  no_shape : Shape

abbrev pub shape_at : Variable → Site → Shape
shape_at x (holds_integer k) = a_variable x
shape_at x holds_pointer = a_variable x
shape_at x has_block = an_address
shape_at x unknown = no_shape

-- a field or an element of one object
abbrev pub part_of : Shape → Shape
part_of an_address = an_address
part_of _ = no_shape

abbrev pub elements_of : (size : ℕ) → Shape → Shape
elements_of size an_address = a_set size
elements_of size _ = no_shape

abbrev pub either_of : Shape → Shape → Shape
either_of an_address z = part_of z
either_of _ z = no_shape

-- of an object or a set
abbrev pub shape : Sights → Tree → Shape
shape g (node (head.Variable x) ks) = shape_at x (g.here.site x)
shape g (node head.Pointed ks) = an_address
shape g (node (head.Field n offset) (more t ts)) = part_of (shape g t)
shape g (node (head.Element size count) (more t ts)) = part_of (shape g t)
shape g (node (head.Elements size count) (more t ts)) = elements_of size (shape g t)
shape g (node (head.Behind size) ks) = a_set size
shape g (node (head.At l) (more t ts)) = shape (moved l g) t
shape g (node head.Choose (more c (more t (more u ts)))) = either_of (shape g t) (shape g u)
shape g t = no_shape

-- ---- terms

abbrev pub IsInteger : Terms → Type 0
IsInteger (integer k t) = Unit {0}
IsInteger (truth f) = Unit {0}
IsInteger _ = ⊥

abbrev pub IsAddress : Terms → Type 0
IsAddress (address b o) = Unit {0}
IsAddress _ = ⊥

abbrev pub IsRegion : Terms → Type 0
IsRegion (region cells b low high) = Unit {0}
IsRegion _ = ⊥

abbrev pub IsVariable : Variable → Terms → Type 0
IsVariable x (variable y) = y ≡ x
IsVariable x _ = ⊥

abbrev pub AreElements : (size : ℕ) → Terms → Type 0
AreElements n (elements b o size low high) = size ≡ n
AreElements n _ = ⊥

-- nothing is said of what has no shape
abbrev pub HasShape : Shape → Terms → Type 0
HasShape an_address t = IsAddress t
HasShape (a_variable x) t = IsVariable x t
HasShape (a_set size) t = AreElements size t
HasShape no_shape t = Unit {0}

-- what stands for what a tree of this shape gives
abbrev pub IsFor : What → Shape → Terms → Type 0
IsFor an_integer z t = IsInteger t
IsFor a_pointer z t = IsAddress t
IsFor an_object z t = HasShape z t
IsFor a_region z t = IsRegion t
IsFor a_linked_integer z t = IsInteger t
IsFor a_linked_pointer z t = IsAddress t
