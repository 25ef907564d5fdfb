-- Typed annotations have formulas where readings give what they need.
use Rattle.std.specs.Prelude.{◌≡◌, ℕ, true, List, [], length, Some, slice_get}
use Rattle.typed_prog.specs.declared.types.CoreType.{CoreType}
use Rattle.acsl_trees.specs.declared.heads.Content.{Content}
use Rattle.acsl_trees.specs.declared.heads.Head.TheVariants as head
use Rattle.acsl_trees.specs.declared.operands.TermType.{TermType}
use Rattle.acsl_trees.specs.Tree.{Tree, one}
use Rattle.acsl_names.specs.declared.names.Definition.{Definition}
use Rattle.qed_terms.specs.Tree.{Tree as Term}
use Rattle.wp_base.specs.declared.kinds.CellKind.{CellKind}
use Rattle.acsl_encode.specs.Readings.{Terms, region, Pointer, Called, Common, Reading}
use Rattle.acsl_encode.specs.Encode.{Names, encoded, terms_of, term_of, formula_of, pointer_of}
use Rattle.acsl_encode.specs.Setting.{Known as Functions, body_reading, body_term}
use Rattle.acsl_well_typed.specs.WellTyped.{types_give, What, an_integer, a_pointer, an_object, a_region, a_linked_integer, a_linked_pointer, what_of}
use Rattle.acsl_well_typed.specs.WellTyped as typed
use Rattle.acsl_well_typed.specs.Definitions.{known_with}
use Rattle.annotations_encoded.specs.Sights.{sights_of}
use Rattle.annotations_encoded.specs.Shapes.{shape, IsInteger, IsAddress, HasShape, IsFor}
use Rattle.annotations_encoded.specs.Serving.{are_params, cells_of, is_region, serves}

-- ---- trees, under names

-- a name is an integer or a pointer
abbrev pub IsNamed : What → Terms → Type 0
IsNamed an_integer t = IsInteger t
IsNamed a_pointer t = IsAddress t
IsNamed _ t = ⊥

-- what stands for each name is of what the name gives
abbrev pub AreNamed : typed.Names → Names → Type 0
AreNamed ws ns = (x : ℕ) (w : What) → slice_get ws x ≡ Some w → IsNamed w (ns x)

-- Where a tree is in order, the ends of ranges too, and the reading gives what it needs, what stands for it is of what it gives.
abbrev pub TreesAreEncoded : Type 0
TreesAreEncoded =
    (ds : List Definition) (result : CoreType) (r : Reading) (ws : typed.Names) (ns : Names) → AreNamed ws ns → (next : ℕ) (t : Tree) (w : What)
    → what_of (known_with true ds result) ws t ≡ Some w → serves (known_with true ds result) (sights_of r) t ≡ true
    → IsFor w (shape (sights_of r) t) (encoded r ns next (length ws) t)

-- ---- annotations

-- a truth or an integer has a formula and a term, a pointer its two terms, and a region its three
abbrev pub IsEncoded : Reading → Tree → What → Type 0
IsEncoded r t an_integer = ((f : Term) × (formula_of r t ≡ Some f)) × ((u : Term) × (term_of r t ≡ Some u))
IsEncoded r t a_pointer = (p : Pointer) × (pointer_of r t ≡ Some p)
IsEncoded r t a_region = (cells : List CellKind) × (block : Term) × (low : Term) × (high : Term) × (terms_of r t ≡ region cells block low high)
IsEncoded r t _ = Unit {0}

abbrev pub AnnotationsAreEncoded : Type 0
AnnotationsAreEncoded =
    (ds : List Definition) (result : CoreType) (r : Reading) (t : Tree) (w : What) → what_of (known_with true ds result) [] t ≡ Some w
    → serves (known_with true ds result) (sights_of r) t ≡ true → IsEncoded r t w

-- A region's tree is a region's node over one object or set, and what stands for that is of its shape.
pub record IsRegionNode (r : Reading) (t : Tree) : Type 0 where
  pub content : Content
  pub object : Tree
  pub is : t ≡ one (head.Region content) object
  pub shaped : HasShape (shape (sights_of r) object) (terms_of r object)
  pub reached : is_region (cells_of (sights_of r) content) (shape (sights_of r) object) ≡ true

abbrev pub RegionsAreNodes : Type 0
RegionsAreNodes =
    (ds : List Definition) (result : CoreType) (r : Reading) (t : Tree) → what_of (known_with true ds result) [] t ≡ Some a_region
    → serves (known_with true ds result) (sights_of r) t ≡ true → IsRegionNode r t

-- ---- bodies of logic functions that call themselves (2.6.3)

-- A body over its parameters, of which the function's names are the sorts, has a term, where it is given what it reads.
abbrev pub BodiesAreEncoded : Type 0
BodiesAreEncoded =
    (ds : List Definition) (result : CoreType) (r : Common) (known : Functions) (c : Called) (params : List TermType) (ws : typed.Names) (t : Tree)
    → are_params params c.params ≡ true → types_give params ≡ Some ws → what_of (known_with true ds result) ws t ≡ Some an_integer
    → serves (known_with true ds result) (sights_of (body_reading r known c)) t ≡ true → (u : Term) × (body_term r known c t ≡ Some u)
