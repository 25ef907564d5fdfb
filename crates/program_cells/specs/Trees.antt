-- What annotations speak of (ACSL 2.2, 2.3.4): the cells that they read, those of sets and of `\valid`, and what their pointers lead to. A typed annotation
-- keeps no type of its pointers, so these are told by what is declared.
use Rattle.std.specs.Prelude.{ℕ, Bool, false, if◌then◌else◌, List, [], ◌∷◌, ◌++◌, map, flat_map, Option, Some, None, slice_get}
use Rattle.wp_base.specs.declared.kinds.CellKind.TheVariants as cell
use Rattle.typed_prog.specs.declared.types.CoreType.{CoreType}
use Rattle.typed_prog.specs.declared.operators.Variable.{Variable}
use Rattle.typed_prog.specs.declared.operators.Variable.TheVariants as variables
use Rattle.acsl_trees.specs.declared.heads.Content.{Content}
use Rattle.acsl_trees.specs.declared.heads.Content.TheVariants as content
use Rattle.acsl_trees.specs.declared.heads.Head.{Head}
use Rattle.acsl_trees.specs.declared.heads.Head.TheVariants as head
use Rattle.acsl_trees.specs.Tree.{Tree, node, Trees, stop, more}
use Rattle.c_runs.specs.Program as program
use Rattle.c_runs.specs.Program.{Facts}
use Rattle.c_runs.specs.Objects.{is_plain_in}
use Rattle.c_runs.specs.Claims.{struct_cells}
use Rattle.c_scopes.specs.declared.symbols.Object.{Object}
use Rattle.c_scopes.specs.declared.symbols.Field.{Field as Member}
use Rattle.c_scopes.specs.declared.symbols.Structure.{Structure}
use Rattle.program_cells.specs.Parts.{Part, blocks, of_kind, Outline, outline_of, element_of, target_of, struct_of, target_parts, pointer_parts}

-- what is declared around an annotation: variables of the file and of the function, structs, and what the function gives
pub record Declared : Type 0 where
  pub globals : List Object
  pub locals : List Object
  pub structs : List Structure
  pub result : Option CoreType

-- ---- types

abbrev pub type_in : Option Object → Option Outline
type_in (Some o) = Some (outline_of o.ty)
type_in None = None

abbrev pub field_type : Option Member → Option Outline
field_type (Some f) = Some (outline_of f.ty)
field_type None = None

abbrev pub member_in : Option Structure → (number : ℕ) → Option Outline
member_in (Some x) n = field_type (slice_get x.fields n)
member_in None n = None

abbrev pub field_by : List Structure → (number : ℕ) → (tag : Option ℕ) → Option Outline
field_by ss n (Some tag) = member_in (slice_get ss tag) n
field_by ss n None = None

-- the field of a struct, an element, and what a pointer points to, where the type is told
abbrev pub field_in : List Structure → (number : ℕ) → Option Outline → Option Outline
field_in ss n (Some o) = field_by ss n (struct_of o)
field_in ss n None = None

abbrev pub element_in : Option Outline → Option Outline
element_in (Some o) = Some (element_of o)
element_in None = None

abbrev pub target_in : Option Outline → Option Outline
target_in (Some o) = target_of o
target_in None = None

-- the type of the object at an address, or of what a pointer leads to, as far as it is told
pub data Told : Type 0 where
  place : (type : Option Outline) → Told
  target : (type : Option Outline) → Told

abbrev pub object_of : Told → Option Outline
object_of (place t) = t
object_of (target t) = None

abbrev pub pointed_of : Told → Option Outline
pointed_of (place t) = None
pointed_of (target t) = t

abbrev pub result_type : Option CoreType → Option Outline
result_type (Some type) = Some (outline_of type)
result_type None = None

module _ (d : Declared) where
  abbrev pub declared_type : Variable → Option Outline
  declared_type (variables.Global x) = type_in (slice_get d.globals x)
  declared_type (variables.Local x) = type_in (slice_get d.locals x)

  -- told of the first kid, and for a choice of the second one
  abbrev pub told_by : Head → (first second : Told) → Told
  told_by (head.Variable x) a b = place (declared_type x)
  told_by head.Pointed a b = place (pointed_of a)
  told_by (head.Field n offset) a b = place (field_in d.structs n (object_of a))
  told_by (head.Element size count) a b = place (element_in (object_of a))
  told_by (head.Elements size count) a b = place (element_in (object_of a))
  told_by (head.Behind size) a b = place (pointed_of a)
  told_by (head.Read c label) a b = target (target_in (object_of a))
  told_by head.Address a b = target (element_in (object_of a))
  told_by (head.Moved minus size) a b = target (pointed_of a)
  told_by head.Result a b = target (target_in (result_type d.result))
  told_by (head.At label) a b = a
  told_by head.Choose a b = b
  told_by _ a b = place None

  abbrev mutual
    pub told : Tree → Told
    told (node h ts) = told_by h (told_first ts) (told_second ts)

    pub told_first : Trees → Told
    told_first stop = place None
    told_first (more t ts) = told t

    pub told_second : Trees → Told
    told_second stop = place None
    told_second (more t ts) = told_first ts

-- ---- parts

abbrev pub variable_of : Head → Option Variable
variable_of (head.Variable x) = Some x
variable_of _ = None

module _ (p : Facts) where
  abbrev pub content_parts : Content → List Part
  content_parts (content.Integer k) = blocks ∷ of_kind (cell.Of k) ∷ []
  content_parts content.Pointer = blocks ∷ of_kind cell.Ptr ∷ []
  content_parts (content.Struct n) = blocks ∷ map of_kind (struct_cells p n)

  abbrev pub parts_if : Option Outline → List Part
  parts_if (Some o) = pointer_parts p o
  parts_if None = []

  abbrev pub read_parts : Content → (is_plain_place : Bool) → (object : Option Outline) → List Part
  read_parts c b o = (if b then [] else content_parts c) ++ parts_if o

  abbrev pub region_parts : Content → (is_plain_place : Bool) → List Part
  region_parts c b = if b then [] else content_parts c

module _ (p : Facts) (xs : List program.Variable) where
  abbrev pub is_plain : Variable → Bool
  is_plain (variables.Global x) = is_plain_in (slice_get p.globals x)
  is_plain (variables.Local x) = is_plain_in (slice_get xs x)

  -- the place is a variable that no pointer leads to, which has no cells
  abbrev pub plain_variable : Option Variable → Bool
  plain_variable (Some x) = is_plain x
  plain_variable None = false

  abbrev pub is_plain_place : Trees → Bool
  is_plain_place stop = false
  is_plain_place (more (node h us) ts) = plain_variable (variable_of h)

module _ (p : Facts) (xs : List program.Variable) (d : Declared) where
  abbrev pub own_parts : Head → Trees → List Part
  own_parts (head.Variable x) ts = parts_if p (declared_type d x)
  own_parts (head.Read c label) ts = read_parts p c (is_plain_place p xs ts) (object_of (told_first d ts))
  own_parts head.Null ts = blocks ∷ []
  own_parts head.Pointed ts = blocks ∷ []
  own_parts (head.Behind size) ts = blocks ∷ []
  own_parts head.Address ts = target_parts p (element_in (object_of (told_first d ts)))
  own_parts head.Result ts = parts_if p (result_type d.result)
  own_parts (head.Moved minus size) ts = blocks ∷ []
  own_parts (head.Difference size) ts = blocks ∷ []
  own_parts (head.ComparePointers c) ts = blocks ∷ []
  own_parts (head.LinkPointers c) ts = blocks ∷ []
  own_parts (head.Valid c writable) ts = content_parts p c
  own_parts (head.Region c) ts = region_parts p c (is_plain_place p xs ts)
  own_parts head.Separated ts = blocks ∷ []
  own_parts _ ts = []

  abbrev mutual
    pub tree_parts : Tree → List Part
    tree_parts (node h ts) = own_parts h ts ++ all_tree_parts ts

    pub all_tree_parts : Trees → List Part
    all_tree_parts stop = []
    all_tree_parts (more t ts) = tree_parts t ++ all_tree_parts ts

  abbrev pub list_parts : List Tree → List Part
  list_parts ts = flat_map tree_parts ts
