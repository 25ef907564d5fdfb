-- What names an object, and sets of objects (ACSL 2.2.3, 2.3.4). The operands have been typed.
use Rattle.std.specs.Prelude.{ℕ, Bool, true, false, List, position, bytes_eq, slice_get, Option, Some, None, Ok}
use Rattle.c_answers.specs.Answers.{Answer, wrong, unknown, after}
use Rattle.typed_prog.specs.declared.types.CoreType.{CoreType}
use Rattle.typed_prog.specs.Types.{target_of, struct_of, element_of}
use Rattle.c_rules.specs.Pointers.{stride, element_cells}
use Rattle.c_scopes.specs.declared.file.File.{File}
use Rattle.c_scopes.specs.declared.symbols.Structure.{Structure}
use Rattle.c_scopes.specs.declared.symbols.Field.{Field}
use Rattle.acsl_trees.specs.declared.heads.Content.{Content}
use Rattle.acsl_trees.specs.declared.heads.Content.TheVariants as content_of
use Rattle.acsl_trees.specs.declared.heads.Label.{Label}
use Rattle.acsl_trees.specs.declared.heads.Head.TheVariants as head
use Rattle.acsl_trees.specs.declared.operands.Sort.{Sort}
use Rattle.acsl_trees.specs.declared.operands.Sort.TheVariants as sort
use Rattle.acsl_trees.specs.declared.tree.Tree.{Tree as Code}
use Rattle.acsl_trees.specs.Tree.{Tree, one, two, three, view_tree}
use Rattle.acsl_trees.specs.Operands.{Operand, operand}
use Rattle.acsl_rules.specs.declared.fields.Member.{Member}
use Rattle.acsl_rules.specs.Sorts.{content, array_count}
use Rattle.acsl_rules.specs.Values.{valued, integer_value}
use Rattle.acsl_rules.specs.Operators.{sum, dereferenced, dereferenced_value}

-- ---- `[ ]`

-- An element is read in the state that the array is read in.
abbrev pub element_sort : Sort → Sort
element_sort (sort.Object type label) = sort.Object (element_of type) label
element_sort (sort.Integer known) = sort.Integer known
element_sort (sort.Pointer type null) = sort.Pointer type null
element_sort sort.Unknown = sort.Unknown

abbrev pub element_size : List ℕ → Sort → ℕ
element_size sizes (sort.Object type label) = element_cells sizes type
element_size sizes (sort.Integer known) = 1
element_size sizes (sort.Pointer type null) = 1
element_size sizes sort.Unknown = 1

-- an element of an array; its address stands before the index, however they are spelled
abbrev pub element : List ℕ → (count : ℕ) → Operand → Tree → Operand
element sizes n x i = operand (two (head.Element (element_size sizes x.sort) n) x.tree i) (element_sort x.sort)

-- Where neither operand is an array, `x[y]` is `*(x + y)` (C11 6.5.2.1p2).
abbrev pub indexed_values : List ℕ → (line : ℕ) → Operand → Operand → Answer Operand
indexed_values sizes line v w = after (sum sizes line v w) (dereferenced_value line)

abbrev pub indexed_by : List ℕ → (line : ℕ) → Operand → Operand → (first second : Option ℕ) → Answer Operand
indexed_by sizes line x y (Some n) second = after (integer_value line y) (λ i. Ok (element sizes n x i))
indexed_by sizes line x y None (Some n) = after (integer_value line x) (λ i. Ok (element sizes n y i))
indexed_by sizes line x y None None = after (valued line x) (λ v. after (valued line y) (indexed_values sizes line v))

unfoldable pub indexed : List ℕ → (line : ℕ) → Operand → Operand → Answer Operand
indexed sizes line x y = indexed_by sizes line x y (array_count x.sort) (array_count y.sort)

-- ---- `.` and `->`

abbrev pub member_with : (number : ℕ) → Option Field → Option ℕ → Option Member
member_with number (Some f) (Some offset) = Some (record { number = number; offset = offset; ty = f.ty })
member_with number (Some f) None = None
member_with number None offset = None

abbrev pub member_at : Structure → (number : Option ℕ) → Option Member
member_at t (Some i) = member_with i (slice_get t.fields i) (slice_get t.layout.fields i)
member_at t None = None

abbrev pub member_in : List ℕ → Option Structure → Option Member
member_in name (Some t) = member_at t (position (λ f. bytes_eq name f.name) t.fields)
member_in name None = None

-- the field of this name of a struct of the file
unfoldable pub member_named : File → (name : List ℕ) → (struct : ℕ) → Option Member
member_named file name n = member_in name (slice_get file.structs n)

-- a field is read in the state that the struct is read in
abbrev pub member_by : (line : ℕ) → Tree → Option Label → Option Member → Answer Operand
member_by line t label (Some f) = Ok (operand (one (head.Field f.number f.offset) t) (sort.Object f.ty label))
member_by line t label None = unknown line

abbrev pub member_of : File → (line : ℕ) → (name : List ℕ) → Tree → Option Label → (struct : Option ℕ) → Answer Operand
member_of file line name t label (Some n) = member_by line t label (member_named file name n)
member_of file line name t label None = wrong line

abbrev pub dotted_by : File → (line : ℕ) → (name : List ℕ) → Tree → Sort → Answer Operand
dotted_by file line name t (sort.Object type label) = member_of file line name t label (struct_of type)
dotted_by file line name t (sort.Integer known) = wrong line
dotted_by file line name t (sort.Pointer type null) = wrong line
dotted_by file line name t sort.Unknown = Ok (operand t sort.Unknown)

abbrev pub dotted : File → (line : ℕ) → (name : List ℕ) → Operand → Answer Operand
dotted file line name x = dotted_by file line name x.tree x.sort

-- `->` is `.` behind `*`
abbrev pub field_by : File → (line : ℕ) → (name : List ℕ) → (arrow : Bool) → Operand → Answer Operand
field_by file line name false x = dotted file line name x
field_by file line name true x = after (dereferenced line x) (dotted file line name)

unfoldable pub field : File → (line : ℕ) → (name : List ℕ) → (arrow : Bool) → Operand → Answer Operand
field file line name arrow x = field_by file line name arrow x

-- ---- `[low .. high]`

-- where a pointer leads that is moved by each number between two
abbrev pub behind_by : (line : ℕ) → Tree → (low high : Tree) → (stride : Option ℕ) → Option (CoreType × Bool) → Answer Operand
behind_by line p i j (Some size) (Some (type, is_const)) = Ok (operand (three (head.Behind size) p i j) (sort.Object type None))
behind_by line p i j (Some size) None = wrong line
behind_by line p i j None target = wrong line

abbrev pub behind_at : List ℕ → (line : ℕ) → Tree → Sort → (low high : Tree) → Answer Operand
behind_at sizes line p (sort.Pointer type null) i j = behind_by line p i j (stride sizes type) (target_of type)
behind_at sizes line p sort.Unknown i j = Ok (operand p sort.Unknown)
behind_at sizes line p (sort.Object type label) i j = wrong line
behind_at sizes line p (sort.Integer known) i j = wrong line

abbrev pub behind_value : List ℕ → (line : ℕ) → Operand → (low high : Tree) → Answer Operand
behind_value sizes line v i j = behind_at sizes line v.tree v.sort i j

-- the value of the base is a pointer
unfoldable pub behind_base : List ℕ → (line : ℕ) → Operand → (low high : Tree) → Answer Operand
behind_base sizes line x i j = after (valued line x) (λ v. behind_value sizes line v i j)

-- all elements of an array between two
abbrev pub elements_of : List ℕ → (count : ℕ) → Operand → (low high : Tree) → Operand
elements_of sizes n x i j = operand (three (head.Elements (element_size sizes x.sort) n) x.tree i j) (element_sort x.sort)

abbrev pub elements_by : List ℕ → (line : ℕ) → Operand → (low high : Tree) → (count : Option ℕ) → Answer Operand
elements_by sizes line x i j (Some n) = Ok (elements_of sizes n x i j)
elements_by sizes line x i j None = behind_base sizes line x i j

abbrev pub elements_base : List ℕ → (line : ℕ) → Operand → (low high : Tree) → Answer Operand
elements_base sizes line x i j = elements_by sizes line x i j (array_count x.sort)

-- the bounds come first, each an integer or else a fault at its own line
abbrev pub bounded : (low_line high_line : ℕ) → Operand → Operand → (Tree → Tree → Answer Operand) → Answer Operand
bounded low_line high_line low high f = after (integer_value low_line low) (λ i. after (integer_value high_line high) (f i))

-- `base[low .. high]`
unfoldable pub elements : List ℕ → (line low_line high_line : ℕ) → (base low high : Operand) → Answer Operand
elements sizes line low_line high_line x low high = bounded low_line high_line low high (elements_base sizes line x)

-- `*(base + (low .. high))`, and `base + (low .. high)` as a set of pointers: an array stands for the pointer to its first element
unfoldable pub behind : List ℕ → (line low_line high_line : ℕ) → (base low high : Operand) → Answer Operand
behind sizes line low_line high_line x low high = bounded low_line high_line low high (behind_base sizes line x)

-- ---- regions, by pointers to them

-- what a pointer leads to, with what stands there
abbrev pub region_by : (line : ℕ) → Tree → Option Content → Answer (Tree × Content)
region_by line p (Some c) = Ok (one head.Pointed p, c)
region_by line p None = wrong line

abbrev pub target_content : Option (CoreType × Bool) → Option Content
target_content (Some (type, is_const)) = content type
target_content None = None

-- A value without a type passes as a pointer to a pointer.
abbrev pub region_at : (line : ℕ) → Tree → Sort → Answer (Tree × Content)
region_at line p (sort.Pointer type null) = region_by line p (target_content (target_of type))
region_at line p sort.Unknown = region_by line p (Some content_of.Pointer)
region_at line p (sort.Object type label) = wrong line
region_at line p (sort.Integer known) = wrong line

abbrev pub region_of : (line : ℕ) → Operand → Answer (Tree × Content)
region_of line v = region_at line v.tree v.sort

-- The term is a pointer, and not to `void`; so null without a type isn't one.
unfoldable pub pointed : (line : ℕ) → Operand → Answer (Tree × Content)
pointed line x = after (valued line x) (region_of line)

abbrev pub view_region : Code × Content → Tree × Content
view_region region = (view_tree region.0, region.1)
