-- Casts, states of their own, and arguments (ACSL 2.2.3, 2.4.3, 2.6). The term has been typed, and the type looked up.
use Rattle.std.specs.Prelude.{ℕ, Bool, true, false, if◌then◌else◌, Option, Some, None, Ok}
use Rattle.std.specs.Option.{option_map}
use Rattle.wp_base.specs.declared.kinds.Kind.{Kind}
use Rattle.c_kinds.specs.declared.models.Machdep.{Machdep}
use Rattle.c_kinds.specs.Models.{convert}
use Rattle.c_answers.specs.Answers.{Answer, wrong, after}
use Rattle.typed_prog.specs.declared.types.CoreType.{CoreType}
use Rattle.typed_prog.specs.Types.{kind_of, is_pointer}
use Rattle.acsl_trees.specs.declared.heads.Content.{Content}
use Rattle.acsl_trees.specs.declared.heads.Content.TheVariants as content_of
use Rattle.acsl_trees.specs.declared.heads.Head.TheVariants as head
use Rattle.acsl_trees.specs.declared.heads.Label.{Label}
use Rattle.acsl_trees.specs.declared.operands.Sort.{Sort}
use Rattle.acsl_trees.specs.declared.operands.Sort.TheVariants as sort
use Rattle.acsl_trees.specs.declared.operands.TermType.{TermType}
use Rattle.acsl_trees.specs.declared.operands.TermType.TheVariants as term_type
use Rattle.acsl_trees.specs.Tree.{Tree, leaf, one}
use Rattle.acsl_trees.specs.Operands.{Operand, operand}
use Rattle.acsl_rules.specs.Sorts.{content, known_in, is_zero, is_null, is_unknown, may_be_integer, alike_to}
use Rattle.acsl_rules.specs.Values.{valued, integer_of, read_tree}

-- ---- casts

-- to an integer kind, of an integer; a number that is known is one of the kind
abbrev pub to_kind : Machdep → (line : ℕ) → Kind → Operand → Answer Operand
to_kind m line k v = if may_be_integer v.sort then Ok (operand (one (head.Convert k) v.tree) (sort.Integer (option_map (convert m k) (known_in v.sort)))) else wrong line

-- To a pointer, of the constant 0 alone; so not of a value without a type, which is no constant.
abbrev pub to_pointer : (line : ℕ) → CoreType → (is_void_pointer : Bool) → Operand → Answer Operand
to_pointer line type null v = if is_zero (known_in v.sort) then Ok (operand (leaf head.Null) (sort.Pointer type null)) else wrong line

abbrev pub cast_by : Machdep → (line : ℕ) → CoreType → (is_void_pointer : Bool) → Operand → Option Kind → (is_pointer : Bool) → Answer Operand
cast_by m line type null v (Some k) p = to_kind m line k v
cast_by m line type null v None true = to_pointer line type null v
cast_by m line type null v None false = wrong line

abbrev pub cast_value : Machdep → (line : ℕ) → CoreType → (is_void_pointer : Bool) → Operand → Answer Operand
cast_value m line type null v = cast_by m line type null v (kind_of type) (is_pointer type)

-- A cast to this type. Where it is `void *` as spelled, the null pointer has no type of its own.
unfoldable pub cast : Machdep → (line : ℕ) → CoreType → (is_void_pointer : Bool) → Operand → Answer Operand
cast m line type null x = after (valued line x) (cast_value m line type null)

-- ---- `\old` and `\at` (2.4.3)

abbrev pub value_at : Label → Tree → Sort → Operand
value_at label t s = operand (one (head.At label) t) s

-- An array or a struct is read in the state where its elements and fields are. One that has a state of its own keeps it, since the inner one tells.
abbrev pub whole_at : Label → Tree → CoreType → Option Label → Operand
whole_at label t type None = value_at label t (sort.Object type (Some label))
whole_at label t type (Some inner) = operand t (sort.Object type (Some inner))

abbrev pub read_at : Label → Tree → (inner : Option Label) → Content → Sort → Operand
read_at label t inner c s = value_at label (read_tree t inner c) s

-- of an object that holds a value, the value
abbrev pub object_at : Label → Tree → CoreType → Option Label → Option Content → Operand
object_at label t type inner (Some (content_of.Integer k)) = read_at label t inner (content_of.Integer k) (sort.Integer None)
object_at label t type inner (Some content_of.Pointer) = read_at label t inner content_of.Pointer (sort.Pointer type false)
object_at label t type inner (Some (content_of.Struct n)) = whole_at label t type inner
object_at label t type inner None = whole_at label t type inner

abbrev pub labelled_by : Label → Tree → Sort → Operand
labelled_by label t (sort.Object type inner) = object_at label t type inner (content type)
labelled_by label t (sort.Integer known) = value_at label t (sort.Integer known)
labelled_by label t (sort.Pointer type null) = value_at label t (sort.Pointer type null)
labelled_by label t sort.Unknown = value_at label t sort.Unknown

-- a term in a state of its own, which has no fault
unfoldable pub labelled : Label → Operand → Answer Operand
labelled label x = Ok (labelled_by label x.tree x.sort)

-- ---- arguments (2.6)

-- a pointer for a parameter: null, or one alike
abbrev pub pointer_passed : (line : ℕ) → CoreType → Operand → Answer Tree
pointer_passed line type v = if is_null v.sort then Ok (leaf head.Null) else if alike_to type v.sort then Ok v.tree else wrong line

abbrev pub typed_passed : (line : ℕ) → TermType → Operand → Answer Tree
typed_passed line term_type.Integer v = integer_of line v
typed_passed line (term_type.Pointer type) v = pointer_passed line type v
typed_passed line term_type.Unknown v = Ok v.tree

-- A value without a type passes, and any value for a parameter without one.
abbrev pub passed_value : (line : ℕ) → TermType → Operand → Answer Tree
passed_value line to v = if is_unknown v.sort then Ok v.tree else typed_passed line to v

-- an argument for a parameter of this type
unfoldable pub passed : (line : ℕ) → TermType → Operand → Answer Tree
passed line to x = after (valued line x) (passed_value line to)
