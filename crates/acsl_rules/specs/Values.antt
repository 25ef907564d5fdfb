-- The values of terms (ACSL 2.2.3). The term has been typed.
use Rattle.std.specs.Prelude.{ℕ, false, ◌&&◌, if◌then◌else◌, Option, Some, None, Ok}
use Rattle.c_answers.specs.Answers.{Answer, wrong, after}
use Rattle.typed_prog.specs.declared.types.CoreType.{CoreType}
use Rattle.typed_prog.specs.declared.operators.Comparison.TheVariants as cmp
use Rattle.typed_prog.specs.Types.{pointer_to}
use Rattle.acsl_trees.specs.declared.heads.Content.{Content}
use Rattle.acsl_trees.specs.declared.heads.Content.TheVariants as content_of
use Rattle.acsl_trees.specs.declared.heads.Head.TheVariants as head
use Rattle.acsl_trees.specs.declared.heads.Label.{Label}
use Rattle.acsl_trees.specs.declared.operands.Sort.{Sort}
use Rattle.acsl_trees.specs.declared.operands.Sort.TheVariants as sort
use Rattle.acsl_trees.specs.Tree.{Tree, leaf, one, two}
use Rattle.acsl_trees.specs.Operands.{Operand, operand}
use Rattle.acsl_rules.specs.Sorts.{content, is_pointer, is_null, may_be_integer}

-- an integer that isn't spelled as a number
abbrev pub integer : Tree → Operand
integer t = operand t (sort.Integer None)

-- ---- what an object holds

abbrev pub read_tree : Tree → Option Label → Content → Tree
read_tree t label c = one (head.Read c label) t

-- the value of an object, in the state that it is read in; a struct has none
abbrev pub read_by : (line : ℕ) → Tree → CoreType → Option Label → Option Content → Answer Operand
read_by line t type label (Some (content_of.Integer k)) = Ok (integer (read_tree t label (content_of.Integer k)))
read_by line t type label (Some content_of.Pointer) = Ok (operand (read_tree t label content_of.Pointer) (sort.Pointer type false))
read_by line t type label (Some (content_of.Struct n)) = wrong line
read_by line t type label None = wrong line

-- the pointer to the first element of an array, which is the same in each state
abbrev pub decayed : Tree → CoreType → Operand
decayed t type = operand (one head.Address t) (sort.Pointer (pointer_to type false) false)

abbrev pub object_value : (line : ℕ) → Tree → CoreType → Option Label → (count : Option ℕ) → Answer Operand
object_value line t type label (Some n) = Ok (decayed t type)
object_value line t type label None = read_by line t type label (content type)

abbrev pub valued_by : (line : ℕ) → Tree → Sort → Answer Operand
valued_by line t (sort.Object type label) = object_value line t type label type.count
valued_by line t (sort.Integer known) = Ok (operand t (sort.Integer known))
valued_by line t (sort.Pointer type null) = Ok (operand t (sort.Pointer type null))
valued_by line t sort.Unknown = Ok (operand t sort.Unknown)

-- the value of a term, for the operator on this line
unfoldable pub valued : (line : ℕ) → Operand → Answer Operand
valued line x = valued_by line x.tree x.sort

-- ---- values for an operator. Behind `valued` no operand is an object; where a definition says what is made of one all the same, nothing rests on it.

abbrev pub integer_of : (line : ℕ) → Operand → Answer Tree
integer_of line v = if may_be_integer v.sort then Ok v.tree else wrong line

-- the value of a term that is an integer
unfoldable pub integer_value : (line : ℕ) → Operand → Answer Tree
integer_value line x = after (valued line x) (integer_of line)

-- what a value is taken for as a truth: an integer for whether it isn't 0, and a pointer for whether it isn't null (ACSL 2.2.1)
abbrev pub truth : Operand → Tree
truth v = if is_pointer v.sort then two (head.ComparePointers cmp.NotEqual) v.tree (leaf head.Null) else v.tree

-- a value beside one of the other sort: beside a pointer a null pointer constant is null
abbrev pub beside : (other : Sort) → Operand → Tree
beside other v = if is_pointer other && is_null v.sort then leaf head.Null else v.tree
