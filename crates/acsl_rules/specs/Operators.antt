-- The operators on values: what they make of their operands, or the fault at their line (ACSL 2.2.3). The operands have been typed.
use Rattle.std.specs.Prelude.{ℕ, Bool, true, false, ◌&&◌, ◌||◌, if◌then◌else◌, List, Option, Some, None, Ok}
use Rattle.c_syntax.specs.declared.expr.UnOp.{UnOp}
use Rattle.c_syntax.specs.declared.expr.UnOp.TheVariants as un
use Rattle.c_syntax.specs.declared.expr.BinOp.{BinOp}
use Rattle.c_syntax.specs.declared.expr.BinOp.TheVariants as bin
use Rattle.c_answers.specs.Answers.{Answer, wrong, after}
use Rattle.typed_prog.specs.declared.types.CoreType.{CoreType}
use Rattle.typed_prog.specs.declared.operators.Arithmetic.{Arithmetic}
use Rattle.typed_prog.specs.declared.operators.Arithmetic.TheVariants as ar
use Rattle.typed_prog.specs.declared.operators.Comparison.{Comparison}
use Rattle.typed_prog.specs.declared.operators.Comparison.TheVariants as cmp
use Rattle.typed_prog.specs.Types.{target_of, is_void, pointer_to}
use Rattle.acsl_trees.specs.declared.heads.Head.{Head}
use Rattle.acsl_trees.specs.declared.heads.Head.TheVariants as head
use Rattle.acsl_trees.specs.declared.heads.Label.{Label}
use Rattle.acsl_trees.specs.declared.operands.Sort.{Sort}
use Rattle.acsl_trees.specs.declared.operands.Sort.TheVariants as sort
use Rattle.acsl_trees.specs.Tree.{Tree, node, Trees, more, stop, one, two}
use Rattle.acsl_trees.specs.Operands.{Operand, operand}
use Rattle.acsl_rules.specs.declared.comparisons.Comparing.{Comparing}
use Rattle.acsl_rules.specs.declared.comparisons.Comparing.TheVariants as comparing
use Rattle.acsl_rules.specs.Sorts.{is_unknown, is_integer, is_pointer, may_be_integer, is_null, stride_of, alike}
use Rattle.acsl_rules.specs.Values.{valued, integer_value, integer, truth, beside}

-- ---- `*`

-- what a pointer leads to; `void` is no object
abbrev pub followed_by : (line : ℕ) → Tree → Option (CoreType × Bool) → Answer Operand
followed_by line t None = wrong line
followed_by line t (Some (type, is_const)) = if is_void type then wrong line else Ok (operand (one head.Pointed t) (sort.Object type None))

abbrev pub dereferenced_by : (line : ℕ) → Tree → Sort → Answer Operand
dereferenced_by line t (sort.Pointer type null) = followed_by line t (target_of type)
dereferenced_by line t sort.Unknown = Ok (operand t sort.Unknown)
dereferenced_by line t (sort.Object type label) = wrong line
dereferenced_by line t (sort.Integer known) = wrong line

abbrev pub dereferenced_value : (line : ℕ) → Operand → Answer Operand
dereferenced_value line v = dereferenced_by line v.tree v.sort

unfoldable pub dereferenced : (line : ℕ) → Operand → Answer Operand
dereferenced line x = after (valued line x) (dereferenced_value line)

-- ---- `&`

abbrev pub is_pointed : Head → Bool
is_pointed head.Pointed = true
is_pointed _ = false

abbrev pub only_of : Trees → Option Tree
only_of (more t stop) = Some t
only_of _ = None

-- `&*p` is p; `leading` is the pointer, where the object is what it leads to
abbrev pub address_by : Tree → (leading : Option Tree) → Tree
address_by t (Some p) = p
address_by t None = one head.Address t

abbrev pub address_of : Tree → Tree
address_of (node h kids) = if is_pointed h then address_by (node h kids) (only_of kids) else address_by (node h kids) None

-- an array has no pointer to it
abbrev pub address_of_object : (line : ℕ) → Tree → CoreType → (count : Option ℕ) → Answer Operand
address_of_object line t type (Some n) = wrong line
address_of_object line t type None = Ok (operand (address_of t) (sort.Pointer (pointer_to type false) false))

-- what is read in a state of its own is no lvalue
abbrev pub address_by_label : (line : ℕ) → Tree → CoreType → Option Label → Answer Operand
address_by_label line t type (Some label) = wrong line
address_by_label line t type None = address_of_object line t type type.count

abbrev pub address_by_sort : (line : ℕ) → Tree → Sort → Answer Operand
address_by_sort line t (sort.Object type label) = address_by_label line t type label
address_by_sort line t (sort.Integer known) = wrong line
address_by_sort line t (sort.Pointer type null) = wrong line
address_by_sort line t sort.Unknown = wrong line

unfoldable pub address : (line : ℕ) → Operand → Answer Operand
address line x = address_by_sort line x.tree x.sort

-- ---- operators of one operand

abbrev pub negation : Operand → Operand
negation v = integer (one head.Not (truth v))

unfoldable pub unary : (line : ℕ) → UnOp → Operand → Answer Operand
unary line un.Plus x = after (integer_value line x) (λ t. Ok (integer t))
unary line un.Minus x = after (integer_value line x) (λ t. Ok (integer (one head.Negate t)))
unary line un.BitNot x = after (integer_value line x) (λ t. Ok (integer (one head.Complement t)))
unary line un.Not x = after (valued line x) (λ v. Ok (negation v))
unary line un.Deref x = dereferenced line x
unary line un.AddressOf x = address line x

-- ---- sums and differences

abbrev pub both_may_be_integers : Operand → Operand → Bool
both_may_be_integers v w = may_be_integer v.sort && may_be_integer w.sort

abbrev pub arithmetic : (line : ℕ) → Arithmetic → Operand → Operand → Answer Operand
arithmetic line o v w = if both_may_be_integers v w then Ok (integer (two (head.Arithmetic o) v.tree w.tree)) else wrong line

-- what stands beside a value without a type is an integer or a pointer as well
abbrev pub number_sort : (both : Bool) → Sort
number_sort true = sort.Integer None
number_sort false = sort.Unknown

-- a sum or a difference without a pointer
abbrev pub numbers : (line : ℕ) → Arithmetic → Operand → Operand → Answer Operand
numbers line o v w =
    if both_may_be_integers v w then Ok (operand (two (head.Arithmetic o) v.tree w.tree) (number_sort (is_integer v.sort && is_integer w.sort))) else wrong line

abbrev pub moves : (minus : Bool) → Arithmetic
moves true = ar.Sub
moves false = ar.Add

-- a pointer moved by an integer, over its elements
abbrev pub offset_by : (line : ℕ) → (minus : Bool) → Operand → Tree → (stride : Option ℕ) → Sort → Answer Operand
offset_by line minus p i None s = wrong line
offset_by line minus p i (Some size) (sort.Integer known) = Ok (operand (two (head.Moved minus size) p.tree i) p.sort)
offset_by line minus p i (Some size) sort.Unknown = Ok (operand (two (head.Arithmetic (moves minus)) p.tree i) sort.Unknown)
offset_by line minus p i (Some size) (sort.Object type label) = wrong line
offset_by line minus p i (Some size) (sort.Pointer type null) = wrong line

abbrev pub offset : List ℕ → (line : ℕ) → (minus : Bool) → Operand → Operand → Answer Operand
offset sizes line minus p i = offset_by line minus p i.tree (stride_of sizes p.sort) i.sort

-- the operands of a pointer's move stand in one order, the pointer first
abbrev pub sum_by : List ℕ → (line : ℕ) → Operand → Operand → (first second : Bool) → Answer Operand
sum_by sizes line v w true second = offset sizes line false v w
sum_by sizes line v w false true = offset sizes line false w v
sum_by sizes line v w false false = numbers line ar.Add v w

unfoldable pub sum : List ℕ → (line : ℕ) → Operand → Operand → Answer Operand
sum sizes line v w = sum_by sizes line v w (is_pointer v.sort) (is_pointer w.sort)

-- the number of elements between two pointers
abbrev pub apart_by : (line : ℕ) → Operand → Operand → (alike : Bool) → (stride : Option ℕ) → Answer Operand
apart_by line v w true (Some size) = Ok (integer (two (head.Difference size) v.tree w.tree))
apart_by line v w true None = wrong line
apart_by line v w false stride = wrong line

abbrev pub apart : List ℕ → (line : ℕ) → Operand → Operand → Answer Operand
apart sizes line v w = apart_by line v w (alike v.sort w.sort) (stride_of sizes v.sort)

-- a pointer taken from a value without a type
abbrev pub taken_by : (line : ℕ) → Operand → Operand → (is_unknown : Bool) → (stride : Option ℕ) → Answer Operand
taken_by line v w true (Some size) = Ok (operand (two (head.Arithmetic ar.Sub) v.tree w.tree) sort.Unknown)
taken_by line v w true None = wrong line
taken_by line v w false stride = wrong line

abbrev pub taken : List ℕ → (line : ℕ) → Operand → Operand → Answer Operand
taken sizes line v w = taken_by line v w (is_unknown v.sort) (stride_of sizes w.sort)

abbrev pub difference_by : List ℕ → (line : ℕ) → Operand → Operand → (first second : Bool) → Answer Operand
difference_by sizes line v w true true = apart sizes line v w
difference_by sizes line v w true false = offset sizes line true v w
difference_by sizes line v w false true = taken sizes line v w
difference_by sizes line v w false false = numbers line ar.Sub v w

unfoldable pub difference : List ℕ → (line : ℕ) → Operand → Operand → Answer Operand
difference sizes line v w = difference_by sizes line v w (is_pointer v.sort) (is_pointer w.sort)

-- ---- comparisons

-- as what two values are compared
abbrev pub compare_by : (as_numbers as_pointers : Bool) → Option Comparing
compare_by true p = Some comparing.Numbers
compare_by false true = Some comparing.Pointers
compare_by false false = None

-- two integers; a value without a type is compared with any value
abbrev pub are_numbers : Sort → Sort → Bool
are_numbers s t = is_unknown s || is_unknown t || is_integer s && is_integer t

-- an order of pointers has no null pointer constant
unfoldable pub ordered : Sort → Sort → Option Comparing
ordered s t = compare_by (are_numbers s t) (alike s t)

abbrev pub are_equatable : Sort → Sort → Bool
are_equatable s t = alike s t || is_pointer s && is_null t || is_null s && is_pointer t

unfoldable pub equated : Sort → Sort → Option Comparing
equated s t = compare_by (are_numbers s t) (are_equatable s t)

abbrev pub compared : (line : ℕ) → Comparison → Tree → Tree → Option Comparing → Answer Operand
compared line how t u (Some comparing.Numbers) = Ok (integer (two (head.Compare how) t u))
compared line how t u (Some comparing.Pointers) = Ok (integer (two (head.ComparePointers how) t u))
compared line how t u None = wrong line

unfoldable pub order : (line : ℕ) → Comparison → Operand → Operand → Answer Operand
order line how v w = compared line how v.tree w.tree (ordered v.sort w.sort)

unfoldable pub equality : (line : ℕ) → Comparison → Operand → Operand → Answer Operand
equality line how v w = compared line how (beside w.sort v) (beside v.sort w) (equated v.sort w.sort)

-- ---- all operators of two operands

-- `&&` and `||`: both operands are taken for truths
abbrev pub connected : Head → Operand → Operand → Operand
connected h v w = integer (two h (truth v) (truth w))

abbrev pub binary_values : List ℕ → (line : ℕ) → BinOp → Operand → Operand → Answer Operand
binary_values sizes line bin.Mul v w = arithmetic line ar.Mul v w
binary_values sizes line bin.Div v w = arithmetic line ar.Div v w
binary_values sizes line bin.Rem v w = arithmetic line ar.Rem v w
binary_values sizes line bin.Add v w = sum sizes line v w
binary_values sizes line bin.Sub v w = difference sizes line v w
binary_values sizes line bin.Shl v w = arithmetic line ar.Shl v w
binary_values sizes line bin.Shr v w = arithmetic line ar.Shr v w
binary_values sizes line bin.Less v w = order line cmp.Less v w
binary_values sizes line bin.AtMost v w = order line cmp.AtMost v w
binary_values sizes line bin.Greater v w = order line cmp.Greater v w
binary_values sizes line bin.AtLeast v w = order line cmp.AtLeast v w
binary_values sizes line bin.Equal v w = equality line cmp.Equal v w
binary_values sizes line bin.NotEqual v w = equality line cmp.NotEqual v w
binary_values sizes line bin.BitAnd v w = arithmetic line ar.And v w
binary_values sizes line bin.BitXor v w = arithmetic line ar.Xor v w
binary_values sizes line bin.BitOr v w = arithmetic line ar.Or v w
binary_values sizes line bin.And v w = Ok (connected head.And v w)
binary_values sizes line bin.Or v w = Ok (connected head.Or v w)

unfoldable pub binary : List ℕ → (line : ℕ) → BinOp → Operand → Operand → Answer Operand
binary sizes line o x y = after (valued line x) (λ v. after (valued line y) (binary_values sizes line o v))
