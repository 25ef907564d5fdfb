-- Terms in which there is no other one (ACSL 2.2.2, 2.2.3).
use Rattle.std.specs.Prelude.{ℕ, ℤ, Bool, true, false, List, [], ◌∷◌, Option, Some, None, Ok, Err, if◌then◌else◌, slice_get}
use Rattle.wp_base.specs.declared.answers.Rule.TheVariants as rule
use Rattle.c_syntax.specs.declared.token.TokenKind.{TokenKind}
use Rattle.c_syntax.specs.declared.token.TokenKind.TheVariants as token
use Rattle.c_answers.specs.Answers.{Answer, after, fault, unknown, wrong}
use Rattle.typed_prog.specs.declared.types.CoreType.{CoreType}
use Rattle.typed_prog.specs.declared.types.Base.TheVariants as base
use Rattle.typed_prog.specs.declared.operators.Variable.{Variable}
use Rattle.typed_prog.specs.declared.operators.Variable.TheVariants as variable
use Rattle.typed_prog.specs.Types.{type_with, is_void, is_pointer}
use Rattle.c_scopes.specs.declared.symbols.Object.{Object}
use Rattle.acsl_trees.specs.declared.heads.Head.TheVariants as head
use Rattle.acsl_trees.specs.declared.operands.TermType.{TermType}
use Rattle.acsl_trees.specs.declared.operands.TermType.TheVariants as type
use Rattle.acsl_trees.specs.declared.operands.Sort.{Sort}
use Rattle.acsl_trees.specs.declared.operands.Sort.TheVariants as sort
use Rattle.acsl_trees.specs.Tree.{leaf}
use Rattle.acsl_trees.specs.Operands.{Operand, operand}
use Rattle.acsl_names.specs.declared.names.Reading.{Reading}
use Rattle.acsl_names.specs.declared.counting.Limit.{Limit}
use Rattle.acsl_names.specs.declared.counting.Count.{Count}
use Rattle.acsl_names.specs.Names.{Around}
use Rattle.acsl_names.specs.Labels.{may_stand, is_ensures}
use Rattle.acsl_names.specs.Counting.{with_node, with_bound, ended}

abbrev pub misshapen : {X : Type 0} → (line : ℕ) → Answer X
misshapen line = Err (fault rule.Shape line)

-- what a node is, weighed against the limit, and the count behind it
abbrev pub closed : {Y : Type 0} → (before at : Limit) → Count → Answer Y → Answer (Y × Count)
closed before at n answer = after (ended before at n.limit answer) (λ y. Ok (y, n))

-- a node in which there is no other one
abbrev pub leafed : {Y : Type 0} → (line : ℕ) → Count → Answer Y → Answer (Y × Count)
leafed line n answer = closed n.limit (with_node line n).limit (with_node line n) answer

-- ---- constants

abbrev pub number : ℤ → Operand
number z = operand (leaf (head.Number z)) (sort.Integer (Some z))

-- whatever suffix it has
abbrev pub literal : (line : ℕ) → TokenKind → Answer Operand
literal line (token.Number z base suffix) = Ok (number z)
literal line _ = wrong line

abbrev pub void_pointer : CoreType
void_pointer = type_with base.Void (false ∷ []) None

abbrev pub null : Operand
null = operand (leaf head.Null) (sort.Pointer void_pointer true)

-- ---- names

abbrev pub sort_of : TermType → Sort
sort_of type.Integer = sort.Integer None
sort_of (type.Pointer t) = sort.Pointer t false
sort_of type.Unknown = sort.Unknown

-- a binder or a parameter of a definition
abbrev pub bound_by : (line number : ℕ) → Option TermType → Answer Operand
bound_by line i (Some t) = Ok (operand (leaf (head.Name i)) (sort_of t))
bound_by line i None = wrong line

abbrev pub object_by : (line : ℕ) → Variable → Option Object → Answer Operand
object_by line x (Some o) = Ok (operand (leaf (head.Variable x)) (sort.Object o.ty None))
object_by line x None = wrong line

-- a local, under the labels around it
abbrev pub local : Around → Reading → (line number : ℕ) → Answer Operand
local c r line i = if may_stand c r i then object_by line (variable.Local i) (slice_get c.objects i) else misshapen line

-- ---- `\result`

abbrev pub value_sort : CoreType → Sort
value_sort t = if is_pointer t then sort.Pointer t false else sort.Integer None

abbrev pub result_of : (line : ℕ) → CoreType → Answer Operand
result_of line t = if is_void t then wrong line else Ok (operand (leaf head.Result) (value_sort t))

abbrev pub result : Around → (line : ℕ) → Answer Operand
result c line = if is_ensures c.site then result_of line c.result else misshapen line
