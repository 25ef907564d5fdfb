-- The operator `?:` (ACSL 2.2.3).
use Rattle.std.specs.Prelude.{ℕ, Bool, ◌&&◌, ◌||◌, if◌then◌else◌, Option, Some, None, Ok}
use Rattle.c_answers.specs.Answers.{Answer, wrong, after}
use Rattle.acsl_trees.specs.declared.heads.Head.TheVariants as head
use Rattle.acsl_trees.specs.declared.operands.Sort.{Sort}
use Rattle.acsl_trees.specs.declared.operands.Sort.TheVariants as sort
use Rattle.acsl_trees.specs.Tree.{three}
use Rattle.acsl_trees.specs.Operands.{Operand, operand}
use Rattle.acsl_rules.specs.Sorts.{is_unknown, is_integer, is_pointer, is_untyped_null, is_null, alike}
use Rattle.acsl_rules.specs.Values.{valued, truth, beside}

abbrev pub with_null : (null : Bool) → Sort → Sort
with_null null (sort.Pointer type n) = sort.Pointer type null
with_null null (sort.Object type label) = sort.Object type label
with_null null (sort.Integer known) = sort.Integer known
with_null null sort.Unknown = sort.Unknown

-- of two pointers to one type the type of the first; null without a type where both are
abbrev pub joint : Sort → Sort → Sort
joint s t = with_null (is_untyped_null s && is_untyped_null t) s

abbrev pub pointer_arms : Sort → Sort → Option Sort
pointer_arms s t =
    if alike s t then Some (joint s t)
    else if is_pointer s && is_null t then Some s
    else if is_null s && is_pointer t then Some t
    else None

-- the sort of the whole by those of the arms: no type where an arm has none
abbrev pub arms : Sort → Sort → Option Sort
arms s t =
    if is_unknown s || is_unknown t then Some sort.Unknown
    else if is_integer s && is_integer t then Some (sort.Integer None)
    else pointer_arms s t

-- the test is taken for a truth
abbrev pub choice : Operand → Operand → Operand → Sort → Operand
choice b v w s = operand (three head.Choose (truth b) (beside w.sort v) (beside v.sort w)) s

abbrev pub conditional_by : (line : ℕ) → Operand → Operand → Operand → Option Sort → Answer Operand
conditional_by line b v w (Some s) = Ok (choice b v w s)
conditional_by line b v w None = wrong line

abbrev pub conditional_values : (line : ℕ) → Operand → Operand → Operand → Answer Operand
conditional_values line b v w = conditional_by line b v w (arms v.sort w.sort)

unfoldable pub conditional : (line : ℕ) → Operand → Operand → Operand → Answer Operand
conditional line test x y = after (valued line test) (λ b. after (valued line x) (λ v. after (valued line y) (conditional_values line b v)))
