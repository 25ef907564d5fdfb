-- Whether an operation has checks of its own, as a truth. That these are those of `op_checks` is a law.
use Rattle.std.specs.Prelude.{Bool, true, false, not, ◌&&◌, ◌||◌, ℤ, List, [], ◌∷◌, Option, Some, None}
use Rattle.std.specs.Option.{option_map}
use Rattle.wp_base.specs.Kinds.{is_signed}
use Rattle.typed_prog.specs.declared.types.CoreType.{CoreType}
use Rattle.typed_prog.specs.declared.operators.Arithmetic.{Arithmetic}
use Rattle.typed_prog.specs.declared.operators.Arithmetic.TheVariants as ar
use Rattle.typed_prog.specs.declared.operators.Op.{Op}
use Rattle.typed_prog.specs.declared.operators.Op.TheVariants as op
use Rattle.typed_prog.specs.declared.operators.Path.{Path}
use Rattle.typed_prog.specs.declared.operators.Step.{Step}
use Rattle.typed_prog.specs.declared.operators.Step.TheVariants as step
use Rattle.typed_prog.specs.Tree as t
use Rattle.c_runs.specs.Program.{Variable}
use Rattle.c_runs.specs.Operators.{is_order}
use Rattle.c_runs.specs.Objects.{plain_root, has_value, is_pointed, is_sure}
use Rattle.c_runs.specs.Values.{kind_at}
use Rattle.c_runs.specs.Checks.{second_constant, may_be_zero, may_be_minus_one}

-- a declared array is indexed on the way
abbrev pub is_indexed : List Step → Bool
is_indexed [] = false
is_indexed (step.Element operand size count line ∷ ss) = true
is_indexed (step.Field number offset ∷ ss) = is_indexed ss
is_indexed (step.Moved operand size ∷ ss) = is_indexed ss

-- a read: of a variable that no pointer leads to, whether it has a value from its declaration on
abbrev pub read_may_fail : Option Bool → Path → Bool
read_may_fail (Some sure) path = not sure
read_may_fail None path = is_indexed path.steps || is_pointed path.root

abbrev pub plain_value : List Variable → Path → Option Bool
plain_value xs path = option_map (has_value xs) (plain_root xs path.root)

abbrev pub address_may_fail : (accessed : Bool) → Path → Bool
address_may_fail accessed path = not (accessed || is_sure path.steps)

abbrev pub arithmetic_may_fail : Arithmetic → (signed : Bool) → (second : Option ℤ) → Bool
arithmetic_may_fail ar.Mul signed u = signed
arithmetic_may_fail ar.Div signed u = may_be_zero u || (signed && may_be_minus_one u)
arithmetic_may_fail ar.Rem signed u = may_be_zero u || (signed && may_be_minus_one u)
arithmetic_may_fail ar.Add signed u = signed
arithmetic_may_fail ar.Sub signed u = signed
arithmetic_may_fail ar.Shl signed u = true
arithmetic_may_fail ar.Shr signed u = true
arithmetic_may_fail ar.And signed u = false
arithmetic_may_fail ar.Xor signed u = false
arithmetic_may_fail ar.Or signed u = false

abbrev pub op_may_fail : Op → List Variable → CoreType → t.Values → Bool
op_may_fail (op.Read path) xs type es = read_may_fail (plain_value xs path) path
op_may_fail (op.Address path accessed) xs type es = address_may_fail accessed path
op_may_fail (op.Decay path accessed) xs type es = address_may_fail accessed path
op_may_fail op.Negate xs type es = is_signed (kind_at type)
op_may_fail op.Complement xs type es = false
op_may_fail op.Not xs type es = false
op_may_fail (op.Arithmetic o) xs type es = arithmetic_may_fail o (is_signed (kind_at type)) (second_constant es)
op_may_fail (op.Compare c) xs type es = false
op_may_fail (op.ComparePointers c) xs type es = is_order c
op_may_fail (op.Offset minus index_first size accessed) xs type es = not accessed
op_may_fail (op.Difference size) xs type es = true
op_may_fail op.Convert xs type es = false
op_may_fail op.Requalify xs type es = false
op_may_fail op.Cast xs type es = false
