-- What a typed expression over integers comes to: each node's operator on the numbers that its operands come to (C11 6.5). The types say in which kind it
-- computes. None is where C11 leaves the value undefined; and where pointers, structs or effects are met, of which nothing is said here.
use Rattle.std.specs.Prelude.{ℤ, pos, List, [], ◌∷◌, Option, Some, None}
use Rattle.std.specs.Option.{option_and_then}
use Rattle.wp_base.specs.declared.kinds.Kind.{Kind}
use Rattle.c_kinds.specs.declared.models.Machdep.{Machdep}
use Rattle.c_kinds.specs.Models.{convert}
use Rattle.c_kinds.specs.Numbers as n
use Rattle.c_machine.specs.Rules.{on_both, and_value, or_value, choose as chosen}
use Rattle.typed_prog.specs.declared.operators.Variable.{Variable}
use Rattle.typed_prog.specs.declared.operators.Arithmetic.{Arithmetic}
use Rattle.typed_prog.specs.declared.operators.Arithmetic.TheVariants as ar
use Rattle.typed_prog.specs.declared.operators.Comparison.{Comparison}
use Rattle.typed_prog.specs.declared.operators.Comparison.TheVariants as cmp
use Rattle.typed_prog.specs.declared.operators.Connective.{Connective}
use Rattle.typed_prog.specs.declared.operators.Connective.TheVariants as con
use Rattle.typed_prog.specs.declared.operators.Root.{Root}
use Rattle.typed_prog.specs.declared.operators.Root.TheVariants as root
use Rattle.typed_prog.specs.declared.operators.Step.{Step}
use Rattle.typed_prog.specs.declared.operators.Op.{Op}
use Rattle.typed_prog.specs.declared.operators.Op.TheVariants as op
use Rattle.typed_prog.specs.Types.{kind_of}
use Rattle.typed_prog.specs.Tree as t

-- ---- operators

-- of two numbers of one kind, but for the right one of a shift (6.5.5 to 6.5.7, 6.5.10 to 6.5.12)
abbrev pub computed : Machdep → Arithmetic → Kind → ℤ → ℤ → Option ℤ
computed m ar.Mul k y z = n.product m k y z
computed m ar.Div k y z = n.quotient m k y z
computed m ar.Rem k y z = n.remainder m k y z
computed m ar.Add k y z = n.sum m k y z
computed m ar.Sub k y z = n.difference m k y z
computed m ar.Shl k y z = n.left_shift m k y z
computed m ar.Shr k y z = n.right_shift m k y z
computed m ar.And k y z = n.and_bits m k y z
computed m ar.Xor k y z = n.xor_bits m k y z
computed m ar.Or k y z = n.or_bits m k y z

-- 1 or 0 (6.5.8, 6.5.9)
abbrev pub compared : Comparison → ℤ → ℤ → ℤ
compared cmp.Less y z = n.less y z
compared cmp.AtMost y z = n.at_most y z
compared cmp.Greater y z = n.less z y
compared cmp.AtLeast y z = n.at_most z y
compared cmp.Equal y z = n.equal y z
compared cmp.NotEqual y z = n.not_equal y z

-- the second operand is evaluated only where the first one leaves it open (6.5.13p4, 6.5.14p4)
abbrev pub connected : Connective → Option ℤ → Option ℤ → Option ℤ
connected con.And v w = and_value v w
connected con.Or v w = or_value v w

abbrev pub of_one : (ℤ → Option ℤ) → List (Option ℤ) → Option ℤ
of_one f (v ∷ []) = option_and_then f v
of_one f vs = None

abbrev pub of_two : (ℤ → ℤ → Option ℤ) → List (Option ℤ) → Option ℤ
of_two f (v ∷ w ∷ []) = on_both f v w
of_two f vs = None

-- ---- expressions

-- the number that each integer variable holds, if any
abbrev pub State : Type 0
State = Variable → Option ℤ

-- what an object holds: a variable, and no part of one
abbrev pub held_at : State → Root → List Step → Option ℤ
held_at s (root.Variable x) [] = s x
held_at s (root.Variable x) (step ∷ steps) = None
held_at s (root.Pointed operand) steps = None

-- an operator whose result is of this kind
abbrev pub applied : Machdep → State → Op → Kind → (operands : List (Option ℤ)) → Option ℤ
applied m s (op.Read path) k vs = held_at s path.root path.steps
applied m s op.Negate k vs = of_one (n.negated m k) vs
applied m s op.Complement k vs = of_one (n.complement m k) vs
applied m s op.Not k vs = of_one (λ z. Some (n.equal z (pos 0))) vs
applied m s (op.Arithmetic o) k vs = of_two (computed m o k) vs
applied m s (op.Compare how) k vs = of_two (λ y z. Some (compared how y z)) vs
-- by the context or as spelled (6.3.1.3, 6.5.4)
applied m s op.Convert k vs = of_one (λ z. Some (convert m k z)) vs
applied m s op.Cast k vs = of_one (λ z. Some (convert m k z)) vs
applied m s (op.Address path accessed) k vs = None
applied m s (op.Decay path accessed) k vs = None
applied m s (op.ComparePointers how) k vs = None
applied m s (op.Offset minus index_first size accessed) k vs = None
applied m s (op.Difference size) k vs = None
applied m s op.Requalify k vs = None

abbrev pub applied_in : Machdep → State → Op → Option Kind → (operands : List (Option ℤ)) → Option ℤ
applied_in m s o (Some k) vs = applied m s o k vs
applied_in m s o None vs = None

abbrev mutual
  pub evaluated : Machdep → State → t.Value → Option ℤ
  evaluated m s (t.typed node type line) = node_evaluated m s node (kind_of type)

  pub node_evaluated : Machdep → State → t.ValueNode → Option Kind → Option ℤ
  node_evaluated m s (t.constant z) k = Some z
  node_evaluated m s t.null k = None
  node_evaluated m s (t.temporary number) k = None
  node_evaluated m s (t.apply o vs) k = applied_in m s o k (all_evaluated m s vs)
  node_evaluated m s (t.logic how a b) k = connected how (evaluated m s a) (evaluated m s b)
  -- one arm alone is evaluated (6.5.15p4)
  node_evaluated m s (t.choose test a b) k = chosen (evaluated m s test) (evaluated m s a) (evaluated m s b)
  node_evaluated m s (t.effect does vs) k = None

  pub all_evaluated : Machdep → State → t.Values → List (Option ℤ)
  all_evaluated m s t.stop = []
  all_evaluated m s (t.more v vs) = evaluated m s v ∷ all_evaluated m s vs
