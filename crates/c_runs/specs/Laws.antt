-- What is so of operators, and of what is said of several behaviors.
use Rattle.std.specs.Prelude.{◌≡◌, ℕ, Bool, true, false, if◌then◌else◌, ℤ, List, [], ◌∷◌, Option, Some, None}
use Rattle.wp_base.specs.declared.kinds.Kind.{Kind}
use Rattle.c_kinds.specs.declared.models.Machdep.{Machdep}
use Rattle.c_kinds.specs.Models.{holds}
use Rattle.c_kinds.specs.Numbers as n
use Rattle.typed_prog.specs.declared.operators.Arithmetic.{Arithmetic}
use Rattle.typed_prog.specs.declared.operators.Arithmetic.TheVariants as ar
use Rattle.typed_prog.specs.declared.operators.Comparison.{Comparison}
use Rattle.typed_prog.specs.declared.operators.Comparison.TheVariants as cmp
use Rattle.c_runs.specs.TruthStates.{World, number}
use Rattle.c_runs.specs.Truth.{compare}
use Rattle.c_runs.specs.Program.{Behavior, Together, Contract, Facts}
use Rattle.c_runs.specs.Claims.{Stop, or_stop, together_holds, entered_well}
use Rattle.c_runs.specs.Operators as run
use Rattle.c_runs.specs.Operators.{Val, is, wrong}

-- ---- the operators on constants (C11 6.6), which have no value where something is undefined

abbrev pub on_constants : Arithmetic → Machdep → Kind → ℤ → ℤ → Option ℤ
on_constants ar.Mul = n.product
on_constants ar.Div = n.quotient
on_constants ar.Rem = n.remainder
on_constants ar.Add = n.sum
on_constants ar.Sub = n.difference
on_constants ar.Shl = n.left_shift
on_constants ar.Shr = n.right_shift
on_constants ar.And = n.and_bits
on_constants ar.Xor = n.xor_bits
on_constants ar.Or = n.or_bits

abbrev pub test_of_constants : Comparison → ℤ → ℤ → ℤ
test_of_constants cmp.Less a b = n.less a b
test_of_constants cmp.AtMost a b = n.at_most a b
test_of_constants cmp.Greater a b = n.less b a
test_of_constants cmp.AtLeast a b = n.at_most b a
test_of_constants cmp.Equal a b = n.equal a b
test_of_constants cmp.NotEqual a b = n.not_equal a b

-- ---- those of a run

-- the number that is given; none where something is undefined
abbrev pub number_in : Val → Option ℤ
number_in (is (number z)) = Some z
number_in (is v) = None
number_in (wrong u l) = None

-- the operands are of one kind, but that the right operand of a shift has a kind of its own
abbrev pub may_be_second : Machdep → Kind → Arithmetic → ℤ → Bool
may_be_second m k ar.Shl b = true
may_be_second m k ar.Shr b = true
may_be_second m k o b = holds m k b

-- Of numbers of its kind an operator gives in a run what it gives of constants, and is undefined where that has no value.
pub record SameOnConstants (m : Machdep) (k : Kind) (l : ℕ) (a b : ℤ) : Type 0 where
  pub arithmetic : (o : Arithmetic) → holds m k a ≡ true → may_be_second m k o b ≡ true → number_in (run.computed m k l o a b) ≡ on_constants o m k a b
  pub opposite : holds m k a ≡ true → number_in (run.negated m k l a) ≡ n.negated m k a
  pub complement : holds m k a ≡ true → Some (run.complement m k a) ≡ n.complement m k a
  pub comparison : (c : Comparison) → run.truth_number (compare c a b) ≡ number (test_of_constants c a b)

abbrev pub OperatorsAreThoseOfConstants : Type 0
OperatorsAreThoseOfConstants = (m : Machdep) (k : Kind) (l : ℕ) (a b : ℤ) → SameOnConstants m k l a b

-- ---- what is said of several behaviors

-- of those that say that one is there, or of those that say that no two are: the first that isn't so, in the order of the text
abbrev pub first_broken : (is_complete : Bool) → Facts → World → List Behavior → List Together → Option Stop
first_broken b p w bs [] = None
first_broken true p w bs (t ∷ ts) = if t.is_complete then or_stop (together_holds p w bs t) (first_broken true p w bs ts) else first_broken true p w bs ts
first_broken false p w bs (t ∷ ts) = if t.is_complete then first_broken false p w bs ts else or_stop (together_holds p w bs t) (first_broken false p w bs ts)

-- `complete` is tested before `disjoint`, wherever they stand.
abbrev pub CompleteComesFirst : Type 0
CompleteComesFirst = (p : Facts) (w : World) (c : Contract)
    → entered_well p w c ≡ or_stop (first_broken true p w c.behaviors c.together) (first_broken false p w c.behaviors c.together)
