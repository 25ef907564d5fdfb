-- No check of an operator is idle: there are operands for which it is the first that isn't met.
use Rattle.std.specs.Prelude.{◌≡◌, ℕ, zero, suc, ◌==◌, nat_lt, Bool, true, false, not, ◌&&◌, ◌||◌, ℤ, List, [], ◌∷◌, ◌++◌}
use Rattle.std.specs.List.{list_all}
use Rattle.typed_prog.specs.declared.types.CoreType.{CoreType}
use Rattle.typed_prog.specs.declared.operators.Arithmetic.{Arithmetic}
use Rattle.typed_prog.specs.declared.operators.Arithmetic.TheVariants as ar
use Rattle.typed_prog.specs.declared.operators.Op.{Op}
use Rattle.typed_prog.specs.declared.operators.Op.TheVariants as op
use Rattle.typed_prog.specs.declared.operators.Step.{Step}
use Rattle.typed_prog.specs.declared.operators.Step.TheVariants as step
use Rattle.typed_prog.specs.Tree as t
use Rattle.qed_terms.specs.Operators.{is_zero}
use Rattle.c_runs.specs.Program.{Facts, Variable}
use Rattle.c_runs.specs.States.{World}
use Rattle.c_runs.specs.Values.{Temps}
use Rattle.c_runs.specs.Checks.{Check, op_checks}
use Rattle.c_runs.specs.Tests.{is_met}

-- ---- operands

-- so many temporaries, each another one
abbrev pub temporaries_from : CoreType → (first count : ℕ) → t.Values
temporaries_from type n zero = t.stop
temporaries_from type n (suc k) = t.more (t.typed (t.temporary n) type 0) (temporaries_from type (suc n) k)

abbrev pub temporaries : CoreType → (count : ℕ) → t.Values
temporaries type n = temporaries_from type 0 n

-- a temporary, and a number as spelled
abbrev pub and_constant : CoreType → ℤ → t.Values
and_constant type z = t.more (t.typed (t.temporary 0) type 0) (t.more (t.typed (t.constant z) type 0) t.stop)

-- ---- what is asked of a way: each index of a declared array is an operand of its own, and the array has elements

abbrev pub is_index_of : (operand : ℕ) → List Step → Bool
is_index_of i [] = false
is_index_of i (step.Element operand size count line ∷ ss) = i == operand || is_index_of i ss
is_index_of i (step.Field k offset ∷ ss) = is_index_of i ss
is_index_of i (step.Moved operand size ∷ ss) = is_index_of i ss

abbrev pub are_apart : (operands : ℕ) → List Step → Bool
are_apart n [] = true
are_apart n (step.Element operand size count line ∷ ss) = (nat_lt operand n && nat_lt 0 count) && (not (is_index_of operand ss) && are_apart n ss)
are_apart n (step.Field k offset ∷ ss) = are_apart n ss
are_apart n (step.Moved operand size ∷ ss) = are_apart n ss

-- an operator may have so many operands
abbrev pub may_have : Op → (operands : ℕ) → Bool
may_have (op.Read path) n = are_apart n path.steps
may_have op.Negate n = n == 1
may_have (op.Arithmetic o) n = n == 2
may_have o n = true

-- ---- what is said

-- with some values of temporaries, and in some state, this is the first check that isn't met
pub record CanFail (xs : List Variable) (e : t.Value) (before : List Check) (c : Check) : Type 0 where
  pub facts : Facts
  pub temps : Temps
  pub world : World
  pub met : list_all (is_met facts xs temps world e) before ≡ true
  pub unmet : is_met facts xs temps world e c ≡ false

-- each of these checks, behind some others
abbrev pub EachOf : List Variable → t.Value → (before cs : List Check) → Type 0
EachOf xs e before [] = Unit {0}
EachOf xs e before (c ∷ cs) = CanFail xs e before c × EachOf xs e (before ++ c ∷ []) cs

-- of an operation on these operands
abbrev pub EachAt : List Variable → CoreType → (line : ℕ) → Op → t.Values → Type 0
EachAt xs type l o es = EachOf xs (t.typed (t.apply o es) type l) [] (op_checks xs type l o es)

-- `/` and `%`
abbrev pub divides : Arithmetic → Bool
divides ar.Div = true
divides ar.Rem = true
divides o = false

-- Each check of an operator, whatever its type, line and parameters are; and each of a division by a number other than 0. A division by the number 0 always
-- fails at its first check, so that its check of overflow alone is idle.
pub record EachCanFail (xs : List Variable) (type at : CoreType) (l : ℕ) : Type 0 where
  pub operators : (o : Op) (n : ℕ) → may_have o n ≡ true → EachAt xs type l o (temporaries at n)
  pub constants : (o : Arithmetic) (z : ℤ) → divides o ≡ true → is_zero z ≡ false → EachAt xs type l (op.Arithmetic o) (and_constant at z)

abbrev pub NoneIsIdle : Type 0
NoneIsIdle = (xs : List Variable) (type at : CoreType) (l : ℕ) → EachCanFail xs type at l
