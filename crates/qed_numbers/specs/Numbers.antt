-- The rules of the normal form at division, conversions, shifts and bit operators. Each says what becomes of a node whose kids are in
-- normal form, where it changes the node.
use Rattle.std.specs.Prelude.{ℕ, ◌^◌, ◌==◌, nat_le, Bool, true, false, ◌&&◌, ◌||◌, if◌then◌else◌, ℤ, pos, List, [], ◌∷◌, Option, Some, None}
use Rattle.wp_base.specs.declared.kinds.Kind.{Kind}
use Rattle.wp_base.specs.declared.kinds.Kind.TheVariants as kind
use Rattle.wp_base.specs.contracts.kinds.Kind.{the_type}
use denote.Enum.Bare.{sameb}
use Rattle.wp_base.specs.Kinds.{convert}
use Rattle.wp_base.specs.Blocks.{to_nat}
use Rattle.qed_terms.specs.declared.head.Head.{Head}
use Rattle.qed_terms.specs.declared.head.Head.TheVariants as h
use Rattle.qed_terms.specs.declared.head.TermOp.{TermOp}
use Rattle.qed_terms.specs.declared.head.TermOp.TheVariants as op
use Rattle.qed_terms.specs.Tree.{Tree, node, Trees, stop, more, head_of, two, num}
use Rattle.qed_terms.specs.Operators.{is_equal, quotient, remainder, shifted_right, both_bits, either_bit, one_bit, turned_bits}
use Rattle.qed_linear.specs.Linear.{fits, is_integer}

abbrev pub Rule : Type 0
Rule = Head → Trees → Option Tree

-- the tree, where the test is so
abbrev pub then_some : Bool → Tree → Option Tree
then_some true t = Some t
then_some false t = None

abbrev pub first_some : {A : Type 0} → Option A → Option A → Option A
first_some (Some a) o = Some a
first_some None o = o

abbrev pub first_of_rules : List Rule → Rule
first_of_rules [] head ts = None
first_of_rules (r ∷ rs) head ts = first_some (r head ts) (first_of_rules rs head ts)

-- ---- numbers

abbrev pub number_in : Head → Option ℤ
number_in (h.Num z) = Some z
number_in head = None

-- the number that a tree is
abbrev pub number_at : Tree → Option ℤ
number_at t = number_in (head_of t)

abbrev pub is_that : ℤ → Option ℤ → Bool
is_that z None = false
is_that z (Some y) = is_equal y z

-- whether a tree is this number
abbrev pub is_num : ℤ → Tree → Bool
is_num z t = is_that z (number_at t)

abbrev pub zero_tree : Tree
zero_tree = num (pos 0)

-- a kid that takes the place of an integer has to be one
abbrev pub integer_where : Bool → Tree → Option Tree
integer_where b t = then_some (b && is_integer (head_of t)) t

-- what an operator makes of numbers
abbrev pub of_one : (ℤ → ℤ) → Option ℤ → Option ℤ
of_one f None = None
of_one f (Some a) = Some (f a)

abbrev pub of_two : (ℤ → ℤ → ℤ) → Option ℤ → Option ℤ → Option ℤ
of_two f (Some a) (Some b) = Some (f a b)
of_two f a b = None

-- the number, where it fits 128 bits
abbrev pub fitted : Option ℤ → Option ℤ
fitted None = None
fitted (Some z) = if fits z then Some z else None

abbrev pub as_num : Option ℤ → Option Tree
as_num None = None
as_num (Some z) = Some (num z)

-- what an operator makes of two numbers, where it fits
abbrev pub of_numbers : (ℤ → ℤ → ℤ) → Tree → Tree → Option Tree
of_numbers f t u = as_num (fitted (of_two f (number_at t) (number_at u)))

-- ---- division (C11 6.5.5)

-- two numbers
abbrev pub division_rule : Rule
division_rule (h.Term op.Div) (more t (more u stop)) = of_numbers quotient t u
division_rule (h.Term op.Mod) (more t (more u stop)) = of_numbers remainder t u
division_rule head ts = None

-- a quotient by 1 is the dividend, a remainder by 1 is 0
abbrev pub divisor_one_rule : Rule
divisor_one_rule (h.Term op.Div) (more t (more u stop)) = integer_where (is_num (pos 1) u) t
divisor_one_rule (h.Term op.Mod) (more t (more u stop)) = then_some (is_num (pos 1) u) zero_tree
divisor_one_rule head ts = None

-- by 0 both are 0
abbrev pub divisor_zero_rule : Rule
divisor_zero_rule (h.Term op.Div) (more t (more u stop)) = then_some (is_num (pos 0) u) zero_tree
divisor_zero_rule (h.Term op.Mod) (more t (more u stop)) = then_some (is_num (pos 0) u) zero_tree
divisor_zero_rule head ts = None

-- of 0 both are 0
abbrev pub dividend_zero_rule : Rule
dividend_zero_rule (h.Term op.Div) (more t (more u stop)) = then_some (is_num (pos 0) t) zero_tree
dividend_zero_rule (h.Term op.Mod) (more t (more u stop)) = then_some (is_num (pos 0) t) zero_tree
dividend_zero_rule head ts = None

-- ---- conversion (C11 6.3.1.2, 6.3.1.3)

-- whether the kind is of one width in each data model; `long` is not
abbrev pub is_of_one_width : Kind → Bool
is_of_one_width kind.Long = false
is_of_one_width kind.ULong = false
is_of_one_width k = true

abbrev pub converted : Kind → Option ℤ → Option ℤ
converted k a = if is_of_one_width k then of_one (convert 64 k) a else None

-- a number
abbrev pub conversion_rule : Rule
conversion_rule (h.Term (op.Wrap k)) (more t stop) = as_num (converted k (number_at t))
conversion_rule head ts = None

-- a number converted to `long` or `unsigned long`, which have 32 or 64 bits
abbrev pub long_number : (long_bits : ℕ) → Kind → Option ℤ → Option ℤ
long_number n k a = if is_of_one_width k then None else (if n == 64 then of_one (convert 64 k) a else (if n == 32 then of_one (convert 32 k) a else None))

-- a number, where the width of `long` is known
abbrev pub long_rule : (long_bits : ℕ) → Rule
long_rule n (h.Term (op.Wrap k)) (more t stop) = as_num (long_number n k (number_at t))
long_rule n head ts = None

abbrev pub is_conversion : Kind → TermOp → Bool
is_conversion k (op.Wrap l) = sameb the_type l k
is_conversion k o = false

-- whether a tree is a conversion to this kind, of one term
abbrev pub is_converted : Kind → Tree → Bool
is_converted k (node (h.Term (op.Wrap l)) (more t stop)) = sameb the_type l k
is_converted k t = false

-- what was converted to the same kind before
abbrev pub second_conversion_rule : Rule
second_conversion_rule (h.Term (op.Wrap k)) (more t stop) = then_some (is_converted k t) t
second_conversion_rule head ts = None

-- ---- shifts (C11 6.5.7)

-- 2^n, a negative n counting as 0; none for more than 126
abbrev pub power_of_two : ℤ → Option ℤ
power_of_two n = if nat_le (to_nat n) 126 then Some (pos (2 ^ to_nat n)) else None

abbrev pub power_by : Option ℤ → Option ℤ
power_by None = None
power_by (Some n) = power_of_two n

abbrev pub times_number : ℤ → Tree → Tree
times_number p t = node (h.Term op.Mul) (two (num p) t)

abbrev pub shifted : Option ℤ → Tree → Option Tree
shifted None t = None
shifted (Some p) t = Some (times_number p t)

-- to the left by a number up to 126: a product
abbrev pub left_shift_rule : Rule
left_shift_rule (h.Term op.ShiftLeft) (more t (more u stop)) = shifted (power_by (number_at u)) t
left_shift_rule head ts = None

-- to the right by 0
abbrev pub right_shift_zero_rule : Rule
right_shift_zero_rule (h.Term op.ShiftRight) (more t (more u stop)) = integer_where (is_num (pos 0) u) t
right_shift_zero_rule head ts = None

-- to the right, two numbers
abbrev pub right_shift_rule : Rule
right_shift_rule (h.Term op.ShiftRight) (more t (more u stop)) = of_numbers shifted_right t u
right_shift_rule head ts = None

-- ---- bit operators (C11 6.5.3.3, 6.5.10 to 6.5.12)

-- numbers
abbrev pub bits_rule : Rule
bits_rule (h.Term op.BitAnd) (more t (more u stop)) = of_numbers both_bits t u
bits_rule (h.Term op.BitOr) (more t (more u stop)) = of_numbers either_bit t u
bits_rule (h.Term op.BitXor) (more t (more u stop)) = of_numbers one_bit t u
bits_rule (h.Term op.BitNot) (more t stop) = as_num (fitted (of_one turned_bits (number_at t)))
bits_rule head ts = None

-- with 0, `band` is 0, and the others are the other operand
abbrev pub bits_zero_rule : Rule
bits_zero_rule (h.Term op.BitAnd) (more t (more u stop)) = then_some (is_num (pos 0) t || is_num (pos 0) u) zero_tree
bits_zero_rule (h.Term op.BitOr) (more t (more u stop)) = first_some (integer_where (is_num (pos 0) u) t) (integer_where (is_num (pos 0) t) u)
bits_zero_rule (h.Term op.BitXor) (more t (more u stop)) = first_some (integer_where (is_num (pos 0) u) t) (integer_where (is_num (pos 0) t) u)
bits_zero_rule head ts = None

-- ---- the rules in order

abbrev pub number_rules : List Rule
number_rules =
    division_rule ∷ divisor_one_rule ∷ divisor_zero_rule ∷ dividend_zero_rule ∷ conversion_rule ∷ second_conversion_rule
    ∷ left_shift_rule ∷ right_shift_zero_rule ∷ right_shift_rule ∷ bits_rule ∷ bits_zero_rule ∷ []

-- what the first of them makes of a node
abbrev pub number_step : Rule
number_step head ts = first_of_rules number_rules head ts
