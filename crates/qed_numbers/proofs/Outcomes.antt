-- What the rules answer.
use Rattle.std.proofs.Common.{◌≡◌, inl, inr, Bool, ◌&&◌, ◌||◌, ℤ, pos, List, [], ◌∷◌, refl, sym}
use Rattle.std.specs.Prelude.{Option, Some, None}
use Rattle.qed_terms.specs.declared.head.Head.TheVariants as h
use Rattle.qed_terms.specs.declared.head.TermOp.{TermOp}
use Rattle.qed_terms.specs.declared.head.TermOp.TheVariants as op
use Rattle.qed_terms.specs.Tree.{Tree, Trees, stop, more, head_of, two}
use Rattle.qed_linear.specs.Linear.{is_integer}
use Rattle.qed_numbers.specs.Numbers as spec
use Rattle.qed_numbers.specs.Numbers.{Rule, first_of_rules, number_at, is_num, zero_tree, integer_where, of_one, of_two, fitted, as_num, of_numbers, is_of_one_width, is_converted, power_by, times_number, shifted, number_rules}
use Rattle.qed_numbers.specs.Laws.{Outcome, NumbersAnswer}
use Rattle.qed_numbers.proofs.Tests.{then_some_is, either, AllOf, first_one, as_num_is}

abbrev Answers : Rule → Type 0
Answers r = (o : TermOp) (ts : Trees) (w : Tree) → r (h.Term o) ts ≡ Some w → Outcome o ts w

a_number : (o : TermOp) (ts : Trees) (p : Option ℤ) (w : Tree) → as_num p ≡ Some w → Outcome o ts w
a_number o ts p w k = let n = as_num_is p w k in inl (n.0, n.2)

a_zero : (o : TermOp) (ts : Trees) (b : Bool) (w : Tree) → spec.then_some b zero_tree ≡ Some w → Outcome o ts w
a_zero o ts b w k = inl (pos 0, sym (then_some_is b zero_tree w k).1)

first_kid : (o : TermOp) (t : Tree) (ts : Trees) (b : Bool) (w : Tree) → spec.then_some b t ≡ Some w → Outcome o (more t ts) w
first_kid o t ts b w k = inr (inl (inl (sym (then_some_is b t w k).1)))

second_kid : (o : TermOp) (t u : Tree) (ts : Trees) (b : Bool) (w : Tree) → spec.then_some b u ≡ Some w → Outcome o (more t (more u ts)) w
second_kid o t u ts b w k = inr (inl (inr (inl (sym (then_some_is b u w k).1))))

division : Answers spec.division_rule
division op.Div (more t (more u stop)) w k = a_number op.Div (two t u) _ w k
division op.Mod (more t (more u stop)) w k = a_number op.Mod (two t u) _ w k
division o ts w k = absurd cc

divisor_one : Answers spec.divisor_one_rule
divisor_one op.Div (more t (more u stop)) w k = first_kid op.Div t (more u stop) (is_num (pos 1) u && is_integer (head_of t)) w k
divisor_one op.Mod (more t (more u stop)) w k = a_zero op.Mod (two t u) (is_num (pos 1) u) w k
divisor_one o ts w k = absurd cc

divisor_zero : Answers spec.divisor_zero_rule
divisor_zero op.Div (more t (more u stop)) w k = a_zero op.Div (two t u) (is_num (pos 0) u) w k
divisor_zero op.Mod (more t (more u stop)) w k = a_zero op.Mod (two t u) (is_num (pos 0) u) w k
divisor_zero o ts w k = absurd cc

dividend_zero : Answers spec.dividend_zero_rule
dividend_zero op.Div (more t (more u stop)) w k = a_zero op.Div (two t u) (is_num (pos 0) t) w k
dividend_zero op.Mod (more t (more u stop)) w k = a_zero op.Mod (two t u) (is_num (pos 0) t) w k
dividend_zero o ts w k = absurd cc

conversion : Answers spec.conversion_rule
conversion (op.Wrap kind) (more t stop) w k = a_number (op.Wrap kind) (more t stop) _ w k
conversion o ts w k = absurd cc

second_conversion : Answers spec.second_conversion_rule
second_conversion (op.Wrap kind) (more t stop) w k = first_kid (op.Wrap kind) t stop (is_converted kind t) w k
second_conversion o ts w k = absurd cc

left_shift : Answers spec.left_shift_rule
left_shift op.ShiftLeft (more t (more u stop)) w k = go (power_by (number_at u)) k
  where
    go : (q : Option ℤ) → shifted q t ≡ Some w → Outcome op.ShiftLeft (two t u) w
    go None e = absurd cc
    go (Some p) e = let is : times_number p t ≡ w = cc in inr (inr (refl, (p, (t, (inl refl, sym is)))))
left_shift o ts w k = absurd cc

right_shift_zero : Answers spec.right_shift_zero_rule
right_shift_zero op.ShiftRight (more t (more u stop)) w k = first_kid op.ShiftRight t (more u stop) (is_num (pos 0) u && is_integer (head_of t)) w k
right_shift_zero o ts w k = absurd cc

right_shift : Answers spec.right_shift_rule
right_shift op.ShiftRight (more t (more u stop)) w k = a_number op.ShiftRight (two t u) _ w k
right_shift o ts w k = absurd cc

bits : Answers spec.bits_rule
bits op.BitAnd (more t (more u stop)) w k = a_number op.BitAnd (two t u) _ w k
bits op.BitOr (more t (more u stop)) w k = a_number op.BitOr (two t u) _ w k
bits op.BitXor (more t (more u stop)) w k = a_number op.BitXor (two t u) _ w k
bits op.BitNot (more t stop) w k = a_number op.BitNot (more t stop) _ w k
bits o ts w k = absurd cc

other : (o : TermOp) (t u w : Tree) → spec.first_some (integer_where (is_num (pos 0) u) t) (integer_where (is_num (pos 0) t) u) ≡ Some w → Outcome o (two t u) w
other o t u w k = elim (either (integer_where (is_num (pos 0) u) t) (integer_where (is_num (pos 0) t) u) w k) [
  | inl e ↦ first_kid o t (more u stop) (is_num (pos 0) u && is_integer (head_of t)) w e
  | inr e ↦ second_kid o t u stop (is_num (pos 0) t && is_integer (head_of u)) w e
]

bits_zero : Answers spec.bits_zero_rule
bits_zero op.BitAnd (more t (more u stop)) w k = a_zero op.BitAnd (two t u) (is_num (pos 0) t || is_num (pos 0) u) w k
bits_zero op.BitOr (more t (more u stop)) w k = other op.BitOr t u w k
bits_zero op.BitXor (more t (more u stop)) w k = other op.BitXor t u w k
bits_zero o ts w k = absurd cc

all_answer : AllOf Answers number_rules
all_answer = (division, (divisor_one, (divisor_zero, (dividend_zero, (conversion, (second_conversion, (left_shift, (right_shift_zero, (right_shift, (bits, (bits_zero, tt)))))))))))

pub numbers_answer : NumbersAnswer
numbers_answer o ts w k = let r = first_one Answers number_rules all_answer (h.Term o) ts w k in r.1.0 o ts w r.1.1
