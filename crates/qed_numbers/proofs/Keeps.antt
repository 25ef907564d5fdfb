-- Each rule keeps the meaning.
use Rattle.std.proofs.Common.{◌≡◌, ℕ, ◌^◌, ◌==◌, eqb-true, inl, inr, Bool, true, false, ◌&&◌, ◌||◌, cond, ℤ, pos, ◌*ℤ◌, List, [], ◌∷◌, refl, sym, ◌∙◌, ap, rules}
use Rattle.std.specs.Prelude.{Option, Some, None, nat_le}
use Rattle.wp_base.specs.Blocks.{to_nat}
use denote.Enum.Bare.{same_true}
use Rattle.wp_base.specs.contracts.kinds.Kind.{the_type}
use Rattle.wp_base.specs.declared.kinds.Kind.{Kind}
use Rattle.wp_base.specs.Kinds.{convert}
use Rattle.qed_terms.specs.declared.head.Head.TheVariants as h
use Rattle.qed_terms.specs.declared.head.TermOp.{TermOp}
use Rattle.qed_terms.specs.declared.head.TermOp.TheVariants as op
use Rattle.qed_terms.specs.declared.head.Sort.TheVariants as sort
use Rattle.qed_terms.specs.Tree.{Tree, node, Trees, stop, more, head_of}
use Rattle.qed_terms.specs.Operators.{quotient, remainder, shifted_left, shifted_right, both_bits, either_bit, one_bit, turned_bits}
use Rattle.qed_terms.specs.Meaning.{World, Values, Value, Whole, value, meaning}
use Rattle.qed_linear.specs.Linear.{is_integer}
use Rattle.qed_linear.proofs.Facts.{equal_is}
use Rattle.qed_numbers.specs.Numbers as spec
use Rattle.qed_numbers.specs.Numbers.{Rule, first_of_rules, number_at, is_that, is_num, zero_tree, integer_where, of_one, of_two, fitted, as_num, of_numbers, is_of_one_width, converted, is_converted, power_of_two, power_by, times_number, shifted, number_rules, number_step}
use Rattle.qed_numbers.specs.Laws.{NumbersKeepMeaning, LongKeepsMeaning}
use Rattle.qed_numbers.proofs.Tests.{then_some_is, either, AllOf, first_one, both_so, or_either, as_num_is, fitted_back, of_one_back, of_two_back}
use Rattle.qed_numbers.proofs.Operators.{quotient_by_one, remainder_by_one, quotient_of_zero, remainder_of_zero, right_by_zero, left_is_product, both_with_zero, zero_with_both, either_with_zero, zero_with_either, one_with_zero, zero_with_one, same_width, converted_again}

module _ (world : World) (env : Values) where
  abbrev M : Tree → Value
  M = meaning world env

  abbrev V : Tree → ℤ
  V = value world env

  abbrev Keeps : Rule → Type 0
  Keeps r = (o : TermOp) (ts : Trees) (w : Tree) → r (h.Term o) ts ≡ Some w → M w ≡ M (node (h.Term o) ts)

  -- ---- what a kid means

  pub integer_whole : (t : Tree) → is_integer (head_of t) ≡ true → M t ≡ Whole (V t)
  integer_whole (node (h.Num z) ts) k = refl
  integer_whole (node (h.Var x sort.Int) ts) k = refl
  integer_whole (node (h.Term op.Store) ts) k = absurd cc
  integer_whole (node (h.Term (op.Alloc layout)) ts) k = absurd cc
  integer_whole (node (h.Term op.Grow) ts) k = absurd cc
  integer_whole (node (h.Term o) ts) k = refl
  integer_whole (node h.Ite ts) k = refl
  integer_whole (node (h.App f) ts) k = refl
  integer_whole (node head ts) k = absurd cc

  number_is : (t : Tree) (z : ℤ) → number_at t ≡ Some z → V t ≡ z
  number_is (node (h.Num y) ts) z k = cc
  number_is (node head ts) z k = absurd cc

  is_num_is : (z : ℤ) (t : Tree) → is_num z t ≡ true → V t ≡ z
  is_num_is z t k = go (number_at t) refl k
    where
      go : (o : Option ℤ) → number_at t ≡ o → is_that z o ≡ true → V t ≡ z
      go None e q = absurd cc
      go (Some y) e q = number_is t y e ∙ equal_is y z q

  -- a kid that stands where the node stood
  kid_means : (b : Bool) (t w : Tree) → integer_where b t ≡ Some w → (b ≡ true) × (M w ≡ Whole (V t))
  kid_means b t w k =
      let p = then_some_is (b && is_integer (head_of t)) t w k in
      let q = both_so b (is_integer (head_of t)) p.0 in
      (q.0, ap M (sym p.1) ∙ integer_whole t q.1)

  zero_means : (b : Bool) (w : Tree) → spec.then_some b zero_tree ≡ Some w → (b ≡ true) × (M w ≡ Whole (pos 0))
  zero_means b w k = let p = then_some_is b zero_tree w k in (p.0, ap M (sym p.1))

  one_number : (f : ℤ → ℤ) (t w : Tree) → as_num (of_one f (number_at t)) ≡ Some w → M w ≡ Whole (f (V t))
  one_number f t w k =
      let n = as_num_is (of_one f (number_at t)) w k in
      let a = of_one_back f (number_at t) n.0 n.1 in
      ap M n.2 ∙ ap Whole (a.2 ∙ ap f (sym (number_is t a.0 a.1)))

  two_numbers : (f : ℤ → ℤ → ℤ) (t u w : Tree) → of_numbers f t u ≡ Some w → M w ≡ Whole (f (V t) (V u))
  two_numbers f t u w k =
      let n = as_num_is (fitted (of_two f (number_at t) (number_at u))) w k in
      let a = of_two_back f (number_at t) (number_at u) n.0 (fitted_back (of_two f (number_at t) (number_at u)) n.0 n.1) in
      ap M n.2 ∙ ap Whole (a.4 ∙ (λ i. f (sym (number_is t a.0 a.2) i) (sym (number_is u a.1 a.3) i)))

  -- ---- division

  keeps_division : Keeps spec.division_rule
  keeps_division op.Div (more t (more u stop)) w k = two_numbers quotient t u w k
  keeps_division op.Mod (more t (more u stop)) w k = two_numbers remainder t u w k
  keeps_division o ts w k = absurd cc

  keeps_divisor_one : Keeps spec.divisor_one_rule
  keeps_divisor_one op.Div (more t (more u stop)) w k =
      let p = kid_means (is_num (pos 1) u) t w k in
      p.1 ∙ ap Whole (sym (ap (quotient (V t)) (is_num_is (pos 1) u p.0) ∙ quotient_by_one (V t)))
  keeps_divisor_one op.Mod (more t (more u stop)) w k =
      let p = zero_means (is_num (pos 1) u) w k in
      p.1 ∙ ap Whole (sym (ap (remainder (V t)) (is_num_is (pos 1) u p.0) ∙ remainder_by_one (V t)))
  keeps_divisor_one o ts w k = absurd cc

  keeps_divisor_zero : Keeps spec.divisor_zero_rule
  keeps_divisor_zero op.Div (more t (more u stop)) w k =
      let p = zero_means (is_num (pos 0) u) w k in
      p.1 ∙ ap Whole (sym (ap (quotient (V t)) (is_num_is (pos 0) u p.0)))
  keeps_divisor_zero op.Mod (more t (more u stop)) w k =
      let p = zero_means (is_num (pos 0) u) w k in
      p.1 ∙ ap Whole (sym (ap (remainder (V t)) (is_num_is (pos 0) u p.0)))
  keeps_divisor_zero o ts w k = absurd cc

  keeps_dividend_zero : Keeps spec.dividend_zero_rule
  keeps_dividend_zero op.Div (more t (more u stop)) w k =
      let p = zero_means (is_num (pos 0) t) w k in
      p.1 ∙ ap Whole (sym (ap (λ z. quotient z (V u)) (is_num_is (pos 0) t p.0) ∙ quotient_of_zero (V u)))
  keeps_dividend_zero op.Mod (more t (more u stop)) w k =
      let p = zero_means (is_num (pos 0) t) w k in
      p.1 ∙ ap Whole (sym (ap (λ z. remainder z (V u)) (is_num_is (pos 0) t p.0) ∙ remainder_of_zero (V u)))
  keeps_dividend_zero o ts w k = absurd cc

  -- ---- conversion

  keeps_conversion : Keeps spec.conversion_rule
  keeps_conversion (op.Wrap kind) (more t stop) w k = go (is_of_one_width kind) refl k
    where
      go : (b : Bool) → is_of_one_width kind ≡ b → as_num (cond b (of_one (convert 64 kind) (number_at t)) None) ≡ Some w → M w ≡ Whole (convert world.long_bits kind (V t))
      go true e q = one_number (convert 64 kind) t w q ∙ ap Whole (same_width world.long_bits kind (V t) e)
      go false e q = absurd cc
  keeps_conversion o ts w k = absurd cc

  keeps_long : (n : ℕ) → world.long_bits ≡ n → Keeps (spec.long_rule n)
  keeps_long n e (op.Wrap kind) (more t stop) w k = go (is_of_one_width kind) (n == 64) (n == 32) refl refl k
    where
      at : (m : ℕ) → n == m ≡ true → as_num (of_one (convert m kind) (number_at t)) ≡ Some w → M w ≡ Whole (convert world.long_bits kind (V t))
      at m f q = one_number (convert m kind) t w q ∙ ap (λ b. Whole (convert b kind (V t))) (sym (e ∙ eqb-true n m f))

      go : (x y z : Bool) → n == 64 ≡ y → n == 32 ≡ z → as_num (cond x None (cond y (of_one (convert 64 kind) (number_at t)) (cond z (of_one (convert 32 kind) (number_at t)) None))) ≡ Some w → M w ≡ Whole (convert world.long_bits kind (V t))
      go true y z f g q = absurd cc
      go false true z f g q = at 64 f q
      go false false true f g q = at 32 g q
      go false false false f g q = absurd cc
  keeps_long n e o ts w k = absurd cc

  converted_value : (kind : Kind) (t : Tree) → is_converted kind t ≡ true → M t ≡ Whole (convert world.long_bits kind (V t))
  converted_value kind (node (h.Term (op.Wrap l)) (more s stop)) k =
      let same : l ≡ kind = same_true the_type (search rules) l kind k in
      ap Whole (sym (converted_again world.long_bits l (V s)) ∙ ap (λ x. convert world.long_bits x (convert world.long_bits l (V s))) same)
  converted_value kind t k = absurd cc

  keeps_second : Keeps spec.second_conversion_rule
  keeps_second (op.Wrap kind) (more t stop) w k = let p = then_some_is (is_converted kind t) t w k in ap M (sym p.1) ∙ converted_value kind t p.0
  keeps_second o ts w k = absurd cc

  -- ---- shifts

  power_is : (n p : ℤ) → power_of_two n ≡ Some p → (a : ℤ) → p *ℤ (a *ℤ pos 1) ≡ shifted_left a n
  power_is n p k a = go (nat_le (to_nat n) 126) k
    where
      go : (b : Bool) → cond b (Some (pos (2 ^ to_nat n))) None ≡ Some p → p *ℤ (a *ℤ pos 1) ≡ shifted_left a n
      go true e = let same : p ≡ pos (2 ^ to_nat n) = cc in ap (λ q. q *ℤ (a *ℤ pos 1)) same ∙ left_is_product a n
      go false e = absurd cc

  keeps_left : Keeps spec.left_shift_rule
  keeps_left op.ShiftLeft (more t (more u stop)) w k = at (number_at u) refl k
    where
      at_power : (n : ℤ) → V u ≡ n → (q : Option ℤ) → power_of_two n ≡ q → shifted q t ≡ Some w → M w ≡ Whole (shifted_left (V t) (V u))
      at_power n v None e r = absurd cc
      at_power n v (Some p) e r =
          let is : times_number p t ≡ w = cc in
          ap M (sym is) ∙ ap Whole (power_is n p e (V t) ∙ ap (shifted_left (V t)) (sym v))

      at : (o : Option ℤ) → number_at u ≡ o → shifted (power_by o) t ≡ Some w → M w ≡ Whole (shifted_left (V t) (V u))
      at None e r = absurd cc
      at (Some n) e r = at_power n (number_is u n e) (power_of_two n) refl r
  keeps_left o ts w k = absurd cc

  keeps_right_zero : Keeps spec.right_shift_zero_rule
  keeps_right_zero op.ShiftRight (more t (more u stop)) w k =
      let p = kid_means (is_num (pos 0) u) t w k in
      p.1 ∙ ap Whole (sym (ap (shifted_right (V t)) (is_num_is (pos 0) u p.0) ∙ right_by_zero (V t)))
  keeps_right_zero o ts w k = absurd cc

  keeps_right : Keeps spec.right_shift_rule
  keeps_right op.ShiftRight (more t (more u stop)) w k = two_numbers shifted_right t u w k
  keeps_right o ts w k = absurd cc

  -- ---- bits

  keeps_bits : Keeps spec.bits_rule
  keeps_bits op.BitAnd (more t (more u stop)) w k = two_numbers both_bits t u w k
  keeps_bits op.BitOr (more t (more u stop)) w k = two_numbers either_bit t u w k
  keeps_bits op.BitXor (more t (more u stop)) w k = two_numbers one_bit t u w k
  keeps_bits op.BitNot (more t stop) w k =
      let n = as_num_is (fitted (of_one turned_bits (number_at t))) w k in
      let a = of_one_back turned_bits (number_at t) n.0 (fitted_back (of_one turned_bits (number_at t)) n.0 n.1) in
      ap M n.2 ∙ ap Whole (a.2 ∙ ap turned_bits (sym (number_is t a.0 a.1)))
  keeps_bits o ts w k = absurd cc

  -- the other operand of a 0
  other_means : (f : ℤ → ℤ → ℤ) → ((a : ℤ) → f a (pos 0) ≡ a) → ((a : ℤ) → f (pos 0) a ≡ a) → (t u w : Tree) → spec.first_some (integer_where (is_num (pos 0) u) t) (integer_where (is_num (pos 0) t) u) ≡ Some w → M w ≡ Whole (f (V t) (V u))
  other_means f right left t u w k = elim (either (integer_where (is_num (pos 0) u) t) (integer_where (is_num (pos 0) t) u) w k) [
    | inl e ↦ let p = kid_means (is_num (pos 0) u) t w e in p.1 ∙ ap Whole (sym (ap (f (V t)) (is_num_is (pos 0) u p.0) ∙ right (V t)))
    | inr e ↦ let p = kid_means (is_num (pos 0) t) u w e in p.1 ∙ ap Whole (sym (ap (λ z. f z (V u)) (is_num_is (pos 0) t p.0) ∙ left (V u)))
  ]

  keeps_bits_zero : Keeps spec.bits_zero_rule
  keeps_bits_zero op.BitAnd (more t (more u stop)) w k =
      let p = zero_means (is_num (pos 0) t || is_num (pos 0) u) w k in
      elim (or_either (is_num (pos 0) t) (is_num (pos 0) u) p.0) [
        | inl e ↦ p.1 ∙ ap Whole (sym (ap (λ z. both_bits z (V u)) (is_num_is (pos 0) t e) ∙ zero_with_both (V u)))
        | inr e ↦ p.1 ∙ ap Whole (sym (ap (both_bits (V t)) (is_num_is (pos 0) u e) ∙ both_with_zero (V t)))
      ]
  keeps_bits_zero op.BitOr (more t (more u stop)) w k = other_means either_bit either_with_zero zero_with_either t u w k
  keeps_bits_zero op.BitXor (more t (more u stop)) w k = other_means one_bit one_with_zero zero_with_one t u w k
  keeps_bits_zero o ts w k = absurd cc

  -- ---- all rules

  all_keep : AllOf Keeps number_rules
  all_keep = (keeps_division, (keeps_divisor_one, (keeps_divisor_zero, (keeps_dividend_zero, (keeps_conversion, (keeps_second, (keeps_left, (keeps_right_zero, (keeps_right, (keeps_bits, (keeps_bits_zero, tt)))))))))))

  pub step_keeps : (o : TermOp) (ts : Trees) (w : Tree) → number_step (h.Term o) ts ≡ Some w → M w ≡ M (node (h.Term o) ts)
  step_keeps o ts w k = let r = first_one Keeps number_rules all_keep (h.Term o) ts w k in r.1.0 o ts w r.1.1

pub long_keeps : LongKeepsMeaning
long_keeps n o ts w k world env e = keeps_long world env n e o ts w k

pub numbers_keep : NumbersKeepMeaning
numbers_keep o ts w k world env = step_keeps world env o ts w k
