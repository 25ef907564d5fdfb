-- The rules on quantifiers and on memories keep the meaning.
use Rattle.std.proofs.Common.{◌≡◌, ◌⊎◌, inl, inr, ℕ, zero, suc, Bool, true, false, ◌&&◌, ◌||◌, ℤ, pos, negsuc, ◌+ℤ◌, ◌-ℤ◌, ◌≤ℤ◌, List, [], ◌∷◌, ◌++◌, map, refl, sym, ◌∙◌, ap, arith}
use Rattle.std.proofs.lemmas.Int.{ints}
use Rattle.std.proofs.lemmas.Bool.Decides.{Decides-int_eq}
use Rattle.std.specs.Ordering.{int_eq}
use Rattle.std.specs.List.{list_all, list_any}
use Rattle.std.specs.Prelude.{Option, Some, None}
use Rattle.wp_base.specs.Blocks.{to_nat}
use Rattle.qed_terms.specs.declared.head.Head.{Head}
use Rattle.qed_terms.specs.declared.head.Head.TheVariants as h
use Rattle.qed_terms.specs.declared.head.FormOp.{FormOp}
use Rattle.qed_terms.specs.declared.head.FormOp.TheVariants as rel
use Rattle.qed_terms.specs.Tree.{Tree, node, Trees, stop, more, head_of, three, true_tree}
use Rattle.qed_terms.specs.Operators.{is_equal}
use Rattle.qed_terms.specs.Memory.{Memory, Entry, Region, load, agree_at, same_memory, is_kept, agree_outside, is_inside}
use Rattle.qed_terms.specs.Meaning.{World, Values, Value, with_int, Truth, memory, regions, whole, value, truth, form_truth, meaning, meanings, all_from, some_from}
use Rattle.qed_terms.proofs.Total.{same_exact}
use Rattle.qed_linear.specs.Linear.{Lin, is_number, is_integer, subtract, checked, to_lin}
use Rattle.qed_linear.proofs.Facts.{and_left, and_right, equal_is}
use Rattle.qed_linear.proofs.Rounding.{le_fact}
use Rattle.qed_linear.proofs.Values.{subtract_value, checked_value, number_value, to_lin_value}
use Rattle.qed_numbers.specs.Numbers.{number_at}
use Rattle.qed_numbers.proofs.Tests.{or_either, then_some_is}
use Rattle.qed_rules.specs.Rules.{is_formula, truth_constant, is_truth_constant, is_empty_between, is_one, is_single_range, is_instance, empty_rule, single_range_rule, is_same_memory, same_memory_rule}
use Rattle.qed_substitution.specs.Substitution.{replace, may_replace}
use Rattle.qed_substitution.specs.Substitution.{quantifier}
use Rattle.qed_simplify.proofs.Sorts.{integer_whole, formula_truth}
use Rattle.qed_substitution.proofs.Substituted.{replaced_means}

-- ---- numbers of a range

all_pass : (test : ℤ → Bool) → ((y : ℤ) → test y ≡ true) → (n : ℕ) (z : ℤ) → all_from z n test ≡ true
all_pass test k zero z = refl
all_pass test k (suc n) z = let a = k z in let b = all_pass test k n (z +ℤ pos 1) in λ i. a i && b i

none_passes : (test : ℤ → Bool) → ((y : ℤ) → test y ≡ false) → (n : ℕ) (z : ℤ) → some_from z n test ≡ false
none_passes test k zero z = refl
none_passes test k (suc n) z = let a = k z in let b = none_passes test k n (z +ℤ pos 1) in λ i. a i || b i

and_true : (a : Bool) → a && true ≡ a
and_true true = refl
and_true false = refl

or_false : (a : Bool) → a || false ≡ a
or_false true = refl
or_false false = refl

none_above : (z : ℤ) → z ≤ℤ pos 0 → to_nat z ≡ 0
none_above (pos zero) k = refl
none_above (pos (suc n)) k = absurd (omega (arith, ints, k))
none_above (negsuc n) k = refl

module _ (world : World) (env : Values) where
  abbrev M : Tree → Value
  M = meaning world env

  abbrev V : Tree → ℤ
  V = value world env

  -- what the rule makes of a quantifier means what that means
  abbrev pub KeepsQuantifier : (Bool → List ℕ → Tree → Tree → Tree → Option Tree) → Type 0
  KeepsQuantifier rule = (b : Bool) (x : List ℕ) (t u f w : Tree) → rule b x t u f ≡ Some w → M w ≡ M (node (quantifier b x) (three t u f))

  truth_means : (b : Bool) → M (truth_constant b) ≡ Truth b
  truth_means true = refl
  truth_means false = refl

  -- over so many numbers from one on
  abbrev over : Bool → List ℕ → ℤ → ℕ → Tree → Bool
  over true x z n f = all_from z n (λ y. truth world (with_int env x y) f)
  over false x z n f = some_from z n (λ y. truth world (with_int env x y) f)

  range_means : (b : Bool) (x : List ℕ) (t u f : Tree) → M (node (quantifier b x) (three t u f)) ≡ Truth (over b x (V t) (to_nat (V u -ℤ V t)) f)
  range_means true x t u f = refl
  range_means false x t u f = refl

  -- ---- no number, and a body that says nothing

  over_none : (b : Bool) (x : List ℕ) (z : ℤ) (f : Tree) → over b x z 0 f ≡ b
  over_none true x z f = refl
  over_none false x z f = refl

  constant_so : (b : Bool) (f : Tree) → is_truth_constant b f ≡ true → (env' : Values) → truth world env' f ≡ b
  constant_so true (node h.True ts) k env' = refl
  constant_so false (node h.False ts) k env' = refl
  constant_so b f k env' = absurd cc

  over_constant : (b : Bool) (x : List ℕ) (z : ℤ) (n : ℕ) (f : Tree) → is_truth_constant b f ≡ true → over b x z n f ≡ b
  over_constant true x z n f k = all_pass (λ y. truth world (with_int env x y) f) (λ y. constant_so true f k (with_int env x y)) n z
  over_constant false x z n f k = none_passes (λ y. truth world (with_int env x y) f) (λ y. constant_so false f k (with_int env x y)) n z

  number_is : (t : Tree) (z : ℤ) → number_at t ≡ Some z → V t ≡ z
  number_is (node (h.Num y) ts) z k = cc
  number_is t z k = absurd cc

  empty_between : (t u : Tree) → is_empty_between (number_at t) (number_at u) ≡ true → to_nat (V u -ℤ V t) ≡ 0
  empty_between t u k = go (number_at t) (number_at u) refl refl k
    where
      go : (o p : Option ℤ) → number_at t ≡ o → number_at u ≡ p → is_empty_between o p ≡ true → to_nat (V u -ℤ V t) ≡ 0
      go (Some a) (Some b) e q r =
          let l = le_fact b a r in
          let m = number_is t a e in
          let n = number_is u b q in
          none_above (V u -ℤ V t) (omega (arith, ints, l, m, n))
      go (Some a) None e q r = absurd cc
      go None p e q r = absurd cc

  pub keeps_empty : KeepsQuantifier empty_rule
  keeps_empty b x t u f w k =
      let p = then_some_is (is_empty_between (number_at t) (number_at u) || is_truth_constant b f) (truth_constant b) w k in
      ap M (sym p.1) ∙ truth_means b ∙ ap Truth (sym (said (or_either (is_empty_between (number_at t) (number_at u)) (is_truth_constant b f) p.0))) ∙ sym (range_means b x t u f)
    where
      said : (is_empty_between (number_at t) (number_at u) ≡ true) ⊎ (is_truth_constant b f ≡ true) → over b x (V t) (to_nat (V u -ℤ V t)) f ≡ b
      said (inl e) = ap (λ n. over b x (V t) n f) (empty_between t u e) ∙ over_none b x (V t) f
      said (inr e) = over_constant b x (V t) (to_nat (V u -ℤ V t)) f e

  -- ---- one number

  over_one : (b : Bool) (x : List ℕ) (z : ℤ) (f : Tree) → over b x z 1 f ≡ truth world (with_int env x z) f
  over_one true x z f = and_true (truth world (with_int env x z) f)
  over_one false x z f = or_false (truth world (with_int env x z) f)

  one_apart : (t u : Tree) → is_single_range t u ≡ true → to_nat (V u -ℤ V t) ≡ 1
  one_apart t u k = go (checked (subtract (to_lin u) (to_lin t))) refl k
    where
      go : (o : Option Lin) → checked (subtract (to_lin u) (to_lin t)) ≡ o → is_one o ≡ true → to_nat (V u -ℤ V t) ≡ 1
      go None e q = absurd cc
      go (Some g) e q =
          let a = to_lin_value world env u in
          let b = to_lin_value world env t in
          let c = number_value world env g (and_left (is_number g) (is_equal (g.constant) (pos 1)) q) in
          let d = equal_is (g.constant) (pos 1) (and_right (is_number g) (is_equal (g.constant) (pos 1)) q) in
          ap to_nat (sym (checked_value world env (subtract (to_lin u) (to_lin t)) g e ∙ subtract_value world env (to_lin u) (to_lin t) ∙ (λ i. a i -ℤ b i)) ∙ c ∙ d)

  pub keeps_single_range : KeepsQuantifier single_range_rule
  keeps_single_range b x t u f w k =
      let p = then_some_is (is_instance x t u f) (replace x t f) w k in
      let sorts = and_left (is_single_range t u && (is_integer (head_of t) && is_formula (head_of f))) (may_replace x t f) p.0 in
      let clear = and_right (is_single_range t u && (is_integer (head_of t) && is_formula (head_of f))) (may_replace x t f) p.0 in
      let range = and_left (is_single_range t u) (is_integer (head_of t) && is_formula (head_of f)) sorts in
      let both = and_right (is_single_range t u) (is_integer (head_of t) && is_formula (head_of f)) sorts in
      let integer = and_left (is_integer (head_of t)) (is_formula (head_of f)) both in
      let formula = and_right (is_integer (head_of t)) (is_formula (head_of f)) both in
      ap M (sym p.1) ∙ replaced_means world x t (λ e. integer_whole world e t integer) f env clear ∙ formula_truth world (with_int env x (V t)) f formula
      ∙ ap Truth (sym (over_one b x (V t) f)) ∙ ap (λ n. Truth (over b x (V t) n f)) (sym (one_apart t u range)) ∙ sym (range_means b x t u f)

  -- ---- a memory and itself

  int_itself : (z : ℤ) → int_eq z z ≡ true
  int_itself z = (Decides-int_eq z z).1 refl

  agrees_itself : (m : Memory) (es : List Entry) → list_all (agree_at m m) es ≡ true
  agrees_itself m [] = refl
  agrees_itself m (e ∷ es) = let a = int_itself (load m e.block e.offset) in let b = agrees_itself m es in λ i. a i && b i

  kept_itself : (m : Memory) (rs : List Region) (es : List Entry) → list_all (is_kept m m rs) es ≡ true
  kept_itself m rs [] = refl
  kept_itself m rs (e ∷ es) =
      let a = int_itself (load m e.block e.offset) in
      let b = kept_itself m rs es in
      λ i. (or_true (list_any (is_inside e.block e.offset) rs) (agree_at m m e) a i) && b i
    where
      or_true : (p q : Bool) → q ≡ true → p || q ≡ true
      or_true true q k = refl
      or_true false q k = k

  same_itself : (m : Memory) → same_memory m m ≡ true
  unfolding same_memory
  same_itself m = agrees_itself m (m ++ m)

  outside_itself : (m : Memory) (rs : List Region) → agree_outside m m rs ≡ true
  unfolding agree_outside
  outside_itself m rs = kept_itself m rs (m ++ m)

  -- the first two kids mean one memory
  memory_so : (o : FormOp) (ts : Trees) → is_same_memory o ts ≡ true → form_truth world o (meanings world env ts) ≡ true
  memory_so rel.Same (more m (more n stop)) k = ap (λ a. same_memory (memory (M m)) (memory (M a))) (sym (same_exact m n k)) ∙ same_itself (memory (M m))
  memory_so (rel.Frame shapes) (more m (more n ts)) k =
      let rs = regions shapes (map whole (meanings world env ts)) in
      ap (λ a. agree_outside (memory (M m)) (memory (M a)) rs) (sym (same_exact m n k)) ∙ outside_itself (memory (M m)) rs
  memory_so o ts k = absurd cc

  pub keeps_same_memory : (head : Head) (ts : Trees) (w : Tree) → same_memory_rule head ts ≡ Some w → M w ≡ M (node head ts)
  keeps_same_memory (h.Form o) ts w k = let p = then_some_is (is_same_memory o ts) true_tree w k in ap M (sym p.1) ∙ ap Truth (sym (memory_so o ts p.0))
  keeps_same_memory head ts w k = absurd cc
