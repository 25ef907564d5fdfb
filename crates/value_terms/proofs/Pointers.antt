-- What the terms of pointers, ways and cells mean.
use Rattle.std.proofs.Common.{◌≡◌, ℕ, zero, suc, ◌==◌, Bool, true, false, not, ◌&&◌, ℤ, pos, negsuc, neg_ℤ, ◌+ℤ◌, ◌-ℤ◌, ◌*ℤ◌, List, [], ◌∷◌, refl, sym, ap, ◌∙◌, subst, arith}
use Rattle.std.specs.Prelude.{if◌then◌else◌, int_le, int_lt}
use Rattle.std.proofs.lemmas.Int.{ints}
use Rattle.std.proofs.lemmas.Bool.{and_parts}
use Rattle.std.proofs.lemmas.Bool.Decides.{Decides-eqb}
use Rattle.wp_base.specs.declared.kinds.CellKind.{CellKind}
use Rattle.wp_base.specs.declared.kinds.CellKind.TheVariants as cell
use Rattle.wp_base.specs.declared.kinds.Kind.{Kind}
use Rattle.wp_base.specs.Blocks.{count, len, is_live, is_cell, is_writable}
use Rattle.c_kinds.specs.Models.{low, holds}
use Rattle.typed_prog.specs.declared.operators.Comparison.{Comparison}
use Rattle.typed_prog.specs.declared.operators.Comparison.TheVariants as cmp
use Rattle.typed_prog.specs.declared.operators.Root.{Root}
use Rattle.typed_prog.specs.declared.operators.Root.TheVariants as root
use Rattle.typed_prog.specs.declared.operators.Step.{Step}
use Rattle.typed_prog.specs.declared.operators.Step.TheVariants as step
use Rattle.typed_prog.specs.declared.operators.Variable as code
use Rattle.typed_prog.specs.declared.operators.Variable.TheVariants as variable
use Rattle.typed_prog.specs.Tree as t
use Rattle.qed_terms.specs.declared.head.TermOp.TheVariants as term
use Rattle.qed_terms.specs.Meaning as m
use Rattle.qed_terms.specs.Memory.{load}
use Rattle.qed_terms.specs.Operators.{is_equal, quotient}
use Rattle.qed_terms.specs.Tree.{Tree, num}
use Rattle.c_runs.specs.TruthStates.{Value, number, pointer, number_of, block_of, offset_of}
use Rattle.c_runs.specs.Truth.{value_at, moved, moved_by, compare, compare_pointers}
use Rattle.c_runs.proofs.Numbers.{one_whole}
use Rattle.c_runs.specs.Program.{Facts, Variable}
use Rattle.c_runs.specs.States.{World, home_of}
use Rattle.c_runs.specs.Operators.{may_point, may_compare, difference}
use Rattle.c_runs.specs.Objects.{start, along, content}
use Rattle.c_runs.specs.Values.{Temps, moved_in}
use Rattle.c_runs.specs.Checks.{Check}
use Rattle.value_terms.specs.Readings.{Term, number_term, block_term, offset_term, term_at, Reading}
use Rattle.value_terms.specs.Terms.{of_two, comparison, scaled, moved_term, field_term, same_pointer_term, pointer_comparison, difference_term, home_term, start_term, along_term, load_term, loaded, moved_terms}
use Rattle.value_terms.specs.Words.{range_facts, pointing_term, comparing_term, access_term, index_items, cell_facts}
use Rattle.value_terms.specs.Typed.{Scope, HasBlock, ObjectIsTyped, StartIsTyped}
use Rattle.value_terms.specs.Worlds.{IsOf, Means}
use Rattle.value_terms.specs.Laws.{Stood, Says}
use Rattle.value_terms.specs.Places.{write_term}
use Rattle.value_terms.proofs.Integers.{Sized, times_one, sum_is, and_true, comparison_means, below_means}
use Rattle.value_terms.proofs.Operands.{number_means, block_means, offset_means}
use Rattle.value_terms.proofs.Cells.{of_kind_same, pointer_is, IndicesMet, equal_when}
use Rattle.value_terms.proofs.Holding.{number_is}

-- ---- offsets

one_times : (a : ℤ) → (pos 1 *ℤ a) ≡ a
one_times a = omega (arith, ints)

minus_is : (a b : ℤ) → (a +ℤ neg_ℤ b) ≡ (a -ℤ b)
minus_is a b = omega (arith, ints)

none_more : (a : ℤ) → (a +ℤ pos 0) ≡ a
none_more a = omega (arith, ints)

over_one : (a : ℤ) → quotient a (pos 1) ≡ a
over_one (pos n) = ap pos (one_whole n)
over_one (negsuc n) = ap (λ m. neg_ℤ (pos m)) (one_whole (suc n))

pointers : {b c o q : ℤ} → b ≡ c → o ≡ q → pointer b o ≡ pointer c q
pointers e f = λ i. pointer (e i) (f i)

-- ---- tests

three_tests : (a b c : Bool) → (a && (b && (c && true))) ≡ ((a && b) && c)
three_tests true true c = and_true c
three_tests true false c = refl
three_tests false b c = refl

flat_tests : (e l a b l' c d d' : Bool) → (e ≡ true → l' ≡ l) → (e ≡ true → d' ≡ d)
    → (e && (l && (a && (b && (c && (d && true)))))) ≡ (e && (((l && a) && b) && ((l' && c) && d')))
flat_tests false l a b l' c d d' h g = refl
flat_tests true true true true l' c d d' h g = (λ i. three_tests true c d i) ∙ (λ i. (sym (h refl) i && c) && sym (g refl) i)
flat_tests true true true false l' c d d' h g = refl
flat_tests true true false b l' c d d' h g = refl
flat_tests true false a b l' c d d' h g = refl

module _ {mw : m.World} {env : m.Values} {r : Reading} {p : Facts} {xs : List Variable} {s : Scope} {tm : Temps} {w : World}
    (stood : Stood mw env r p xs s tm w) where
  pub sized : Sized mw env p.model
  sized = record { model = stood.stands.model }

  abbrev V : Tree → ℤ
  V t = m.value mw env t

  abbrev So : Tree → Bool
  So f = m.truth mw env f

  abbrev M : Term → Value → Type 0
  M t v = Means mw env t v

  -- ---- pointers that are moved

  scaled_means : (size : ℕ) (t : Tree) → V (scaled size t) ≡ (pos size *ℤ V t)
  scaled_means size t = by_test (size == 1) refl
    where
      by_test : (b : Bool) → (size == 1) ≡ b → V (if b then t else of_two term.Mul (num (pos size)) t) ≡ (pos size *ℤ V t)
      by_test true e = sym (one_times (V t)) ∙ ap (λ n. pos n *ℤ V t) (sym ((Decides-eqb size 1).0 e))
      by_test false e = ap (λ z. pos size *ℤ z) (times_one (V t))

  pub moved_means : (minus : Bool) (size : ℕ) (a i : Term) (v u : Value) → M a v → M i u → M (moved_term minus size a i) (moved_by minus size v u)
  moved_means true size a i v u h g =
      pointers (block_means mw env a v h)
      ((λ j. offset_means mw env a v h j +ℤ neg_ℤ (pos size *ℤ number_means mw env i u g j))
      ∙ minus_is (V (offset_term a)) (pos size *ℤ V (number_term i))
      ∙ ap (λ z. V (offset_term a) -ℤ z) (sym (scaled_means size (number_term i))))
  moved_means false size a i v u h g =
      pointers (block_means mw env a v h)
      ((λ j. offset_means mw env a v h j +ℤ (pos size *ℤ number_means mw env i u g j))
      ∙ ap (λ z. V (offset_term a) +ℤ z) (sym (scaled_means size (number_term i)))
      ∙ sym (sum_is (V (offset_term a)) (V (scaled size (number_term i)))))

  field_means : (k : ℕ) (a : Term) (v : Value) → M a v → M (field_term k a) (moved v (pos k))
  field_means zero a v h = pointers (block_means mw env a v h) (none_more (offset_of v) ∙ offset_means mw env a v h)
  field_means (suc k) a v h =
      pointers (block_means mw env a v h)
      (ap (λ z. z +ℤ pos (suc k)) (offset_means mw env a v h) ∙ sym (sum_is (V (offset_term a)) (pos (suc k))))

  pub moved_both_mean : (index_first minus : Bool) (size : ℕ) (ts : List Term) (vs : List Value) → ((i : ℕ) → M (term_at ts i) (value_at vs i))
      → M (moved_terms index_first minus size ts) (moved_in index_first minus size vs)
  moved_both_mean true minus size ts vs means = moved_means minus size (term_at ts 1) (term_at ts 0) (value_at vs 1) (value_at vs 0) (means 1) (means 0)
  moved_both_mean false minus size ts vs means = moved_means minus size (term_at ts 0) (term_at ts 1) (value_at vs 0) (value_at vs 1) (means 0) (means 1)

  pub difference_means : (size : ℕ) (a b : Term) (v u : Value) → M a v → M b u → number_of (difference size v u) ≡ V (difference_term size a b)
  difference_means size a b v u h g = ap (λ z. quotient z (pos size)) apart ∙ by_test (size == 1) refl
    where
      apart : (offset_of v -ℤ offset_of u) ≡ (V (offset_term a) -ℤ V (offset_term b))
      apart = λ i. offset_means mw env a v h i -ℤ offset_means mw env b u g i

      by_test : (t : Bool) → (size == 1) ≡ t → quotient (V (offset_term a) -ℤ V (offset_term b)) (pos size)
          ≡ V (if t then of_two term.Sub (offset_term a) (offset_term b)
          else of_two term.Div (of_two term.Sub (offset_term a) (offset_term b)) (num (pos size)))
      by_test true e = ap (λ n. quotient (V (offset_term a) -ℤ V (offset_term b)) (pos n)) ((Decides-eqb size 1).0 e) ∙ over_one _
      by_test false e = refl

  -- ---- comparisons

  same_means : (a b : Term) (v u : Value) → M a v → M b u
      → (is_equal (block_of v) (block_of u) && is_equal (offset_of v) (offset_of u)) ≡ So (same_pointer_term a b)
  same_means a b v u h g =
      (λ i. is_equal (block_means mw env a v h i) (block_means mw env b u g i) && is_equal (offset_means mw env a v h i) (offset_means mw env b u g i))
      ∙ ap (λ z. is_equal (V (block_term a)) (V (block_term b)) && z) (sym (and_true (is_equal (V (offset_term a)) (V (offset_term b)))))

  ordered : (c : Comparison) (a b : Term) (v u : Value) → M a v → M b u
      → compare c (offset_of v) (offset_of u) ≡ So (comparison c (offset_term a) (offset_term b))
  ordered c a b v u h g =
      (λ i. compare c (offset_means mw env a v h i) (offset_means mw env b u g i))
      ∙ sym (comparison_means sized c (offset_term a) (offset_term b))

  pub pointers_mean : (c : Comparison) (a b : Term) (v u : Value) → M a v → M b u → compare_pointers c v u ≡ So (pointer_comparison c a b)
  pointers_mean cmp.Less a b v u h g = ordered cmp.Less a b v u h g
  pointers_mean cmp.AtMost a b v u h g = ordered cmp.AtMost a b v u h g
  pointers_mean cmp.Greater a b v u h g = ordered cmp.Greater a b v u h g
  pointers_mean cmp.AtLeast a b v u h g = ordered cmp.AtLeast a b v u h g
  pointers_mean cmp.Equal a b v u h g = same_means a b v u h g
  pointers_mean cmp.NotEqual a b v u h g = ap not (same_means a b v u h g)

  -- ---- ways

  home_means : s.has_blocks ≡ true → (x : code.Variable) → HasBlock p xs s x → home_of p w.locals x ≡ V (home_term p r x)
  home_means on (variable.Global x) h = refl
  home_means on (variable.Local x) h = sym (stood.stands.homes on x h.variable h.is.0 h.is.1 h.block)

  module _ (ts : List Term) (vs : List Value) (means : (i : ℕ) → M (term_at ts i) (value_at vs i)) where
    pub along_means : (ss : List Step) (a : Term) (v : Value) → M a v → M (along_term p r ts ss a) (along vs ss v)
    along_means [] a v h = h
    along_means (step.Field field offset ∷ ss) a v h = along_means ss (field_term offset a) (moved v (pos offset)) (field_means offset a v h)
    along_means (step.Element operand size many line ∷ ss) a v h =
        along_means ss (moved_term false size a (term_at ts operand)) (moved_by false size v (value_at vs operand))
        (moved_means false size a (term_at ts operand) v (value_at vs operand) h (means operand))
    along_means (step.Moved operand size ∷ ss) a v h =
        along_means ss (moved_term false size a (term_at ts operand)) (moved_by false size v (value_at vs operand))
        (moved_means false size a (term_at ts operand) v (value_at vs operand) h (means operand))

    pub object_means : s.has_blocks ≡ true → (o : Root) (ss : List Step) (k : CellKind) → ObjectIsTyped p xs s o ss k
        → M (along_term p r ts ss (start_term p r o ts)) (along vs ss (start p w o vs))
    object_means on (root.Variable x) ss k h = along_means ss _ _ (pointers (home_means on x h.0) refl)
    object_means on (root.Pointed n) ss k h = along_means ss (term_at ts n) (value_at vs n) (means n)

    pub start_means : s.has_blocks ≡ true → (o : Root) (ss : List Step) (es : t.Values) → StartIsTyped p xs s o es
        → M (along_term p r ts ss (start_term p r o ts)) (along vs ss (start p w o vs))
    start_means on (root.Variable x) ss es h = along_means ss _ _ (pointers (home_means on x h) refl)
    start_means on (root.Pointed n) ss es h = along_means ss (term_at ts n) (value_at vs n) (means n)

    -- the indices of a way
    pub indices_say : (n : ℕ) (ss : List Step) (met : Check → Bool) → IndicesMet vs n ss met → Says So met (index_items p r ts n ss)
    indices_say n [] met h = tt
    indices_say n (step.Field field offset ∷ ss) met h = indices_say (suc n) ss met (λ i j l q. h (suc i) j l (omega (arith, q)))
    indices_say n (step.Element operand size many line ∷ ss) met h = (
      below_means sized (number_term (term_at ts operand)) many
          ∙ (λ i. let z = sym (number_means mw env (term_at ts operand) (value_at vs operand) (means operand)) i in int_le (pos 0) z && int_lt z (pos many))
          ∙ sym (h 0 n line (omega arith)),
      λ behind. indices_say (suc n) ss met (λ i j l q. h (suc i) j l (omega (arith, q))),
    )
    indices_say n (step.Moved operand size ∷ ss) met h = indices_say (suc n) ss met (λ i j l q. h (suc i) j l (omega (arith, q)))

  -- ---- formulas on pointers

  pub access_means : s.has_blocks ≡ true → (k : CellKind) (a : Term) (v : Value) → M a v
      → So (access_term p r k a) ≡ is_cell k w.memory.blocks (block_of v) (offset_of v)
  access_means on k a v h = λ i. is_cell k (stood.stands.table on i) (sym (block_means mw env a v h) i) (sym (offset_means mw env a v h) i)

  pub write_means : s.has_blocks ≡ true → (k : CellKind) (a : Term) (v : Value) → M a v
      → So (write_term p r k a) ≡ is_writable k w.memory.blocks (block_of v) (offset_of v)
  write_means on k a v h = λ i. is_writable k (stood.stands.table on i) (sym (block_means mw env a v h) i) (sym (offset_means mw env a v h) i)

  pub pointing_means : s.has_blocks ≡ true → (a : Term) (v : Value) → M a v → So (pointing_term p r a) ≡ may_point w.memory.blocks v
  pointing_means on a v h =
      (λ i. let b = sym (block_means mw env a v h) i in let o = sym (offset_means mw env a v h) i in
      is_live (stood.stands.table on i) b && (int_le (pos 0) o && (int_le o (len (stood.stands.table on i) b) && true)))
      ∙ three_tests (is_live w.memory.blocks (block_of v)) (int_le (pos 0) (offset_of v)) (int_le (offset_of v) (len w.memory.blocks (block_of v)))

  pub comparing_means : s.has_blocks ≡ true → (a b : Term) (v u : Value) → M a v → M b u → So (comparing_term p r a b) ≡ may_compare w.memory.blocks v u
  comparing_means on a b v u h g =
      (λ i. let x = sym (block_means mw env a v h) i in let y = sym (block_means mw env b u g) i in
      let o = sym (offset_means mw env a v h) i in let q = sym (offset_means mw env b u g) i in let t = stood.stands.table on i in
      is_equal x y && (is_live t x && (int_le (pos 0) o && (int_le o (len t x) && (int_le (pos 0) q && (int_le q (len t x) && true))))))
      ∙ flat_tests (is_equal (block_of v) (block_of u)) (is_live w.memory.blocks (block_of v)) (int_le (pos 0) (offset_of v))
      (int_le (offset_of v) (len w.memory.blocks (block_of v))) (is_live w.memory.blocks (block_of u)) (int_le (pos 0) (offset_of u))
      (int_le (offset_of u) (len w.memory.blocks (block_of v))) (int_le (offset_of u) (len w.memory.blocks (block_of u)))
      (λ e. ap (is_live w.memory.blocks) (sym (equal_when (block_of v) (block_of u) e)))
      (λ e. ap (λ b. int_le (offset_of u) (len w.memory.blocks b)) (sym (equal_when (block_of v) (block_of u) e)))

  -- ---- cells

  pub range_says : (met : Check → Bool) (k : Kind) (t : Tree) → holds p.model k (V t) ≡ true → Says So met (range_facts p.model k t)
  range_says met k t h = let parts = and_parts (int_le (low p.model k) (V t)) _ h in (parts.0, (parts.1, tt))

  module _ (on : s.has_blocks ≡ true) (a : Term) (v : Value) (h : M a v) where
    abbrev here : Value
    here = w.memory.cells (block_of v) (offset_of v)

    abbrev There : CellKind → Type 0
    There k = is_cell k w.memory.blocks (block_of v) (offset_of v) ≡ true

    held : (k : CellKind) → There k → IsOf p w k here
    held k there = stood.kinds.cells k (block_of v) (offset_of v) there

    -- a memory's term at the address
    load_is : (memory : Tree) → V (load_term p r memory a) ≡ load (m.memory (m.meaning mw env memory)) (block_of v) (offset_of v)
    load_is memory = λ i. load (m.memory (m.meaning mw env memory)) (sym (block_means mw env a v h) i) (sym (offset_means mw env a v h) i)

    number_is_loaded : (k : Kind) → s.has_kind (cell.Of k) ≡ true → There (cell.Of k) → number_of here ≡ V (load_term p r (r.numbers k) a)
    number_is_loaded k has there = sym (load_is (r.numbers k) ∙ stood.stands.numbers on k has (block_of v) (offset_of v) there)

    block_is_loaded : s.has_kind cell.Ptr ≡ true → There cell.Ptr → block_of here ≡ V (load_term p r r.blocks a)
    block_is_loaded has there = sym (load_is r.blocks ∙ stood.stands.blocks on has (block_of v) (offset_of v) there)

    offset_is_loaded : s.has_kind cell.Ptr ≡ true → There cell.Ptr → offset_of here ≡ V (load_term p r r.offsets a)
    offset_is_loaded has there = sym (load_is r.offsets ∙ stood.stands.offsets on has (block_of v) (offset_of v) there)

    pub loaded_means : (k : CellKind) → s.has_kind k ≡ true → There k → M (loaded p r k a) (content w.memory k v)
    loaded_means (cell.Of k) has there =
        of_kind_same p (count w.memory.blocks) (cell.Of k) here (held (cell.Of k) there)
        ∙ (number_is p (count w.memory.blocks) k here (held (cell.Of k) there)).same ∙ ap number (number_is_loaded k has there)
    loaded_means cell.Ptr has there =
        of_kind_same p (count w.memory.blocks) cell.Ptr here (held cell.Ptr there)
        ∙ (pointer_is p (count w.memory.blocks) here (held cell.Ptr there)).same ∙ pointers (block_is_loaded has there) (offset_is_loaded has there)

    pub facts_say : (k : CellKind) (met : Check → Bool) → s.has_kind k ≡ true → There k → Says So met (cell_facts p r k (loaded p r k a))
    facts_say (cell.Of k) met has there =
        range_says met k (load_term p r (r.numbers k) a) (subst (λ z. holds p.model k z ≡ true) (number_is_loaded k has there)
        (number_is p (count w.memory.blocks) k here (held (cell.Of k) there)).held)
    facts_say cell.Ptr met has there =
        let made = (pointer_is p (count w.memory.blocks) here (held cell.Ptr there)).made in
        let parts = and_parts (int_le (pos 0) (block_of here)) _ made in (
          ap (int_le (pos 0)) (sym (block_is_loaded has there)) ∙ parts.0,
          ((λ i. int_lt (sym (block_is_loaded has there) i) (count (stood.stands.table on i))) ∙ parts.1, tt),
        )
