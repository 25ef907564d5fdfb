-- The order of two memories that are the same is that of their names, where it counts.
use Rattle.std.proofs.Common.{◌≡◌, ℕ, Bool, true, false, List, [], refl, sym, ◌∙◌, ap}
use Rattle.std.specs.Prelude.{Option, Some, None, if◌then◌else◌}
use Rattle.std.specs.declared.cmp.Ordering.{Ordering}
use Rattle.std.specs.declared.cmp.Ordering.TheVariants.{Less, Equal, Greater}
use Rattle.std.specs.Ordering.{ordering_then, nat_cmp}
use Rattle.std.specs.Cmp.Lexicographic.{slice_cmp}
use Rattle.qed_terms.specs.declared.head.Sort.TheVariants as sort
use Rattle.qed_terms.specs.declared.head.Head.{Head}
use Rattle.qed_terms.specs.declared.head.Head.TheVariants as h
use Rattle.qed_terms.specs.Order.{tree_cmp}
use Rattle.qed_terms.specs.Store.{is_well_formed}
use Rattle.qed_terms.specs.Tree.{Tree, node, Trees, stop, more, head_of}
use Rattle.qed_terms.specs.WellFormed.{may_stand, mem}
use Rattle.qed_linear.specs.Linear.{at_order}
use Rattle.branch_changes.specs.Givens.{variable, given_where, memory_given, side_givens, same_givens, with_given}
use Rattle.branch_changes.proofs.Truths.{and_right}
use Rattle.variable_changes.specs.Found.{is_second_later}

always : {A : Type 0} (o : Ordering) (x : A) → at_order o x x x ≡ x
always Less x = refl
always Equal x = refl
always Greater x = refl

by_test : {A : Type 0} (o : Ordering) (x y : A) → at_order o x y y ≡ (if at_order o true false false then x else y)
by_test Less x y = refl
by_test Equal x y = refl
by_test Greater x y = refl

-- what is no variable of memories gives nothing
no_given : (m n : Tree) → variable sort.Memory (head_of m) ≡ None → memory_given m n ≡ None
no_given m n e = ap (λ x. given_where sort.Memory x (Some n)) e

first_plain : (m n : Tree) → variable sort.Memory (head_of m) ≡ None → same_givens m n ≡ side_givens m n
first_plain m n e =
    let gone = no_given m n e in
    let one : side_givens m n ≡ with_given (memory_given n m) [] = ap (λ o. with_given o (with_given (memory_given n m) [])) gone in
    let other : side_givens n m ≡ with_given (memory_given n m) [] = ap (λ o. with_given (memory_given n m) (with_given o [])) gone in
    ap (λ x. at_order (tree_cmp m n) x (side_givens m n) (side_givens m n)) (other ∙ sym one) ∙ always (tree_cmp m n) (side_givens m n)

second_plain : (m n : Tree) → variable sort.Memory (head_of n) ≡ None → same_givens m n ≡ side_givens m n
second_plain m n e =
    let gone = no_given n m e in
    let one : side_givens m n ≡ with_given (memory_given m n) [] = ap (λ o. with_given (memory_given m n) (with_given o [])) gone in
    let other : side_givens n m ≡ with_given (memory_given m n) [] = ap (λ o. with_given o (with_given (memory_given m n) [])) gone in
    ap (λ x. at_order (tree_cmp m n) x (side_givens m n) (side_givens m n)) (other ∙ sym one) ∙ always (tree_cmp m n) (side_givens m n)

-- ---- two variables

name_of : (s : Head) (x : List ℕ) → variable sort.Memory s ≡ Some x → s ≡ h.Var x sort.Memory
name_of (h.Var y sort.Int) x e = absurd cc
name_of (h.Var y sort.Memory) x e = let s : y ≡ x = cc in ap (λ z. h.Var z sort.Memory) s
name_of (h.Var y sort.Table) x e = absurd cc
name_of (h.Num z) x e = absurd cc
name_of (h.Term o) x e = absurd cc
name_of h.Ite x e = absurd cc
name_of (h.App f) x e = absurd cc
name_of (h.Form o) x e = absurd cc
name_of h.True x e = absurd cc
name_of h.False x e = absurd cc
name_of h.Not x e = absurd cc
name_of h.And x e = absurd cc
name_of h.Or x e = absurd cc
name_of h.Imp x e = absurd cc
name_of h.Iff x e = absurd cc
name_of (h.Forall y) x e = absurd cc
name_of (h.Exists y) x e = absurd cc

alone : (head : Head) (ts : Trees) (x : List ℕ) → head ≡ h.Var x sort.Memory → is_well_formed (node head ts) ≡ true → node head ts ≡ node (h.Var x sort.Memory) stop
alone head ts x e w = go ts (ap (λ k. is_well_formed (node k ts)) (sym e) ∙ w) ∙ refl
  where
    go : (us : Trees) → is_well_formed (node (h.Var x sort.Memory) us) ≡ true → node head us ≡ node (h.Var x sort.Memory) stop
    go stop v = ap (λ k. node k stop) e
    go (more u us) v = let n : false ≡ true = and_right (may_stand mem (h.Var x sort.Memory)) false v in absurd cc

variable_is : (t : Tree) (x : List ℕ) → variable sort.Memory (head_of t) ≡ Some x → is_well_formed t ≡ true → t ≡ node (h.Var x sort.Memory) stop
variable_is (node head ts) x e w = alone head ts x (name_of head x e) w

then_equal : (o : Ordering) → ordering_then o Equal ≡ o
then_equal Less = refl
then_equal Equal = refl
then_equal Greater = refl

by_names : (x y : List ℕ) → tree_cmp (node (h.Var x sort.Memory) stop) (node (h.Var y sort.Memory) stop) ≡ slice_cmp nat_cmp x y
unfolding tree_cmp
by_names x y = then_equal (slice_cmp nat_cmp x y)

two_variables : (m n : Tree) (x y : List ℕ) → variable sort.Memory (head_of m) ≡ Some x → variable sort.Memory (head_of n) ≡ Some y → is_well_formed m ≡ true → is_well_formed n ≡ true
    → same_givens m n ≡ (if at_order (slice_cmp nat_cmp x y) true false false then side_givens n m else side_givens m n)
two_variables m n x y e f v w =
    let order : tree_cmp m n ≡ slice_cmp nat_cmp x y = (λ i. tree_cmp (variable_is m x e v i) (variable_is n y f w i)) ∙ by_names x y in
    ap (λ o. at_order o (side_givens n m) (side_givens m n) (side_givens m n)) order ∙ by_test (slice_cmp nat_cmp x y) (side_givens n m) (side_givens m n)

module _ (m n : Tree) (v : is_well_formed m ≡ true) (w : is_well_formed n ≡ true) where
  sides_by : (o p : Option (List ℕ)) → variable sort.Memory (head_of m) ≡ o → variable sort.Memory (head_of n) ≡ p → same_givens m n ≡ (if is_second_later o p then side_givens n m else side_givens m n)
  sides_by None p e f = first_plain m n e
  sides_by (Some x) None e f = second_plain m n f
  sides_by (Some x) (Some y) e f = two_variables m n x y e f v w

  pub sides_told : (b : Bool) → b ≡ is_second_later (variable sort.Memory (head_of m)) (variable sort.Memory (head_of n)) → same_givens m n ≡ (if b then side_givens n m else side_givens m n)
  sides_told b e = sides_by _ _ refl refl ∙ ap (λ c. if c then side_givens n m else side_givens m n) (sym e)
