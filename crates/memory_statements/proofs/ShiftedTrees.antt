-- Trees over leaves of one more level: where one more state stands first they mean what they meant.
use Rattle.std.proofs.Common.{◌≡◌, ℕ, ℤ, Bool, true, false, not, ◌&&◌, ◌||◌, if◌then◌else◌, List, [], ◌∷◌, map, refl, sym, ap, ap₂, ◌∙◌}
use Rattle.std.specs.Prelude.{◌-ℤ◌}
use Rattle.std.specs.List.{list_any}
use Rattle.std.specs.Str.{bytes_eq}
use Rattle.std.proofs.lemmas.Bool.{false≢true, and_parts}
use Rattle.std.proofs.lemmas.Slice.Eq.{bytes_eq-Decides}
use Rattle.wp_base.specs.Blocks.{to_nat}
use Rattle.qed_terms.specs.declared.head.Sort.TheVariants as sort
use Rattle.qed_terms.specs.declared.head.Head.{Head}
use Rattle.qed_terms.specs.declared.head.Head.TheVariants as h
use Rattle.qed_terms.specs.Tree.{Tree, node, Trees, stop, more, trees_of}
use Rattle.qed_terms.specs.Meaning as sense
use Rattle.qed_terms.specs.Meaning.{Value, Whole, Truth, Cells, Blocks, Values, with_int, chosen, all_from, some_from, each_true, some_true, at_one, at_two}
use Rattle.qed_terms.specs.Meaning.{at_three, head_value, term_value, form_truth, meaning, meanings, truth, value, whole, is_so}
use Rattle.typed_memories.proofs.Tests.{on_test}
use Rattle.memory_steps.specs.State.{State}
use Rattle.memory_words.specs.Leaves.{is_marked, is_closed, are_closed, is_closed_range, or_false, closed, leaves_of}

-- ---- names

-- a leaf of the level before, and a bound name as it is
abbrev pub later_name : List ℕ → List ℕ
later_name x = if is_marked x then x else 97 ∷ x

abbrev pub later_head : Head → Head
later_head (h.Var x sort.Int) = h.Var (later_name x) sort.Int
later_head (h.Var x s) = h.Var (97 ∷ x) s
later_head head = head

abbrev mutual
  pub later_tree : Tree → Tree
  later_tree (node head ts) = node (later_head head) (later_trees ts)

  pub later_trees : Trees → Trees
  later_trees stop = stop
  later_trees (more t ts) = more (later_tree t) (later_trees ts)

pub later_list : (ts : List Tree) → later_trees (trees_of ts) ≡ trees_of (map later_tree ts)
later_list [] = refl
later_list (t ∷ ts) = ap (more (later_tree t)) (later_list ts)

-- ---- closed trees

same_open : (x : List ℕ) (xs : List (List ℕ)) → (not (is_marked (later_name x)) || list_any (bytes_eq (later_name x)) xs) ≡ (not (is_marked x) || list_any (bytes_eq x) xs)
same_open x xs =
    on_test (is_marked x) (λ e. let same : later_name x ≡ x = ap (λ t. if t then x else 97 ∷ x) e in ap (λ y. not (is_marked y) || list_any (bytes_eq y) xs) same)
    (λ e. let same : later_name x ≡ 97 ∷ x = ap (λ t. if t then x else 97 ∷ x) e in
    ap (λ y. not (is_marked y) || list_any (bytes_eq y) xs) same ∙ ap (λ t. not t || list_any (bytes_eq (97 ∷ x)) xs) e
    ∙ sym (ap (λ t. not t || list_any (bytes_eq x) xs) e))

mutual
  pub later_closed : (t : Tree) (xs : List (List ℕ)) → is_closed xs (later_tree t) ≡ is_closed xs t
  later_closed (node (h.Num z) ts) xs = later_all_closed ts xs
  later_closed (node (h.Var x sort.Int) ts) xs = same_open x xs
  later_closed (node (h.Var x sort.Memory) ts) xs = refl
  later_closed (node (h.Var x sort.Table) ts) xs = refl
  later_closed (node (h.Term o) ts) xs = later_all_closed ts xs
  later_closed (node h.Ite ts) xs = later_all_closed ts xs
  later_closed (node (h.App f) ts) xs = later_all_closed ts xs
  later_closed (node (h.Form o) ts) xs = later_all_closed ts xs
  later_closed (node h.True ts) xs = later_all_closed ts xs
  later_closed (node h.False ts) xs = later_all_closed ts xs
  later_closed (node h.Not ts) xs = later_all_closed ts xs
  later_closed (node h.And ts) xs = later_all_closed ts xs
  later_closed (node h.Or ts) xs = later_all_closed ts xs
  later_closed (node h.Imp ts) xs = later_all_closed ts xs
  later_closed (node h.Iff ts) xs = later_all_closed ts xs
  later_closed (node (h.Forall x) ts) xs = ap (λ t. is_marked x && t) (later_range_closed ts xs x)
  later_closed (node (h.Exists x) ts) xs = ap (λ t. is_marked x && t) (later_range_closed ts xs x)

  later_all_closed : (ts : Trees) (xs : List (List ℕ)) → are_closed xs (later_trees ts) ≡ are_closed xs ts
  later_all_closed stop xs = refl
  later_all_closed (more t ts) xs = ap₂ (λ a b. a && b) (later_closed t xs) (later_all_closed ts xs)

  later_range_closed : (ts : Trees) (xs : List (List ℕ)) (x : List ℕ) → is_closed_range xs x (later_trees ts) ≡ is_closed_range xs x ts
  later_range_closed stop xs x = refl
  later_range_closed (more low stop) xs x = refl
  later_range_closed (more low (more high stop)) xs x = refl
  later_range_closed (more low (more high (more body stop))) xs x =
      ap₂ (λ a b. a && b) (ap₂ (λ a b. a && b) (later_closed low xs) (later_closed high xs)) (later_closed body (x ∷ xs))
  later_range_closed (more low (more high (more body (more t ts)))) xs x = refl

pub closed_later : (t : Tree) → closed (later_tree t) ≡ later_tree (closed t)
closed_later t = ap (λ b. or_false b (later_tree t)) (later_closed t []) ∙ by (is_closed [] t) where
  by : (b : Bool) → or_false b (later_tree t) ≡ later_tree (or_false b t)
  by true = refl
  by false = refl

-- ---- what they mean

not_later : (x y : List ℕ) → is_marked x ≡ true → is_marked y ≡ false → bytes_eq (97 ∷ y) x ≡ false
not_later x y marked unmarked =
    on_test (bytes_eq (97 ∷ y) x) (λ e. absurd (false≢true (sym unmarked ∙ ap is_marked ((bytes_eq-Decides (97 ∷ y) x).0 e) ∙ marked))) (λ e. e)

not_same : (x y : List ℕ) → is_marked x ≡ true → is_marked y ≡ false → bytes_eq y x ≡ false
not_same x y marked unmarked =
    on_test (bytes_eq y x) (λ e. absurd (false≢true (sym unmarked ∙ ap is_marked ((bytes_eq-Decides y x).0 e) ∙ marked))) (λ e. e)

-- the second values are those of the level before, and of bound names the same
record IsLater (env env' : Values) (xs : List (List ℕ)) : Type 0 where
  ints : (x : List ℕ) → is_marked x ≡ false → env'.ints (97 ∷ x) ≡ env.ints x
  bound : (x : List ℕ) → list_any (bytes_eq x) xs ≡ true → env'.ints x ≡ env.ints x
  memories : (x : List ℕ) → env'.memories (97 ∷ x) ≡ env.memories x
  tables : (x : List ℕ) → env'.tables (97 ∷ x) ≡ env.tables x

under : (env env' : Values) (xs : List (List ℕ)) (x : List ℕ) (z : ℤ) → is_marked x ≡ true → IsLater env env' xs → IsLater (with_int env x z) (with_int env' x z) (x ∷ xs)
under env env' xs x z marked is = record { ints = ints; bound = bound; memories = is.memories; tables = is.tables } where
  ints : (y : List ℕ) → is_marked y ≡ false → (if bytes_eq (97 ∷ y) x then z else env'.ints (97 ∷ y)) ≡ (if bytes_eq y x then z else env.ints y)
  ints y unmarked =
      ap (λ t. if t then z else env'.ints (97 ∷ y)) (not_later x y marked unmarked) ∙ is.ints y unmarked ∙ sym (ap (λ t. if t then z else env.ints y) (not_same x y marked unmarked))

  bound : (y : List ℕ) → list_any (bytes_eq y) (x ∷ xs) ≡ true → (if bytes_eq y x then z else env'.ints y) ≡ (if bytes_eq y x then z else env.ints y)
  bound y k = by (bytes_eq y x) k where
    by : (t : Bool) → (t || list_any (bytes_eq y) xs) ≡ true → (if t then z else env'.ints y) ≡ (if t then z else env.ints y)
    by true k = refl
    by false k = is.bound y k

int_means : (env env' : Values) (xs : List (List ℕ)) (x : List ℕ) → (not (is_marked x) || list_any (bytes_eq x) xs) ≡ true → IsLater env env' xs
    → env'.ints (later_name x) ≡ env.ints x
int_means env env' xs x so is =
    on_test (is_marked x)
    (λ e. ap (λ t. env'.ints (if t then x else 97 ∷ x)) e ∙ is.bound x (sym (ap (λ t. not t || list_any (bytes_eq x) xs) e) ∙ so))
    (λ e. ap (λ t. env'.ints (if t then x else 97 ∷ x)) e ∙ is.ints x e)

module _ (m : sense.World) where
  record RangeParts (xs : List (List ℕ)) (x : List ℕ) (low high body : Tree) : Type 0 where
    marked : is_marked x ≡ true
    low_closed : is_closed xs low ≡ true
    high_closed : is_closed xs high ≡ true
    body_closed : is_closed (x ∷ xs) body ≡ true

  range_parts : (xs : List (List ℕ)) (x : List ℕ) (low high body : Tree) → (is_marked x && is_closed_range xs x (more low (more high (more body stop)))) ≡ true
      → RangeParts xs x low high body
  range_parts xs x low high body c =
      let both = and_parts (is_marked x) (is_closed_range xs x (more low (more high (more body stop)))) c in
      let all = and_parts (is_closed xs low && is_closed xs high) (is_closed (x ∷ xs) body) both.1 in
      let ends = and_parts (is_closed xs low) (is_closed xs high) all.0 in
      record { marked = both.0; low_closed = ends.0; high_closed = ends.1; body_closed = all.1 }

  mutual
    means : (t : Tree) (env env' : Values) (xs : List (List ℕ)) → is_closed xs t ≡ true → IsLater env env' xs → meaning m env' (later_tree t) ≡ meaning m env t
    means (node (h.Num z) ts) env env' xs c is = refl
    means (node (h.Var x sort.Int) ts) env env' xs c is = ap Whole (int_means env env' xs x c is)
    means (node (h.Var x sort.Memory) ts) env env' xs c is = ap Cells (is.memories x)
    means (node (h.Var x sort.Table) ts) env env' xs c is = ap Blocks (is.tables x)
    means (node (h.Term o) ts) env env' xs c is = ap (term_value m o) (all_mean ts env env' xs c is)
    means (node h.Ite ts) env env' xs c is = ap (head_value m env h.Ite) (all_mean ts env env' xs c is)
    means (node (h.App f) ts) env env' xs c is = ap (head_value m env (h.App f)) (all_mean ts env env' xs c is)
    means (node (h.Form o) ts) env env' xs c is = ap (head_value m env (h.Form o)) (all_mean ts env env' xs c is)
    means (node h.True ts) env env' xs c is = refl
    means (node h.False ts) env env' xs c is = refl
    means (node h.Not ts) env env' xs c is = ap (head_value m env h.Not) (all_mean ts env env' xs c is)
    means (node h.And ts) env env' xs c is = ap (head_value m env h.And) (all_mean ts env env' xs c is)
    means (node h.Or ts) env env' xs c is = ap (head_value m env h.Or) (all_mean ts env env' xs c is)
    means (node h.Imp ts) env env' xs c is = ap (head_value m env h.Imp) (all_mean ts env env' xs c is)
    means (node h.Iff ts) env env' xs c is = ap (head_value m env h.Iff) (all_mean ts env env' xs c is)
    means (node (h.Forall x) stop) env env' xs c is = refl
    means (node (h.Forall x) (more low stop)) env env' xs c is = refl
    means (node (h.Forall x) (more low (more high stop))) env env' xs c is = refl
    means (node (h.Forall x) (more low (more high (more body stop)))) env env' xs c is =
        let parts = range_parts xs x low high body c in
        let from = ap whole (means low env env' xs parts.low_closed is) in
        let to = ap whole (means high env env' xs parts.high_closed is) in
        λ i. Truth (all_from (from i) (to_nat (to i -ℤ from i))
        (λ z. is_so (means body (with_int env x z) (with_int env' x z) (x ∷ xs) parts.body_closed (under env env' xs x z parts.marked is) i)))
    means (node (h.Forall x) (more low (more high (more body (more t ts))))) env env' xs c is = refl
    means (node (h.Exists x) stop) env env' xs c is = refl
    means (node (h.Exists x) (more low stop)) env env' xs c is = refl
    means (node (h.Exists x) (more low (more high stop))) env env' xs c is = refl
    means (node (h.Exists x) (more low (more high (more body stop)))) env env' xs c is =
        let parts = range_parts xs x low high body c in
        let from = ap whole (means low env env' xs parts.low_closed is) in
        let to = ap whole (means high env env' xs parts.high_closed is) in
        λ i. Truth (some_from (from i) (to_nat (to i -ℤ from i))
        (λ z. is_so (means body (with_int env x z) (with_int env' x z) (x ∷ xs) parts.body_closed (under env env' xs x z parts.marked is) i)))
    means (node (h.Exists x) (more low (more high (more body (more t ts))))) env env' xs c is = refl

    all_mean : (ts : Trees) (env env' : Values) (xs : List (List ℕ)) → are_closed xs ts ≡ true → IsLater env env' xs → meanings m env' (later_trees ts) ≡ meanings m env ts
    all_mean stop env env' xs c is = refl
    all_mean (more t ts) env env' xs c is =
        let both = and_parts (is_closed xs t) (are_closed xs ts) c in ap₂ (λ v vs. v ∷ vs) (means t env env' xs both.0 is) (all_mean ts env env' xs both.1 is)

  leaves_later : (st : State) (sts : List State) → IsLater (leaves_of sts) (leaves_of (st ∷ sts)) []
  leaves_later st sts = record { ints = λ x e. refl; bound = λ x e. absurd (false≢true e); memories = λ x. refl; tables = λ x. refl }

  pub later_meaning : (st : State) (sts : List State) (t : Tree) → is_closed [] t ≡ true → meaning m (leaves_of (st ∷ sts)) (later_tree t) ≡ meaning m (leaves_of sts) t
  later_meaning st sts t c = means t (leaves_of sts) (leaves_of (st ∷ sts)) [] c (leaves_later st sts)

  pub later_truth : (st : State) (sts : List State) (t : Tree) → truth m (leaves_of (st ∷ sts)) (closed (later_tree t)) ≡ truth m (leaves_of sts) (closed t)
  later_truth st sts t = ap (truth m (leaves_of (st ∷ sts))) (closed_later t) ∙ by (is_closed [] t) refl where
    by : (b : Bool) → is_closed [] t ≡ b → truth m (leaves_of (st ∷ sts)) (later_tree (or_false b t)) ≡ truth m (leaves_of sts) (or_false b t)
    by true e = ap is_so (later_meaning st sts t e)
    by false e = refl
