-- Each rule keeps the meaning.
use Rattle.std.proofs.Common.{◌≡◌, inl, inr, Bool, true, false, ◌&&◌, cond, ℤ, pos, negsuc, ◌+ℤ◌, ◌-ℤ◌, int_le, List, [], ◌∷◌, length, refl, sym, ◌∙◌, ap, subst, arith}
use Rattle.std.proofs.lemmas.Int.{ints}
use Rattle.std.proofs.lemmas.Bool.Decides.{Decides-int_eq}
use Rattle.std.specs.Prelude.{Option, Some, None}
use Rattle.std.specs.Ordering.{int_eq}
use Rattle.wp_base.specs.declared.kinds.CellKind.{CellKind}
use Rattle.wp_base.specs.declared.kinds.Layout.{Layout}
use Rattle.wp_base.specs.Blocks.{Block, ended, Table, count, block_at, block_cells, is_live_block, may_write, has_cell, cells_of, block_of, grow}
use Rattle.qed_terms.specs.declared.head.Head.{Head}
use Rattle.qed_terms.specs.declared.head.Head.TheVariants as h
use Rattle.qed_terms.specs.declared.head.TermOp.TheVariants as op
use Rattle.qed_terms.specs.declared.head.FormOp.TheVariants as rel
use Rattle.qed_terms.specs.declared.head.Sort.TheVariants as sort
use Rattle.qed_terms.specs.Tree.{Tree, node, Trees, stop, more, head_of, one, false_tree}
use Rattle.qed_terms.specs.Memory.{Memory, Entry, is_at, load, store}
use Rattle.qed_terms.specs.Meaning.{World, Values, Value, Whole, Truth, Cells, Blocks, whole, memory, table, value, meaning, meanings}
use Rattle.qed_terms.specs.Operators.{is_zero}
use Rattle.qed_terms.proofs.Total.{same_exact}
use Rattle.qed_linear.specs.Linear.{Lin, is_number, checked, subtract, to_lin, is_integer}
use Rattle.qed_linear.proofs.Facts.{zero_is, and_left, and_right}
use Rattle.qed_linear.proofs.Values.{value_of, subtract_value, checked_value, number_value, to_lin_value, of_lin_value}
use Rattle.qed_numbers.specs.Numbers.{Rule}
use Rattle.qed_numbers.proofs.Tests.{then_some_is, or_either, AllOf, first_one}
use Rattle.qed_numbers.proofs.Keeps.{integer_whole}
use Rattle.qed_memories.specs.Alike.{SameMap, Alike}
use Rattle.qed_memories.specs.Laws.{MemoriesKeepMeaning}
use Rattle.qed_memories.specs.Memories as spec
use Rattle.qed_memories.specs.Memories.{number_of, number_where, difference, apart, is_zero_where, is_from_zero, is_up_to_zero, or_offsets, is_address, load_tree, store_tree, loaded, where_same, count_tree, one_more, normal_count, grow_tree, is_table, is_count_of, is_own_count, asks, asked, at_block, over_grown, over_made, over_none, has_cell_tree, cell_count, layout_answer, past_count, layout_or_below, is_no_block, no_answer, memory_rules, memory_step}
use Rattle.qed_memories.proofs.Growth.{grow_twice, grow_own, alloc_count, grown_block, last_block, other_block, low_block, high_block}
use Rattle.qed_memories.proofs.Maps.{load_at}
use Rattle.qed_memories.proofs.Placed.{cell_answer, repeated_length}

alike_itself : (v : Value) → Alike v v
alike_itself (Whole z) = refl
alike_itself (Truth b) = refl
alike_itself (Cells m) = λ b o. refl
alike_itself (Blocks t) = refl

pub alike_where : (v w : Value) → v ≡ w → Alike v w
alike_where v w e = subst (Alike v) e (alike_itself v)

pub alike_then : (u v w : Value) → Alike u v → Alike v w → Alike u w
alike_then (Cells l) (Cells m) (Cells n) a b = λ x y. a x y ∙ b x y
alike_then (Cells l) (Cells m) (Whole z) a b = absurd b
alike_then (Cells l) (Cells m) (Truth z) a b = absurd b
alike_then (Cells l) (Cells m) (Blocks z) a b = absurd b
alike_then (Cells l) (Whole z) w a b = absurd a
alike_then (Cells l) (Truth z) w a b = absurd a
alike_then (Cells l) (Blocks z) w a b = absurd a
alike_then (Whole z) v w a b = subst (λ u. Alike u w) (sym a) b
alike_then (Truth z) v w a b = subst (λ u. Alike u w) (sym a) b
alike_then (Blocks z) v w a b = subst (λ u. Alike u w) (sym a) b

-- ---- addresses of a memory

abbrev store_entry : (b o z : ℤ) → Entry
store_entry b o z = record { block = b; offset = o; value = z }

is_here : (b o : ℤ) (e : Entry) → e.block ≡ b → e.offset ≡ o → is_at b o e ≡ true
is_here b o e p q = let x = (Decides-int_eq (e.block) b).1 p in let y = (Decides-int_eq (e.offset) o).1 q in λ i. x i && y i

is_elsewhere : (b o : ℤ) (e : Entry) → ((b ≡ e.block) × (o ≡ e.offset) → ⊥) → is_at b o e ≡ false
is_elsewhere b o e n = go (is_at b o e) refl
  where
    go : (c : Bool) → is_at b o e ≡ c → c ≡ false
    go true k = absurd (n (sym ((Decides-int_eq (e.block) b).0 (and_left (int_eq (e.block) b) (int_eq (e.offset) o) k)), sym ((Decides-int_eq (e.offset) o).0 (and_right (int_eq (e.block) b) (int_eq (e.offset) o) k))))
    go false k = refl

load_here : (m : Memory) (b o b' o' z : ℤ) → b ≡ b' → o ≡ o' → load (store m b' o' z) b o ≡ z
load_here m b o b' o' z p q = let e = store_entry b' o' z in load_at m e b o ∙ ap (λ c. cond c z (load m b o)) (is_here b o e (sym p) (sym q))

load_below : (m : Memory) (b o b' o' z : ℤ) → ((b ≡ b') × (o ≡ o') → ⊥) → load (store m b' o' z) b o ≡ load m b o
load_below m b o b' o' z n = let e = store_entry b' o' z in load_at m e b o ∙ ap (λ c. cond c z (load m b o)) (is_elsewhere b o e n)

-- one store over another at its address
store_twice : (m : Memory) (b o b' o' z z' : ℤ) → b ≡ b' → o ≡ o' → SameMap (store m b o z) (store (store m b' o' z') b o z)
store_twice m b o b' o' z z' p q x y =
    let e = store_entry b o z in
    let e' = store_entry b' o' z' in
    let same : is_at x y e' ≡ is_at x y e = λ i. int_eq (sym p i) x && int_eq (sym q i) y in
    load_at m e x y ∙ go (is_at x y e) ∙ ap (λ l. cond (is_at x y e) z l) (sym (load_at m e' x y ∙ ap (λ c. cond c z' (load m x y)) same)) ∙ sym (load_at (store m b' o' z') e x y)
  where
    go : (c : Bool) → cond c z (load m x y) ≡ cond c z (cond c z' (load m x y))
    go true = refl
    go false = refl

abbrev asked_value : Head → Block → List Value → Value
asked_value (h.Form (rel.Read k)) b (v ∷ []) = Truth (has_cell k (block_cells b) (whole v))
asked_value (h.Form (rel.Write k)) b (v ∷ []) = Truth (has_cell k (block_cells b) (whole v) && may_write b)
asked_value (h.Form rel.Live) b [] = Truth (is_live_block b)
asked_value (h.Term op.Len) b [] = Whole (pos (length (block_cells b)))
asked_value head b vs = Truth false

no_cell : (k : CellKind) (z : ℤ) → has_cell k [] z ≡ false
no_cell k (pos n) = refl
no_cell k (negsuc n) = refl

and_none : (b : Bool) → b && false ≡ false
and_none true = refl
and_none false = refl

and_all : (b : Bool) → b && true ≡ b
and_all true = refl
and_all false = refl

module _ (world : World) (env : Values) where
  abbrev M : Tree → Value
  M = meaning world env

  abbrev V : Tree → ℤ
  V = value world env

  abbrev T : Tree → Table
  T t = table (M t)

  abbrev F : Lin → ℤ
  F = value_of world env

  -- ---- terms that differ by a number

  pub difference_value : (f g : Lin) (z : ℤ) → difference f g ≡ Some z → F f -ℤ F g ≡ z
  unfolding difference
  difference_value f g z k = go (checked (subtract f g)) refl k
    where
      go : (o : Option Lin) → checked (subtract f g) ≡ o → number_where o ≡ Some z → F f -ℤ F g ≡ z
      go None e q = absurd cc
      go (Some l) e q = of (is_number l) refl q
        where
          of : (b : Bool) → is_number l ≡ b → cond b (Some (l.constant)) None ≡ Some z → F f -ℤ F g ≡ z
          of true n r = let same : l.constant ≡ z = cc in sym (subtract_value world env f g) ∙ sym (checked_value world env (subtract f g) l e) ∙ number_value world env l n ∙ same
          of false n r = absurd cc

  known_value : (f g : Lin) (b : Bool) → is_zero_where (difference f g) ≡ Some b → is_zero (F f -ℤ F g) ≡ b
  known_value f g b k = go (difference f g) refl k
    where
      go : (o : Option ℤ) → difference f g ≡ o → is_zero_where o ≡ Some b → is_zero (F f -ℤ F g) ≡ b
      go None e q = absurd cc
      go (Some z) e q = let same : is_zero z ≡ b = cc in ap is_zero (difference_value f g z e) ∙ same

  zero_same : (f g : Lin) → is_zero_where (difference f g) ≡ Some true → F f ≡ F g
  zero_same f g k = let z = zero_is (F f -ℤ F g) (known_value f g true k) in omega (arith, ints, z)

  not_same : (f g : Lin) → is_zero_where (difference f g) ≡ Some false → F f ≡ F g → ⊥
  not_same f g k e =
      let z : F f -ℤ F g ≡ pos 0 = omega (arith, ints, e) in
      let t = ap is_zero z in
      let n = known_value f g false k in
      absurd cc

  from_zero_value : (f g : Lin) → is_from_zero (difference f g) ≡ true → int_le (pos 0) (F f -ℤ F g) ≡ true
  from_zero_value f g k = go (difference f g) refl k
    where
      go : (o : Option ℤ) → difference f g ≡ o → is_from_zero o ≡ true → int_le (pos 0) (F f -ℤ F g) ≡ true
      go None e q = absurd cc
      go (Some z) e q = ap (int_le (pos 0)) (difference_value f g z e) ∙ q

  -- two addresses that are known to be the same, or not to be
  address_known : (f g : Lin) (b o : Tree) → is_address f g b o ≡ Some true → (F f ≡ V b) × (F g ≡ V o)
  unfolding is_address
  address_known f g b o k = go (is_zero_where (difference f (to_lin b))) refl k
    where
      go : (x : Option Bool) → is_zero_where (difference f (to_lin b)) ≡ x → or_offsets x (is_zero_where (difference g (to_lin o))) ≡ Some true → (F f ≡ V b) × (F g ≡ V o)
      go None e q = absurd cc
      go (Some true) e q = (zero_same f (to_lin b) e ∙ to_lin_value world env b, zero_same g (to_lin o) q ∙ to_lin_value world env o)
      go (Some false) e q = absurd cc

  address_other : (f g : Lin) (b o : Tree) → is_address f g b o ≡ Some false → (F f ≡ V b) × (F g ≡ V o) → ⊥
  unfolding is_address
  address_other f g b o k s = go (is_zero_where (difference f (to_lin b))) refl k
    where
      go : (x : Option Bool) → is_zero_where (difference f (to_lin b)) ≡ x → or_offsets x (is_zero_where (difference g (to_lin o))) ≡ Some false → ⊥
      go None e q = absurd cc
      go (Some true) e q = not_same g (to_lin o) q (s.1 ∙ sym (to_lin_value world env o))
      go (Some false) e q = not_same f (to_lin b) e (s.0 ∙ sym (to_lin_value world env b))

  own_value : (t : Tree) → F (to_lin t) ≡ V t
  own_value t = to_lin_value world env t

  -- ---- memories

  abbrev Keeps : Rule → Type 0
  Keeps r = (head : Head) (ts : Trees) (w : Tree) → r head ts ≡ Some w → Alike (M w) (M (node head ts))

  loaded_means : (m b o b' o' v w : Tree) → loaded (is_address (to_lin b) (to_lin o) b' o') v (load_tree m b o) ≡ Some w → M w ≡ M (load_tree (store_tree m b' o' v) b o)
  loaded_means m b o b' o' v w k = go (is_address (to_lin b) (to_lin o) b' o') refl k
    where
      mm : Memory
      mm = memory (M m)

      go : (x : Option Bool) → is_address (to_lin b) (to_lin o) b' o' ≡ x → loaded x v (load_tree m b o) ≡ Some w → M w ≡ M (load_tree (store_tree m b' o' v) b o)
      go None e q = absurd cc
      go (Some true) e q =
          let p = then_some_is (is_integer (head_of v)) v w q in
          let s = address_known (to_lin b) (to_lin o) b' o' e in
          ap M (sym p.1) ∙ integer_whole world env v p.0 ∙ ap Whole (sym (load_here (memory (M m)) (V b) (V o) (V b') (V o') (V v) (sym (own_value b) ∙ s.0) (sym (own_value o) ∙ s.1)))
      go (Some false) e q =
          let same : load_tree m b o ≡ w = cc in
          let n = address_other (to_lin b) (to_lin o) b' o' e in
          ap M (sym same) ∙ ap Whole (sym (load_below (memory (M m)) (V b) (V o) (V b') (V o') (V v) (λ d. n (own_value b ∙ d.0, own_value o ∙ d.1))))

  load_over_means : (m b o w : Tree) → spec.load_over m b o ≡ Some w → M w ≡ M (load_tree m b o)
  load_over_means (node (h.Term op.Store) (more m (more b' (more o' (more v stop))))) b o w k = loaded_means m b o b' o' v w k
  load_over_means m b o w k = absurd cc

  keeps_load : Keeps spec.load_rule
  keeps_load (h.Term op.Load) (more m (more b (more o stop))) w k = alike_where (M w) (M (load_tree m b o)) (load_over_means m b o w k)
  keeps_load head ts w k = absurd cc

  stored_means : (m b o v b' o' v' w : Tree) → where_same (is_address (to_lin b) (to_lin o) b' o') (store_tree m b o v) ≡ Some w → Alike (M w) (M (store_tree (store_tree m b' o' v') b o v))
  stored_means m b o v b' o' v' w k = go (is_address (to_lin b) (to_lin o) b' o') refl k
    where
      go : (x : Option Bool) → is_address (to_lin b) (to_lin o) b' o' ≡ x → where_same x (store_tree m b o v) ≡ Some w → Alike (M w) (M (store_tree (store_tree m b' o' v') b o v))
      go None e q = absurd cc
      go (Some true) e q =
          let same : store_tree m b o v ≡ w = cc in
          let s = address_known (to_lin b) (to_lin o) b' o' e in
          subst (λ u. Alike (M u) (M (store_tree (store_tree m b' o' v') b o v))) same
          (store_twice (memory (M m)) (V b) (V o) (V b') (V o') (V v) (V v') (sym (own_value b) ∙ s.0) (sym (own_value o) ∙ s.1))
      go (Some false) e q = absurd cc

  store_over_means : (m b o v w : Tree) → spec.store_over m b o v ≡ Some w → Alike (M w) (M (store_tree m b o v))
  store_over_means (node (h.Term op.Store) (more m (more b' (more o' (more v' stop))))) b o v w k = stored_means m b o v b' o' v' w k
  store_over_means m b o v w k = absurd cc

  keeps_store : Keeps spec.store_rule
  keeps_store (h.Term op.Store) (more m (more b (more o (more v stop)))) w k = store_over_means m b o v w k
  keeps_store head ts w k = absurd cc

  -- ---- tables

  one_more_means : (t : Tree) → V (one_more (count_tree t)) ≡ count (T t) +ℤ pos 1
  one_more_means t = omega (arith, ints)

  count_over_means : (t w : Tree) → spec.count_over t ≡ Some w → M w ≡ M (count_tree t)
  count_over_means (node (h.Term (op.Alloc l)) (more t stop)) w k =
      let same : one_more (count_tree t) ≡ w = cc in
      ap M (sym same) ∙ ap Whole (one_more_means t ∙ sym (alloc_count (T t) l))
  count_over_means t w k = absurd cc

  keeps_count : Keeps spec.count_rule
  keeps_count (h.Term op.Count) (more t stop) w k = alike_where (M w) (M (count_tree t)) (count_over_means t w k)
  keeps_count head ts w k = absurd cc

  -- the normal form of a count means the count
  count_value : (t : Tree) → V (normal_count t) ≡ count (T t)
  unfolding normal_count
  count_value (node (h.Term (op.Alloc l)) (more t stop)) =
      of_lin_value world env (to_lin (one_more (normal_count t))) ∙ own_value (one_more (normal_count t))
      ∙ raised_value (V (normal_count t)) (count (T t)) (count_value t) ∙ sym (alloc_count (T t) l)
    where
      raised_value : (x y : ℤ) → x ≡ y → x +ℤ (pos 1 +ℤ pos 0) ≡ y +ℤ pos 1
      raised_value x y e = omega (arith, ints, e)
  count_value t = refl

  grow_over_means : (t v w : Tree) → spec.grow_over t v ≡ Some w → M w ≡ M (grow_tree t v)
  grow_over_means (node (h.Term op.Grow) (more t (more u stop))) v w k =
      let p = then_some_is (is_from_zero (apart v u)) (grow_tree t v) w k in
      let d = from_zero_value (to_lin v) (to_lin u) p.0 in
      let e : F (to_lin v) -ℤ F (to_lin u) ≡ V v -ℤ V u = λ i. own_value v i -ℤ own_value u i in
      ap M (sym p.1) ∙ ap Blocks (sym (grow_twice (T t) (V u) (V v) (sym (ap (int_le (pos 0)) e) ∙ d)))
  grow_over_means t v w k = absurd cc

  keeps_grow : Keeps spec.grow_rule
  keeps_grow (h.Term op.Grow) (more t (more u stop)) w k = alike_where (M w) (M (grow_tree t u)) (grow_over_means t u w k)
  keeps_grow head ts w k = absurd cc

  table_blocks : (t : Tree) → is_table (head_of t) ≡ true → M t ≡ Blocks (T t)
  table_blocks (node (h.Var x sort.Table) ts) k = refl
  table_blocks (node (h.Term (op.Alloc l)) ts) k = refl
  table_blocks (node (h.Term op.Grow) ts) k = refl
  table_blocks (node (h.Var x sort.Int) ts) k = absurd cc
  table_blocks (node (h.Var x sort.Memory) ts) k = absurd cc
  table_blocks (node (h.Term o) ts) k = absurd cc
  table_blocks (node head ts) k = absurd cc

  own_count_value : (t u : Tree) → is_count_of t u ≡ true → V u ≡ count (T t)
  own_count_value t (node (h.Term op.Count) (more u stop)) k = ap (λ x. count (T x)) (sym (same_exact t u k))
  own_count_value t u k = absurd cc

  keeps_no_growth : Keeps spec.no_growth_rule
  keeps_no_growth (h.Term op.Grow) (more t (more u stop)) w k =
      let p = then_some_is (is_own_count t u) t w k in
      let c = own_count_value t u (and_left (is_count_of t u) (is_table (head_of t)) p.0) in
      let b = table_blocks t (and_right (is_count_of t u) (is_table (head_of t)) p.0) in
      alike_where (M w) (M (grow_tree t u)) (ap M (sym p.1) ∙ b ∙ ap Blocks (sym (ap (grow (T t)) c ∙ grow_own (T t))))
  keeps_no_growth head ts w k = absurd cc

  -- ---- blocks

  asked_means : (head : Head) (t b : Tree) (ts : Trees) → asks head ts ≡ true → M (asked head t b ts) ≡ asked_value head (block_at (T t) (V b)) (meanings world env ts)
  asked_means (h.Form (rel.Read k)) t b (more o stop) e = refl
  asked_means (h.Form (rel.Write k)) t b (more o stop) e = refl
  asked_means (h.Form rel.Live) t b stop e = refl
  asked_means (h.Term op.Len) t b stop e = refl
  asked_means head t b ts e = absurd cc

  no_answer_means : (head : Head) (ts : Trees) → asks head ts ≡ true → M (no_answer head) ≡ asked_value head ended (meanings world env ts)
  no_answer_means (h.Form (rel.Read k)) (more o stop) e = ap Truth (sym (no_cell k (V o)))
  no_answer_means (h.Form (rel.Write k)) (more o stop) e = ap Truth (sym (and_none (has_cell k [] (V o))))
  no_answer_means (h.Form rel.Live) stop e = refl
  no_answer_means (h.Term op.Len) stop e = refl
  no_answer_means head ts e = absurd cc

  written_means : (l : Layout) (k : CellKind) (o : Tree) (b : Bool) → M (cond b (has_cell_tree l k o) false_tree) ≡ Truth (has_cell k (cells_of l) (V o) && b)
  written_means l k o true = ap Truth (cell_answer world env l k o ∙ sym (and_all (has_cell k (cells_of l) (V o))))
  written_means l k o false = ap Truth (sym (and_none (has_cell k (cells_of l) (V o))))

  layout_means : (l : Layout) (head : Head) (ts : Trees) → asks head ts ≡ true → M (layout_answer l head ts) ≡ asked_value head (block_of l) (meanings world env ts)
  layout_means l (h.Form (rel.Read k)) (more o stop) e = ap Truth (cell_answer world env l k o)
  layout_means l (h.Form (rel.Write k)) (more o stop) e = written_means l k o l.writable
  layout_means l (h.Form rel.Live) stop e = refl
  layout_means l (h.Term op.Len) stop e = ap (λ n. Whole (pos n)) (sym (repeated_length l.count l.cells))
  layout_means l head ts e = absurd cc

  abbrev KeepsAsked : (Head → (table block : Tree) → Trees → Option Tree) → Type 0
  KeepsAsked rule = (head : Head) (t b : Tree) (ts : Trees) (w : Tree) → asks head ts ≡ true → rule head t b ts ≡ Some w → M w ≡ M (asked head t b ts)

  through_block : (head : Head) (t u b : Tree) (ts : Trees) → asks head ts ≡ true → block_at (T t) (V b) ≡ block_at (T u) (V b) → M (asked head t b ts) ≡ M (asked head u b ts)
  through_block head t u b ts a e = asked_means head t b ts a ∙ ap (λ x. asked_value head x (meanings world env ts)) e ∙ sym (asked_means head u b ts a)

  keeps_grown : KeepsAsked over_grown
  keeps_grown head (node (h.Term op.Grow) (more t (more u stop))) b ts w a k =
      let same : asked head t b ts ≡ w = cc in
      ap M (sym same) ∙ through_block head t (grow_tree t u) b ts a (sym (grown_block (T t) (V u) (V b)))
  keeps_grown head t b ts w a k = absurd cc

  past_known : (b t : Tree) (x : Bool) → is_zero_where (past_count (to_lin b) t) ≡ Some x → is_zero (V b -ℤ count (T t)) ≡ x
  unfolding past_count
  past_known b t x k =
      let e : F (to_lin b) -ℤ F (to_lin (normal_count t)) ≡ V b -ℤ count (T t) = λ i. own_value b i -ℤ (own_value (normal_count t) ∙ count_value t) i in
      sym (ap is_zero e) ∙ known_value (to_lin b) (to_lin (normal_count t)) x k

  past_from_zero : (b t : Tree) → is_from_zero (past_count (to_lin b) t) ≡ true → int_le (pos 0) (V b -ℤ count (T t)) ≡ true
  unfolding past_count
  past_from_zero b t k =
      let e : F (to_lin b) -ℤ F (to_lin (normal_count t)) ≡ V b -ℤ count (T t) = λ i. own_value b i -ℤ (own_value (normal_count t) ∙ count_value t) i in
      sym (ap (int_le (pos 0)) e) ∙ from_zero_value (to_lin b) (to_lin (normal_count t)) k

  made_means : (head : Head) (l : Layout) (t b : Tree) (ts : Trees) (w : Tree) → asks head ts ≡ true → layout_or_below (is_zero_where (past_count (to_lin b) t)) (layout_answer l head ts) (asked head t b ts) ≡ Some w → M w ≡ M (asked head (node (h.Term (op.Alloc l)) (more t stop)) b ts)
  made_means head l t b ts w a k = go (is_zero_where (past_count (to_lin b) t)) refl k
    where
      go : (x : Option Bool) → is_zero_where (past_count (to_lin b) t) ≡ x → layout_or_below x (layout_answer l head ts) (asked head t b ts) ≡ Some w → M w ≡ M (asked head (node (h.Term (op.Alloc l)) (more t stop)) b ts)
      go None e q = absurd cc
      go (Some true) e q =
          let same : layout_answer l head ts ≡ w = cc in
          let z = zero_is (V b -ℤ count (T t)) (past_known b t true e) in
          let here : V b ≡ count (T t) = omega (arith, ints, z) in
          ap M (sym same) ∙ layout_means l head ts a ∙ ap (λ x. asked_value head x (meanings world env ts)) (sym (last_block (T t) l (V b) here)) ∙ sym (asked_means head (node (h.Term (op.Alloc l)) (more t stop)) b ts a)
      go (Some false) e q =
          let same : asked head t b ts ≡ w = cc in
          let n = past_known b t false e in
          ap M (sym same) ∙ through_block head t (node (h.Term (op.Alloc l)) (more t stop)) b ts a (sym (other_block (T t) l (V b) (λ d. elsewhere d n)))
        where
          elsewhere : V b ≡ count (T t) → is_zero (V b -ℤ count (T t)) ≡ false → ⊥
          elsewhere d n = let z : V b -ℤ count (T t) ≡ pos 0 = omega (arith, ints, d) in let t = ap is_zero z in absurd cc

  keeps_made : KeepsAsked over_made
  keeps_made head (node (h.Term (op.Alloc l)) (more t stop)) b ts w a k = made_means head l t b ts w a k
  keeps_made head t b ts w a k = absurd cc

  number_value_of : (f : Lin) → is_up_to_zero (number_of f) ≡ true → int_le (F f) (pos 0) ≡ true
  number_value_of f k = go (is_number f) refl k
    where
      go : (b : Bool) → is_number f ≡ b → is_up_to_zero (cond b (Some (f.constant)) None) ≡ true → int_le (F f) (pos 0) ≡ true
      go true e q = ap (λ z. int_le z (pos 0)) (number_value world env f e) ∙ q
      go false e q = absurd cc

  no_block_means : (t b : Tree) → is_no_block t (to_lin b) ≡ true → block_at (T t) (V b) ≡ ended
  unfolding is_no_block
  no_block_means t b k = elim (or_either (is_up_to_zero (number_of (to_lin b))) (is_from_zero (past_count (to_lin b) t)) k) [
    | inl e ↦ low_block (T t) (V b) (sym (ap (λ z. int_le z (pos 0)) (own_value b)) ∙ number_value_of (to_lin b) e)
    | inr e ↦ high_block (T t) (V b) (past_from_zero b t e)
  ]

  keeps_none : KeepsAsked over_none
  keeps_none head t b ts w a k =
      let p = then_some_is (is_no_block t (to_lin b)) (no_answer head) w k in
      ap M (sym p.1) ∙ no_answer_means head ts a ∙ ap (λ x. asked_value head x (meanings world env ts)) (sym (no_block_means t b p.0)) ∙ sym (asked_means head t b ts a)

  keeps_at_block : (rule : Head → (table block : Tree) → Trees → Option Tree) → KeepsAsked rule → Keeps (at_block rule)
  keeps_at_block rule keeps (h.Form (rel.Read k)) (more t (more b (more o stop))) w e = alike_where (M w) (M (asked (h.Form (rel.Read k)) t b (one o))) (keeps (h.Form (rel.Read k)) t b (one o) w refl e)
  keeps_at_block rule keeps (h.Form (rel.Write k)) (more t (more b (more o stop))) w e = alike_where (M w) (M (asked (h.Form (rel.Write k)) t b (one o))) (keeps (h.Form (rel.Write k)) t b (one o) w refl e)
  keeps_at_block rule keeps (h.Form rel.Live) (more t (more b stop)) w e = alike_where (M w) (M (asked (h.Form rel.Live) t b stop)) (keeps (h.Form rel.Live) t b stop w refl e)
  keeps_at_block rule keeps (h.Term op.Len) (more t (more b stop)) w e = alike_where (M w) (M (asked (h.Term op.Len) t b stop)) (keeps (h.Term op.Len) t b stop w refl e)
  keeps_at_block rule keeps head ts w e = absurd cc

  -- ---- all rules

  all_keep : AllOf Keeps memory_rules
  all_keep = (keeps_load, (keeps_store, (keeps_count, (keeps_grow, (keeps_no_growth, (keeps_at_block over_grown keeps_grown, (keeps_at_block over_made keeps_made, (keeps_at_block over_none keeps_none, tt))))))))

  pub step_keeps : (head : Head) (ts : Trees) (w : Tree) → memory_step head ts ≡ Some w → Alike (M w) (M (node head ts))
  step_keeps head ts w k = let r = first_one Keeps memory_rules all_keep head ts w k in r.1.0 head ts w r.1.1

pub memories_keep : MemoriesKeepMeaning
memories_keep head ts w k world env = step_keeps world env head ts w k
