-- The rows at tables: cells that are read and written, and what layouts answer.
use Rattle.std.proofs.Common.{◌≡◌, ℕ, zero, suc, ◌<◌, Bool, true, false, not, ◌&&◌, ◌||◌, cond, refl, sym, ◌∙◌, ap, arith}
use Rattle.std.specs.Prelude.{ℤ, pos, negsuc, ◌≤ℤ◌, ◌<ℤ◌, int_lt, int_le, List, [], ◌∷◌, length, slice_get, Option, Some, None}
use Rattle.std.proofs.lemmas.Int.{ints}
use Rattle.wp_base.specs.declared.kinds.CellKind.{CellKind}
use Rattle.wp_base.specs.declared.kinds.Layout.{Layout}
use Rattle.wp_base.specs.Blocks.{Block, ended, live, Table, count, or_ended, block_at, block_cells, is_live_block, may_write, is_live, len, is_cell, is_some_cell, has_cell, cells_of, block_of, same_cells, same_truth, same_cell, is_block, has_layout}
use Rattle.qed_terms.specs.declared.head.Head.{Head}
use Rattle.qed_terms.specs.declared.head.Head.TheVariants as h
use Rattle.qed_terms.specs.declared.head.TermOp.TheVariants as op
use Rattle.qed_terms.specs.declared.head.FormOp.TheVariants as form
use Rattle.qed_terms.specs.Meaning.{World, Values, Value, Whole, Truth, truth, value, meaning, meanings, whole, table, is_so}
use Rattle.qed_terms.specs.Operators.{is_equal}
use Rattle.qed_terms.specs.Order.{same}
use Rattle.qed_terms.specs.Tree.{Tree, node, Trees, stop, more, one, false_tree}
use Rattle.qed_memories.specs.Memories.{asks, asked, layout_answer, has_cell_tree}
use Rattle.branches.specs.Branch.{AreTrue}
use Rattle.instance_rows.specs.Rows.{read_of_write, place_of_read, at_asked, answers, alloc_tree, answer_by_block, answer_of_made, answer_of_alloc}
use Rattle.instance_rows.specs.PairRows.{answer_by_layout, answer_where_same, answer_of_layout}
use Rattle.instance_rows.specs.Laws.{RowIsValid, PairRowIsValid}
use Rattle.instance_rows.proofs.Below.{Below}
use Rattle.instance_rows.proofs.Tests.{first, both, and_left, and_right, alone, le_so, lt_so, equal_so, equal_fact}

-- ---- a cell that may be written may be read

either_way : (a b : Bool) → (not (a && b) || (a || false)) ≡ true
either_way true true = refl
either_way true false = refl
either_way false b = refl

pub writes_valid : (w : World) → RowIsValid w read_of_write
writes_valid w (h.Form (form.Write k)) (more t (more b (more o stop))) env =
    (either_way (is_cell k (table (meaning w env t)) (value w env b) (value w env o)) _, tt)
writes_valid w head ts env = tt

-- ---- where a cell is

pub record Placed (t : Table) (b o : ℤ) : Type 0 where
  pub live_there : is_live t b ≡ true
  pub from_zero : pos 0 ≤ℤ o
  pub below_len : o <ℤ len t b
  pub from_one : pos 1 ≤ℤ b
  pub below_count : b <ℤ count t

some_below : {A : Type 0} (xs : List A) (n : ℕ) (x : A) → slice_get xs n ≡ Some x → n < length xs
some_below [] n x e = absurd cc
some_below (y ∷ xs) zero x e = omega arith
some_below (y ∷ xs) (suc n) x e = let k = some_below xs n x e in omega (arith, k)

cell_below : (k : CellKind) (cs : List CellKind) (n : ℕ) → is_some_cell k (slice_get cs n) ≡ true → n < length cs
cell_below k cs n e = go (slice_get cs n) refl e
  where
    go : (c : Option CellKind) → slice_get cs n ≡ c → is_some_cell k c ≡ true → n < length cs
    go None q r = absurd cc
    go (Some c) q r = some_below cs n c q

-- a block that has a cell is live, at a number from 1 up to below the count
cell_live : (k : CellKind) (x : Block) (o : ℤ) → has_cell k (block_cells x) o ≡ true → (is_live_block x ≡ true) × ((pos 0 ≤ℤ o) × (o <ℤ pos (length (block_cells x))))
cell_live k ended (pos n) e = absurd (no n e)
  where
    no : (n : ℕ) → is_some_cell k (slice_get [] n) ≡ true → ⊥
    no n e = absurd cc
cell_live k ended (negsuc n) e = absurd cc
cell_live k (live cs wr) (pos n) e = let l = cell_below k cs n e in (refl, (omega (arith, ints), omega (arith, ints, l)))
cell_live k (live cs wr) (negsuc n) e = absurd cc

live_below : (t : Table) (b : ℤ) → is_live_block (block_at t b) ≡ true → (pos 1 ≤ℤ b) × (b <ℤ count t)
unfolding block_at
live_below t (pos zero) e = absurd cc
live_below t (pos (suc n)) e = go (slice_get t n) refl e
  where
    go : (c : Option Block) → slice_get t n ≡ c → is_live_block (or_ended c) ≡ true → (pos 1 ≤ℤ pos (suc n)) × (pos (suc n) <ℤ count t)
    go None q r = absurd cc
    go (Some x) q r = let l = some_below t n x q in (omega (arith, ints), omega (arith, ints, l))
live_below t (negsuc n) e = absurd cc

placed : (k : CellKind) (t : Table) (b o : ℤ) → is_cell k t b o ≡ true → Placed t b o
placed k t b o e =
    let c = cell_live k (block_at t b) o e in
    let n = live_below t b c.0 in
    record { live_there = c.0; from_zero = c.1.0; below_len = c.1.1; from_one = n.0; below_count = n.1 }

place_so : (k : CellKind) (t : Table) (b o : ℤ)
    → (not (is_cell k t b o) || ((is_live t b && (int_le (pos 0) o && (int_lt o (len t b) && (int_le (pos 1) b && (int_lt b (count t) && true))))) || false)) ≡ true
place_so k t b o = go (is_cell k t b o) refl
  where
    go : (x : Bool) → is_cell k t b o ≡ x → (not x || ((is_live t b && (int_le (pos 0) o && (int_lt o (len t b) && (int_le (pos 1) b && (int_lt b (count t) && true))))) || false)) ≡ true
    go true e =
        let p = placed k t b o e in
        alone _ (both (is_live t b) _ p.live_there (both (int_le (pos 0) o) _ (le_so (pos 0) o p.from_zero) (both (int_lt o (len t b)) _ (lt_so o (len t b) p.below_len)
        (both (int_le (pos 1) b) _ (le_so (pos 1) b p.from_one) (both (int_lt b (count t)) true (lt_so b (count t) p.below_count) refl)))))
    go false e = refl

pub reads_valid : (w : World) → RowIsValid w place_of_read
reads_valid w (h.Form (form.Read k)) (more t (more b (more o stop))) env = (place_so k (table (meaning w env t)) (value w env b) (value w env o), tt)
reads_valid w head ts env = tt

-- ---- what blocks answer

abbrev block_answer : Head → Block → List Value → Value
block_answer (h.Form (form.Read k)) x (v ∷ []) = Truth (has_cell k (block_cells x) (whole v))
block_answer (h.Form (form.Write k)) x (v ∷ []) = Truth (has_cell k (block_cells x) (whole v) && may_write x)
block_answer (h.Form form.Live) x [] = Truth (is_live_block x)
block_answer (h.Term op.Len) x [] = Whole (pos (length (block_cells x)))
block_answer head x vs = Truth false

with_true : (b : Bool) → b ≡ b && true
with_true true = refl
with_true false = refl

with_false : (b : Bool) → false ≡ b && false
with_false true = refl
with_false false = refl

itself : (b : Bool) → same_truth b b ≡ true
itself true = refl
itself false = refl

module _ (below : Below) (w : World) (env : Values) where
  abbrev M : Tree → Value
  M = meaning w env

  abbrev V : Tree → ℤ
  V = value w env

  abbrev T : Tree → Table
  T t = table (M t)

  asked_means : (head : Head) (t b : Tree) (ts : Trees) → asks head ts ≡ true → M (asked head t b ts) ≡ block_answer head (block_at (T t) (V b)) (meanings w env ts)
  asked_means (h.Form (form.Read k)) t b (more o stop) e = refl
  asked_means (h.Form (form.Write k)) t b (more o stop) e = refl
  asked_means (h.Form form.Live) t b stop e = refl
  asked_means (h.Term op.Len) t b stop e = refl
  asked_means head t b ts e = absurd cc

  written_means : (l : Layout) (k : CellKind) (o : Tree) (b : Bool) → M (cond b (has_cell_tree l k o) false_tree) ≡ Truth (has_cell k (cells_of l) (V o) && b)
  written_means l k o true = ap Truth (below.cell_answer w env l k o ∙ with_true (has_cell k (cells_of l) (V o)))
  written_means l k o false = ap Truth (with_false (has_cell k (cells_of l) (V o)))

  layout_means : (l : Layout) (head : Head) (ts : Trees) → asks head ts ≡ true → M (layout_answer l head ts) ≡ block_answer head (block_of l) (meanings w env ts)
  layout_means l (h.Form (form.Read k)) (more o stop) e = ap Truth (below.cell_answer w env l k o)
  layout_means l (h.Form (form.Write k)) (more o stop) e = written_means l k o l.writable
  layout_means l (h.Form form.Live) stop e = refl
  layout_means l (h.Term op.Len) stop e = ap (λ n. Whole (pos n)) (sym (below.repeated_length l.count l.cells))
  layout_means l head ts e = absurd cc

  answers_so : (head : Head) (t u : Tree) → M t ≡ M u → truth w env (answers head t u) ≡ true
  answers_so (h.Term o) t u e = equal_so (V t) (V u) (ap whole e)
  answers_so head t u e = ap (λ v. same_truth (truth w env t) (is_so v)) (sym e) ∙ itself (truth w env t)

  -- where the block is that of the layout
  by_layout : (l : Layout) (head : Head) (t b : Tree) (ts : Trees) → asks head ts ≡ true → block_at (T t) (V b) ≡ block_of l → M (asked head t b ts) ≡ M (layout_answer l head ts)
  by_layout l head t b ts a e = asked_means head t b ts a ∙ ap (λ x. block_answer head x (meanings w env ts)) e ∙ sym (layout_means l head ts a)

  -- ---- a block that was made last, and each other one

  made_true : (l : Layout) (t : Tree) (head : Head) (b : Tree) (ts : Trees) → asks head ts ≡ true → truth w env (answer_by_block l t head b ts) ≡ true
  made_true l t head b ts a = go (is_equal (V b) (count (T t))) refl
    where
      it : Tree
      it = asked head (alloc_tree l t) b ts

      go : (x : Bool) → is_equal (V b) (count (T t)) ≡ x
          → ((x && (truth w env (answers head it (layout_answer l head ts)) && true)) || ((not x && (truth w env (answers head it (asked head t b ts)) && true)) || false)) ≡ true
      go true e =
          first _ _ (both (truth w env (answers head it (layout_answer l head ts))) true
          (answers_so head it (layout_answer l head ts) (by_layout l head (alloc_tree l t) b ts a (below.last_block (T t) l (V b) (equal_fact (V b) (count (T t)) e)))) refl)
      go false e =
          let other = below.other_block (T t) l (V b) (λ k. no (equal_so (V b) (count (T t)) k) e) in
          let means : M it ≡ M (asked head t b ts) =
          asked_means head (alloc_tree l t) b ts a ∙ ap (λ x. block_answer head x (meanings w env ts)) other ∙ sym (asked_means head t b ts a) in
          alone _ (both (truth w env (answers head it (asked head t b ts))) true (answers_so head it (asked head t b ts) means) refl)
        where
          no : {x : Bool} → x ≡ true → x ≡ false → ⊥
          no p q = absurd cc

  made_rows : (head : Head) (t b : Tree) (ts : Trees) → asks head ts ≡ true → AreTrue w env (answer_of_made head t b ts)
  made_rows head (node (h.Term (op.Alloc l)) (more t stop)) b ts a = (made_true l t head b ts a, tt)
  made_rows head t b ts a = tt

  at_asked_true : (row : Head → (table block : Tree) → Trees → List Tree) → ((head : Head) (t b : Tree) (ts : Trees) → asks head ts ≡ true → AreTrue w env (row head t b ts))
      → (head : Head) (ts : Trees) → AreTrue w env (at_asked row head ts)
  at_asked_true row so (h.Form (form.Read k)) (more t (more b (more o stop))) = so (h.Form (form.Read k)) t b (one o) refl
  at_asked_true row so (h.Form (form.Write k)) (more t (more b (more o stop))) = so (h.Form (form.Write k)) t b (one o) refl
  at_asked_true row so (h.Form form.Live) (more t (more b stop)) = so (h.Form form.Live) t b stop refl
  at_asked_true row so (h.Term op.Len) (more t (more b stop)) = so (h.Term op.Len) t b stop refl
  at_asked_true row so head ts = tt

  -- ---- a block with a layout

  cells_are : (cs ds : List CellKind) → same_cells cs ds ≡ true → cs ≡ ds
  cells_are [] [] e = refl
  cells_are [] (d ∷ ds) e = absurd cc
  cells_are (c ∷ cs) [] e = absurd cc
  cells_are (c ∷ cs) (d ∷ ds) e =
      let a = below.same_cell_is c d (and_left (same_cell c d) (same_cells cs ds) e) in
      let r = cells_are cs ds (and_right (same_cell c d) (same_cells cs ds) e) in
      λ i. a i ∷ r i

  flags_are : (a b : Bool) → same_truth a b ≡ true → a ≡ b
  flags_are true b e = sym e
  flags_are false true e = absurd cc
  flags_are false false e = refl

  block_is : (x y : Block) → is_block x y ≡ true → x ≡ y
  block_is ended y e = absurd cc
  block_is (live cs a) ended e = absurd cc
  block_is (live cs a) (live ds b) e =
      let c = cells_are cs ds (and_left (same_cells cs ds) (same_truth a b) e) in
      let f = flags_are a b (and_right (same_cells cs ds) (same_truth a b) e) in
      λ i. live (c i) (f i)

  layout_true : (l : Layout) (t n : Tree) (head : Head) (b : Tree) (ts : Trees) → asks head ts ≡ true → truth w env (answer_by_layout l t n head b ts) ≡ true
  layout_true l t n head b ts a = go (has_layout (T t) (V n) l) refl (is_equal (V b) (V n)) refl
    where
      go : (x : Bool) → has_layout (T t) (V n) l ≡ x → (y : Bool) → is_equal (V b) (V n) ≡ y
          → (not x || (not y || (truth w env (answers head (asked head t b ts) (layout_answer l head ts)) || false))) ≡ true
      go true e true f =
          let there = ap (block_at (T t)) (equal_fact (V b) (V n) f) ∙ block_is (block_at (T t) (V n)) (block_of l) e in
          alone _ (answers_so head (asked head t b ts) (layout_answer l head ts) (by_layout l head t b ts a there))
      go true e false f = refl
      go false e y f = refl

  layout_rows : (l : Layout) (t n : Tree) (head : Head) (u b : Tree) (ts : Trees) → asks head ts ≡ true → AreTrue w env (answer_where_same l t n head u b ts)
  layout_rows l t n head u b ts a = go (same t u)
    where
      go : (x : Bool) → AreTrue w env (cond x (answer_by_layout l t n head b ts ∷ []) [])
      go true = (layout_true l t n head b ts a, tt)
      go false = tt

  layouts_true : (g : Head) (us : Trees) (head : Head) (ts : Trees) → AreTrue w env (answer_of_layout g us head ts)
  layouts_true (h.Form (form.Has l)) (more t (more n stop)) head ts = at_asked_true (answer_where_same l t n) (λ k u b vs a. layout_rows l t n k u b vs a) head ts
  layouts_true g us head ts = tt

pub allocs_valid : Below → (w : World) → RowIsValid w answer_of_alloc
allocs_valid below w head ts env = at_asked_true below w env answer_of_made (made_rows below w env) head ts

pub layouts_valid : Below → (w : World) → PairRowIsValid w answer_of_layout
layouts_valid below w g us head ts env = layouts_true below w env g us head ts
