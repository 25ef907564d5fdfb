-- Operators over alike values give alike ones.
use Rattle.std.proofs.Common.{◌≡◌, false, if◌then◌else◌, int_le, int_lt, ℤ, pos, ◌-ℤ◌, List, [], ◌∷◌, map, refl, sym, ◌∙◌, ap}
use Rattle.wp_base.specs.declared.kinds.CellKind.TheVariants as cell
use Rattle.wp_base.specs.Kinds.{convert}
use Rattle.wp_base.specs.Blocks.{count, len, is_live, is_cell, is_writable, alloc, grow, has_layout}
use Rattle.qed_terms.specs.declared.head.Shape.{Shape}
use Rattle.qed_terms.specs.declared.head.TermOp.{TermOp}
use Rattle.qed_terms.specs.declared.head.TermOp.TheVariants as op
use Rattle.qed_terms.specs.declared.head.FormOp.{FormOp}
use Rattle.qed_terms.specs.declared.head.FormOp.TheVariants as form
use Rattle.qed_terms.specs.Memory.{Memory, is_at, load, store, same_memory, is_well_formed, are_well_formed, agree_outside}
use Rattle.qed_terms.specs.Operators.{is_equal, total, product, quotient, remainder, shifted_left, shifted_right, both_bits, either_bit, one_bit, turned_bits}
use Rattle.qed_terms.specs.Meaning.{Value, Whole, Truth, Cells, Blocks, whole, is_so, memory, table, World, at_one, at_two, at_three, at_four, term_value, regions, frame_truth, form_truth}
use Rattle.same_memories.specs.Alike.{SameMap, Alike, AllAlike}
use Rattle.same_memories.proofs.Maps.{load_more, same_alike, well_formed_alike, pointers_alike, frame_alike}

-- ---- two alike values, by what they are read as

pub whole_alike : (v u : Value) → Alike v u → whole v ≡ whole u
whole_alike (Whole x) (Whole y) a = a
whole_alike (Truth x) (Truth y) a = refl
whole_alike (Cells m) (Cells n) a = refl
whole_alike (Blocks s) (Blocks t) a = refl
whole_alike v u a = absurd a

pub so_alike : (v u : Value) → Alike v u → is_so v ≡ is_so u
so_alike (Whole x) (Whole y) a = refl
so_alike (Truth x) (Truth y) a = a
so_alike (Cells m) (Cells n) a = refl
so_alike (Blocks s) (Blocks t) a = refl
so_alike v u a = absurd a

pub memory_alike : (v u : Value) → Alike v u → SameMap (memory v) (memory u)
memory_alike (Whole x) (Whole y) a = λ b o. refl
memory_alike (Truth x) (Truth y) a = λ b o. refl
memory_alike (Cells m) (Cells n) a = a
memory_alike (Blocks s) (Blocks t) a = λ b o. refl
memory_alike v u a = absurd a

pub table_alike : (v u : Value) → Alike v u → table v ≡ table u
table_alike (Whole x) (Whole y) a = refl
table_alike (Truth x) (Truth y) a = refl
table_alike (Cells m) (Cells n) a = refl
table_alike (Blocks s) (Blocks t) a = a
table_alike v u a = absurd a

pub record Pair : Type 0 where
  pub left : Value
  pub right : Value
  pub alike : Alike left right

abbrev pub lefts : List Pair → List Value
lefts ps = map (λ p. p.left) ps

abbrev pub rights : List Pair → List Value
rights ps = map (λ p. p.right) ps

-- lists of alike values as one list of pairs
pub record Paired (vs us : List Value) : Type 0 where
  pub pairs : List Pair
  pub left : vs ≡ lefts pairs
  pub right : us ≡ rights pairs

pub paired : (vs us : List Value) → AllAlike vs us → Paired vs us
paired [] [] a = record { pairs = []; left = refl; right = refl }
paired [] (u ∷ us) a = absurd a
paired (v ∷ vs) [] a = absurd a
paired (v ∷ vs) (u ∷ us) a =
    let rest = paired vs us a.1 in
    record {
      pairs = record { left = v; right = u; alike = a.0 } ∷ rest.pairs;
      left = ap (λ ws. v ∷ ws) rest.left;
      right = ap (λ ws. u ∷ ws) rest.right;
    }

pub all_of_pairs : (ps : List Pair) → AllAlike (lefts ps) (rights ps)
all_of_pairs [] = tt
all_of_pairs (p ∷ ps) = (p.alike, all_of_pairs ps)

-- both read as an integer, as a truth value, as a table, as a memory
abbrev pub as_whole : (p : Pair) → whole p.left ≡ whole p.right
as_whole p = whole_alike p.left p.right p.alike

abbrev pub as_truth : (p : Pair) → is_so p.left ≡ is_so p.right
as_truth p = so_alike p.left p.right p.alike

abbrev as_table : (p : Pair) → table p.left ≡ table p.right
as_table p = table_alike p.left p.right p.alike

abbrev as_memory : (p : Pair) → SameMap (memory p.left) (memory p.right)
as_memory p = memory_alike p.left p.right p.alike

pub wholes : (ps : List Pair) → map whole (lefts ps) ≡ map whole (rights ps)
wholes [] = refl
wholes (p ∷ ps) = let a = as_whole p in let rest = wholes ps in λ i. a i ∷ rest i

pub truths : (ps : List Pair) → map is_so (lefts ps) ≡ map is_so (rights ps)
truths [] = refl
truths (p ∷ ps) = let a = as_truth p in let rest = truths ps in λ i. a i ∷ rest i

-- ---- heads of one, two, three kids

module _ {A : Type 0} where
  pub one_alike : (d : A) (f : Value → A) → ((p : Pair) → f p.left ≡ f p.right) → (ps : List Pair) → at_one d f (lefts ps) ≡ at_one d f (rights ps)
  one_alike d f s [] = refl
  one_alike d f s (p ∷ []) = s p
  one_alike d f s (p ∷ q ∷ ps) = refl

  pub two_alike : (d : A) (f : Value → Value → A) → ((p q : Pair) → f p.left q.left ≡ f p.right q.right) → (ps : List Pair)
      → at_two d f (lefts ps) ≡ at_two d f (rights ps)
  two_alike d f s [] = refl
  two_alike d f s (p ∷ []) = refl
  two_alike d f s (p ∷ q ∷ []) = s p q
  two_alike d f s (p ∷ q ∷ r ∷ ps) = refl

  pub three_alike : (d : A) (f g : Value → Value → Value → A) → ((p q r : Pair) → f p.left q.left r.left ≡ g p.right q.right r.right) → (ps : List Pair)
      → at_three d f (lefts ps) ≡ at_three d g (rights ps)
  three_alike d f g s [] = refl
  three_alike d f g s (p ∷ []) = refl
  three_alike d f g s (p ∷ q ∷ []) = refl
  three_alike d f g s (p ∷ q ∷ r ∷ []) = s p q r
  three_alike d f g s (p ∷ q ∷ r ∷ t ∷ ps) = refl

-- ---- terms

store_alike : (m n : Memory) (b b' o o' z z' : ℤ) → SameMap m n → b ≡ b' → o ≡ o' → z ≡ z' → SameMap (store m b o z) (store n b' o' z')
store_alike m n b b' o o' z z' s e f g x y =
    (λ i. load (store m (e i) (f i) (g i)) x y) ∙ load_more (record { block = b'; offset = o'; value = z' }) m x y
    ∙ ap (λ l. if is_at x y (record { block = b'; offset = o'; value = z' }) then z' else l) (s x y)
    ∙ sym (load_more (record { block = b'; offset = o'; value = z' }) n x y)

abbrev stored_at : List Value → Memory
stored_at vs = at_four [] (λ m b o z. store (memory m) (whole b) (whole o) (whole z)) vs

stores_alike : (ps : List Pair) → SameMap (stored_at (lefts ps)) (stored_at (rights ps))
stores_alike [] = λ x y. refl
stores_alike (p ∷ []) = λ x y. refl
stores_alike (p ∷ q ∷ []) = λ x y. refl
stores_alike (p ∷ q ∷ r ∷ []) = λ x y. refl
stores_alike (p ∷ q ∷ r ∷ t ∷ []) =
    store_alike (memory p.left) (memory p.right) (whole q.left) (whole q.right) (whole r.left) (whole r.right) (whole t.left) (whole t.right)
    (as_memory p) (as_whole q) (as_whole r) (as_whole t)
stores_alike (p ∷ q ∷ r ∷ t ∷ u ∷ ps) = λ x y. refl

pub terms_alike : (w : World) (o : TermOp) (ps : List Pair) → Alike (term_value w o (lefts ps)) (term_value w o (rights ps))
terms_alike w op.Add ps = ap total (wholes ps)
terms_alike w op.Sub ps = ap (at_two (pos 0) (λ a b. a -ℤ b)) (wholes ps)
terms_alike w op.Mul ps = ap product (wholes ps)
terms_alike w op.Neg ps = ap (at_one (pos 0) (λ a. pos 0 -ℤ a)) (wholes ps)
terms_alike w op.Div ps = ap (at_two (pos 0) quotient) (wholes ps)
terms_alike w op.Mod ps = ap (at_two (pos 0) remainder) (wholes ps)
terms_alike w (op.Wrap k) ps = ap (at_one (pos 0) (convert w.long_bits k)) (wholes ps)
terms_alike w op.ShiftLeft ps = ap (at_two (pos 0) shifted_left) (wholes ps)
terms_alike w op.ShiftRight ps = ap (at_two (pos 0) shifted_right) (wholes ps)
terms_alike w op.BitAnd ps = ap (at_two (pos 0) both_bits) (wholes ps)
terms_alike w op.BitOr ps = ap (at_two (pos 0) either_bit) (wholes ps)
terms_alike w op.BitXor ps = ap (at_two (pos 0) one_bit) (wholes ps)
terms_alike w op.BitNot ps = ap (at_one (pos 0) turned_bits) (wholes ps)
terms_alike w op.Load ps =
    let f = λ (m b o : Value). load (memory m) (whole b) (whole o) in
    three_alike (pos 0) f f (λ p q r. as_memory p (whole q.left) (whole r.left) ∙ (λ i. load (memory p.right) (as_whole q i) (as_whole r i))) ps
terms_alike w op.Count ps = one_alike (pos 0) (λ t. count (table t)) (λ p. ap count (as_table p)) ps
terms_alike w op.Len ps = two_alike (pos 0) (λ t b. len (table t) (whole b)) (λ p q i. len (as_table p i) (as_whole q i)) ps
terms_alike w op.Store ps = stores_alike ps
terms_alike w (op.Alloc l) ps = one_alike [] (λ t. alloc (table t) l) (λ p. ap (λ t. alloc t l) (as_table p)) ps
terms_alike w op.Grow ps = two_alike [] (λ t z. grow (table t) (whole z)) (λ p q i. grow (as_table p i) (as_whole q i)) ps

-- ---- formulas

frames_alike : (shapes : List Shape) (ps : List Pair) → frame_truth shapes (lefts ps) ≡ frame_truth shapes (rights ps)
frames_alike shapes [] = refl
frames_alike shapes (p ∷ []) = refl
frames_alike shapes (p ∷ q ∷ ps) =
    frame_alike (regions shapes (map whole (lefts ps))) (memory p.left) (memory q.left) (memory p.right) (memory q.right) (as_memory p) (as_memory q)
    ∙ (λ i. agree_outside (memory p.right) (memory q.right) (regions shapes (wholes ps i)))

pub forms_alike : (w : World) (o : FormOp) (ps : List Pair) → form_truth w o (lefts ps) ≡ form_truth w o (rights ps)
forms_alike w form.Equal ps = ap (at_two false is_equal) (wholes ps)
forms_alike w form.AtMost ps = ap (at_two false int_le) (wholes ps)
forms_alike w form.Less ps = ap (at_two false int_lt) (wholes ps)
forms_alike w form.Same ps =
    two_alike false (λ m n. same_memory (memory m) (memory n))
    (λ p q. same_alike (memory p.left) (memory q.left) (memory p.right) (memory q.right) (as_memory p) (as_memory q)) ps
forms_alike w (form.Read k) ps =
    let f = λ (t b o : Value). is_cell k (table t) (whole b) (whole o) in
    three_alike false f f (λ p q r i. is_cell k (as_table p i) (as_whole q i) (as_whole r i)) ps
forms_alike w (form.Write k) ps =
    let f = λ (t b o : Value). is_writable k (table t) (whole b) (whole o) in
    three_alike false f f (λ p q r i. is_writable k (as_table p i) (as_whole q i) (as_whole r i)) ps
forms_alike w form.Live ps = two_alike false (λ t b. is_live (table t) (whole b)) (λ p q i. is_live (as_table p i) (as_whole q i)) ps
forms_alike w (form.Has l) ps = two_alike false (λ t b. has_layout (table t) (whole b) l) (λ p q i. has_layout (as_table p i) (as_whole q i) l) ps
forms_alike w (form.WellFormed (cell.Of k)) ps =
    two_alike false (λ t m. is_well_formed w.long_bits k (table t) (memory m))
    (λ p q. well_formed_alike w.long_bits k (table p.left) (memory q.left) (memory q.right) (as_memory q)
    ∙ (λ i. is_well_formed w.long_bits k (as_table p i) (memory q.right))) ps
forms_alike w (form.WellFormed cell.Ptr) ps =
    let f = λ (t bs os : Value). are_well_formed (table t) (memory bs) (memory os) in
    three_alike false f f
    (λ p q r. pointers_alike (table p.left) (memory q.left) (memory r.left) (memory q.right) (memory r.right) (as_memory q) (as_memory r)
    ∙ ap (λ t. are_well_formed t (memory q.right) (memory r.right)) (as_table p)) ps
forms_alike w (form.Frame shapes) ps = frames_alike shapes ps
