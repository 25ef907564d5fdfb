-- Heads keep values alike, and so do the logic functions of each setting.
use Rattle.std.proofs.Common.{◌≡◌, ℕ, zero, suc, Bool, true, false, not, ◌&&◌, ◌||◌, cond, int_le, int_lt, ℤ, pos, ◌-ℤ◌, List, [], ◌∷◌, map, refl, sym, ◌∙◌, ap, subst}
use Rattle.std.specs.Str.{bytes_eq}
use Rattle.wp_base.specs.declared.kinds.CellKind.TheVariants as cell
use Rattle.wp_base.specs.Kinds.{convert}
use Rattle.wp_base.specs.Blocks.{count, len, is_live, is_cell, is_writable, alloc, grow, has_layout, same_truth, to_nat}
use Rattle.qed_terms.specs.declared.head.Sort.{Sort}
use Rattle.qed_terms.specs.declared.head.Sort.TheVariants as sort
use Rattle.qed_terms.specs.declared.head.Shape.{Shape}
use Rattle.qed_terms.specs.declared.head.Head.{Head}
use Rattle.qed_terms.specs.declared.head.Head.TheVariants as h
use Rattle.qed_terms.specs.declared.head.TermOp.{TermOp}
use Rattle.qed_terms.specs.declared.head.TermOp.TheVariants as op
use Rattle.qed_terms.specs.declared.head.FormOp.{FormOp}
use Rattle.qed_terms.specs.declared.head.FormOp.TheVariants as rel
use Rattle.qed_terms.specs.Tree.{Tree, node, Trees, stop, more}
use Rattle.qed_terms.specs.Memory.{Memory, is_at, load, store, same_memory, is_well_formed, are_well_formed, agree_outside}
use Rattle.qed_terms.specs.Operators.{is_equal, total, product, quotient, remainder, shifted_left, shifted_right, both_bits, either_bit, one_bit, turned_bits}
use Rattle.qed_terms.specs.Setting.{Param, Logic, Apps, has_sort, are_arguments, with_value, nothing, bound, argument_at, with_function, descend, steps_of, after, apps_from, no_apps, world_of}
use Rattle.qed_terms.specs.Meaning.{Value, Whole, Truth, Cells, Blocks, whole, is_so, memory, table, Values, value_of, with_int, World, at_one, at_two, at_three, at_four, term_value, regions, frame_truth, form_truth, each_true, some_true, chosen, all_from, some_from, head_value, third_is_so, over_range, head_meaning, meaning, meanings}
use Rattle.qed_memories.specs.Alike.{SameMap, Alike, AllAlike, RespectsAlike, SettingsRespectAlike, HeadsKeepAlike}
use Rattle.qed_memories.proofs.Maps.{load_at, same_alike, well_formed_alike, pointers_alike, frame_alike}

-- ---- two alike values

record Pair : Type 0 where
  left : Value
  right : Value
  alike : Alike left right

abbrev lefts : List Pair → List Value
lefts ps = map (λ p. p.left) ps

abbrev rights : List Pair → List Value
rights ps = map (λ p. p.right) ps

paired : (vs ws : List Value) → AllAlike vs ws → (ps : List Pair) × (vs ≡ lefts ps) × (ws ≡ rights ps)
paired [] [] a = ([], refl, refl)
paired [] (w ∷ ws) a = absurd a
paired (v ∷ vs) [] a = absurd a
paired (v ∷ vs) (w ∷ ws) a =
    let r = paired vs ws a.1 in
    (record { left = v; right = w; alike = a.0 } ∷ r.0, ap (λ us. v ∷ us) r.1, ap (λ us. w ∷ us) r.2)

whole_alike : (v w : Value) → Alike v w → whole v ≡ whole w
whole_alike (Whole z) w a = ap whole a
whole_alike (Truth b) w a = ap whole a
whole_alike (Blocks t) w a = ap whole a
whole_alike (Cells m) (Cells n) a = refl
whole_alike (Cells m) (Whole z) a = absurd a
whole_alike (Cells m) (Truth z) a = absurd a
whole_alike (Cells m) (Blocks z) a = absurd a

pub so_alike : (v w : Value) → Alike v w → is_so v ≡ is_so w
so_alike (Whole z) w a = ap is_so a
so_alike (Truth b) w a = ap is_so a
so_alike (Blocks t) w a = ap is_so a
so_alike (Cells m) (Cells n) a = refl
so_alike (Cells m) (Whole z) a = absurd a
so_alike (Cells m) (Truth z) a = absurd a
so_alike (Cells m) (Blocks z) a = absurd a

table_alike : (v w : Value) → Alike v w → table v ≡ table w
table_alike (Whole z) w a = ap table a
table_alike (Truth b) w a = ap table a
table_alike (Blocks t) w a = ap table a
table_alike (Cells m) (Cells n) a = refl
table_alike (Cells m) (Whole z) a = absurd a
table_alike (Cells m) (Truth z) a = absurd a
table_alike (Cells m) (Blocks z) a = absurd a

same_map_where : (m n : Memory) → m ≡ n → SameMap m n
same_map_where m n e b o = ap (λ x. load x b o) e

memory_alike : (v w : Value) → Alike v w → SameMap (memory v) (memory w)
memory_alike (Whole z) w a = same_map_where [] (memory w) (ap memory a)
memory_alike (Truth b) w a = same_map_where [] (memory w) (ap memory a)
memory_alike (Blocks t) w a = same_map_where [] (memory w) (ap memory a)
memory_alike (Cells m) (Cells n) a = a
memory_alike (Cells m) (Whole z) a = absurd a
memory_alike (Cells m) (Truth z) a = absurd a
memory_alike (Cells m) (Blocks z) a = absurd a

abbrev W : (p : Pair) → whole (p.left) ≡ whole (p.right)
W p = whole_alike (p.left) (p.right) (p.alike)

abbrev S : (p : Pair) → is_so (p.left) ≡ is_so (p.right)
S p = so_alike (p.left) (p.right) (p.alike)

abbrev B : (p : Pair) → table (p.left) ≡ table (p.right)
B p = table_alike (p.left) (p.right) (p.alike)

abbrev C : (p : Pair) → SameMap (memory (p.left)) (memory (p.right))
C p = memory_alike (p.left) (p.right) (p.alike)

wholes : (ps : List Pair) → map whole (lefts ps) ≡ map whole (rights ps)
wholes [] = refl
wholes (p ∷ ps) = let a = W p in let r = wholes ps in λ i. a i ∷ r i

truths : (ps : List Pair) → map is_so (lefts ps) ≡ map is_so (rights ps)
truths [] = refl
truths (p ∷ ps) = let a = S p in let r = truths ps in λ i. a i ∷ r i

-- ---- heads of one, two, three kids

one_alike : {A : Type 0} (d : A) (f g : Value → A) → ((p : Pair) → f (p.left) ≡ g (p.right)) → (ps : List Pair) → at_one d f (lefts ps) ≡ at_one d g (rights ps)
one_alike d f g s [] = refl
one_alike d f g s (p ∷ []) = s p
one_alike d f g s (p ∷ q ∷ ps) = refl

two_alike : {A : Type 0} (d : A) (f g : Value → Value → A) → ((p q : Pair) → f (p.left) (q.left) ≡ g (p.right) (q.right)) → (ps : List Pair) → at_two d f (lefts ps) ≡ at_two d g (rights ps)
two_alike d f g s [] = refl
two_alike d f g s (p ∷ []) = refl
two_alike d f g s (p ∷ q ∷ []) = s p q
two_alike d f g s (p ∷ q ∷ r ∷ ps) = refl

three_alike : {A : Type 0} (d : A) (f g : Value → Value → Value → A) → ((p q r : Pair) → f (p.left) (q.left) (r.left) ≡ g (p.right) (q.right) (r.right)) → (ps : List Pair) → at_three d f (lefts ps) ≡ at_three d g (rights ps)
three_alike d f g s [] = refl
three_alike d f g s (p ∷ []) = refl
three_alike d f g s (p ∷ q ∷ []) = refl
three_alike d f g s (p ∷ q ∷ r ∷ []) = s p q r
three_alike d f g s (p ∷ q ∷ r ∷ t ∷ ps) = refl

store_alike : (m n : Memory) (b b' o o' z z' : ℤ) → SameMap m n → b ≡ b' → o ≡ o' → z ≡ z' → SameMap (store m b o z) (store n b' o' z')
store_alike m n b b' o o' z z' s e f g x y =
    (λ i. load (store m (e i) (f i) (g i)) x y)
    ∙ load_at m (record { block = b'; offset = o'; value = z' }) x y
    ∙ ap (λ l. cond (is_at x y (record { block = b'; offset = o'; value = z' })) z' l) (s x y)
    ∙ sym (load_at n (record { block = b'; offset = o'; value = z' }) x y)

stores_alike : (ps : List Pair) → SameMap (at_four [] (λ m b o z. store (memory m) (whole b) (whole o) (whole z)) (lefts ps)) (at_four [] (λ m b o z. store (memory m) (whole b) (whole o) (whole z)) (rights ps))
stores_alike [] = λ x y. refl
stores_alike (p ∷ []) = λ x y. refl
stores_alike (p ∷ q ∷ []) = λ x y. refl
stores_alike (p ∷ q ∷ r ∷ []) = λ x y. refl
stores_alike (p ∷ q ∷ r ∷ t ∷ []) = store_alike (memory (p.left)) (memory (p.right)) (whole (q.left)) (whole (q.right)) (whole (r.left)) (whole (r.right)) (whole (t.left)) (whole (t.right)) (C p) (W q) (W r) (W t)
stores_alike (p ∷ q ∷ r ∷ t ∷ u ∷ ps) = λ x y. refl

-- ---- worlds and assignments

record AlikeWorlds (w w' : World) : Type 0 where
  bits : w.long_bits ≡ w'.long_bits
  apps : (f : List ℕ) (vs ws : List Value) → AllAlike vs ws → w.apps f vs ≡ w'.apps f ws

all_of_pairs : (ps : List Pair) → AllAlike (lefts ps) (rights ps)
all_of_pairs [] = tt
all_of_pairs (p ∷ ps) = (p.alike, all_of_pairs ps)

terms_alike : (w w' : World) → AlikeWorlds w w' → (o : TermOp) (ps : List Pair) → Alike (term_value w o (lefts ps)) (term_value w' o (rights ps))
terms_alike w w' s op.Load ps = ap Whole (three_alike (pos 0) (λ m b o. load (memory m) (whole b) (whole o)) (λ m b o. load (memory m) (whole b) (whole o)) (λ p q r. C p (whole (q.left)) (whole (r.left)) ∙ (λ i. load (memory (p.right)) (W q i) (W r i))) ps)
terms_alike w w' s op.Count ps = ap Whole (one_alike (pos 0) (λ t. count (table t)) (λ t. count (table t)) (λ p. ap count (B p)) ps)
terms_alike w w' s op.Len ps = ap Whole (two_alike (pos 0) (λ t b. len (table t) (whole b)) (λ t b. len (table t) (whole b)) (λ p q i. len (B p i) (W q i)) ps)
terms_alike w w' s op.Store ps = stores_alike ps
terms_alike w w' s (op.Alloc l) ps = ap Blocks (one_alike [] (λ t. alloc (table t) l) (λ t. alloc (table t) l) (λ p. ap (λ t. alloc t l) (B p)) ps)
terms_alike w w' s op.Grow ps = ap Blocks (two_alike [] (λ t z. grow (table t) (whole z)) (λ t z. grow (table t) (whole z)) (λ p q i. grow (B p i) (W q i)) ps)
terms_alike w w' s (op.Wrap k) ps = λ i. Whole (at_one (pos 0) (convert (s.bits i) k) (wholes ps i))
terms_alike w w' s op.Add ps = λ i. Whole (total (wholes ps i))
terms_alike w w' s op.Sub ps = λ i. Whole (at_two (pos 0) (λ a b. a -ℤ b) (wholes ps i))
terms_alike w w' s op.Mul ps = λ i. Whole (product (wholes ps i))
terms_alike w w' s op.Neg ps = λ i. Whole (at_one (pos 0) (λ a. pos 0 -ℤ a) (wholes ps i))
terms_alike w w' s op.Div ps = λ i. Whole (at_two (pos 0) quotient (wholes ps i))
terms_alike w w' s op.Mod ps = λ i. Whole (at_two (pos 0) remainder (wholes ps i))
terms_alike w w' s op.ShiftLeft ps = λ i. Whole (at_two (pos 0) shifted_left (wholes ps i))
terms_alike w w' s op.ShiftRight ps = λ i. Whole (at_two (pos 0) shifted_right (wholes ps i))
terms_alike w w' s op.BitAnd ps = λ i. Whole (at_two (pos 0) both_bits (wholes ps i))
terms_alike w w' s op.BitOr ps = λ i. Whole (at_two (pos 0) either_bit (wholes ps i))
terms_alike w w' s op.BitXor ps = λ i. Whole (at_two (pos 0) one_bit (wholes ps i))
terms_alike w w' s op.BitNot ps = λ i. Whole (at_one (pos 0) turned_bits (wholes ps i))

frames_alike : (shapes : List Shape) (ps : List Pair) → frame_truth shapes (lefts ps) ≡ frame_truth shapes (rights ps)
frames_alike shapes [] = refl
frames_alike shapes (p ∷ []) = refl
frames_alike shapes (p ∷ q ∷ ps) =
    frame_alike (regions shapes (map whole (lefts ps))) (memory (p.left)) (memory (q.left)) (memory (p.right)) (memory (q.right)) (C p) (C q)
    ∙ (λ i. agree_outside (memory (p.right)) (memory (q.right)) (regions shapes (wholes ps i)))

forms_alike : (w w' : World) → AlikeWorlds w w' → (o : FormOp) (ps : List Pair) → form_truth w o (lefts ps) ≡ form_truth w' o (rights ps)
forms_alike w w' s rel.Equal ps = λ i. at_two false is_equal (wholes ps i)
forms_alike w w' s rel.AtMost ps = λ i. at_two false int_le (wholes ps i)
forms_alike w w' s rel.Less ps = λ i. at_two false int_lt (wholes ps i)
forms_alike w w' s rel.Same ps = two_alike false (λ m n. same_memory (memory m) (memory n)) (λ m n. same_memory (memory m) (memory n)) (λ p q. same_alike (memory (p.left)) (memory (q.left)) (memory (p.right)) (memory (q.right)) (C p) (C q)) ps
forms_alike w w' s (rel.Read k) ps = three_alike false (λ t b o. is_cell k (table t) (whole b) (whole o)) (λ t b o. is_cell k (table t) (whole b) (whole o)) (λ p q r i. is_cell k (B p i) (W q i) (W r i)) ps
forms_alike w w' s (rel.Write k) ps = three_alike false (λ t b o. is_writable k (table t) (whole b) (whole o)) (λ t b o. is_writable k (table t) (whole b) (whole o)) (λ p q r i. is_writable k (B p i) (W q i) (W r i)) ps
forms_alike w w' s rel.Live ps = two_alike false (λ t b. is_live (table t) (whole b)) (λ t b. is_live (table t) (whole b)) (λ p q i. is_live (B p i) (W q i)) ps
forms_alike w w' s (rel.Has l) ps = two_alike false (λ t b. has_layout (table t) (whole b) l) (λ t b. has_layout (table t) (whole b) l) (λ p q i. has_layout (B p i) (W q i) l) ps
forms_alike w w' s (rel.WellFormed (cell.Of k)) ps =
    two_alike false (λ t m. is_well_formed w.long_bits k (table t) (memory m)) (λ t m. is_well_formed w'.long_bits k (table t) (memory m))
    (λ p q. well_formed_alike w.long_bits k (table (p.left)) (memory (q.left)) (memory (q.right)) (C q) ∙ (λ i. is_well_formed (s.bits i) k (B p i) (memory (q.right)))) ps
forms_alike w w' s (rel.WellFormed cell.Ptr) ps =
    three_alike false (λ t bs os. are_well_formed (table t) (memory bs) (memory os)) (λ t bs os. are_well_formed (table t) (memory bs) (memory os))
    (λ p q r. pointers_alike (table (p.left)) (memory (q.left)) (memory (r.left)) (memory (q.right)) (memory (r.right)) (C q) (C r) ∙ ap (λ t. are_well_formed t (memory (q.right)) (memory (r.right))) (B p)) ps
forms_alike w w' s (rel.Frame shapes) ps = frames_alike shapes ps

third_alike : (ps : List Pair) → third_is_so (lefts ps) ≡ third_is_so (rights ps)
third_alike ps = three_alike false (λ t u f. is_so f) (λ t u f. is_so f) (λ p q r. S r) ps

range_alike : (go go' : ℤ → ℕ → Bool) → ((z : ℤ) (n : ℕ) → go z n ≡ go' z n) → (ps : List Pair) → over_range false go (lefts ps) ≡ over_range false go' (rights ps)
range_alike go go' same ps =
    three_alike false (λ t u f. go (whole t) (to_nat (whole u -ℤ whole t))) (λ t u f. go' (whole t) (to_nat (whole u -ℤ whole t)))
    (λ p q r. same (whole (p.left)) (to_nat (whole (q.left) -ℤ whole (p.left))) ∙ (λ i. go' (W p i) (to_nat (W q i -ℤ W p i)))) ps

-- A relation of assignments: they agree on each name, and do so with the same integer for a name.
record Agrees (R : Values → Values → Type 0) : Type 0 where
  ints : (e e' : Values) → R e e' → (x : List ℕ) → e.ints x ≡ e'.ints x
  memories : (e e' : Values) → R e e' → (x : List ℕ) → SameMap (e.memories x) (e'.memories x)
  tables : (e e' : Values) → R e e' → (x : List ℕ) → e.tables x ≡ e'.tables x
  with_same : (e e' : Values) → R e e' → (x : List ℕ) (z : ℤ) → R (with_int e x z) (with_int e' x z)

module _ (R : Values → Values → Type 0) (a : Agrees R) (w w' : World) (s : AlikeWorlds w w') where
  names_alike : (e e' : Values) → R e e' → (x : List ℕ) (t : Sort) → Alike (value_of e x t) (value_of e' x t)
  names_alike e e' r x sort.Int = ap Whole (a.ints e e' r x)
  names_alike e e' r x sort.Memory = a.memories e e' r x
  names_alike e e' r x sort.Table = ap Blocks (a.tables e e' r x)

  values_alike : (head : Head) (e e' : Values) → R e e' → (ps : List Pair) → Alike (head_value w e head (lefts ps)) (head_value w' e' head (rights ps))
  values_alike (h.Num z) e e' r ps = refl
  values_alike (h.Var x t) e e' r ps = names_alike e e' r x t
  values_alike (h.Term o) e e' r ps = terms_alike w w' s o ps
  values_alike h.Ite e e' r ps = ap Whole (three_alike (pos 0) chosen chosen (λ p q u i. cond (S p i) (W q i) (W u i)) ps)
  values_alike (h.App f) e e' r ps = ap Whole (s.apps f (lefts ps) (rights ps) (all_of_pairs ps))
  values_alike (h.Form o) e e' r ps = ap Truth (forms_alike w w' s o ps)
  values_alike h.True e e' r ps = refl
  values_alike h.False e e' r ps = refl
  values_alike h.Not e e' r ps = λ i. Truth (at_one false not (truths ps i))
  values_alike h.And e e' r ps = λ i. Truth (each_true (truths ps i))
  values_alike h.Or e e' r ps = λ i. Truth (some_true (truths ps i))
  values_alike h.Imp e e' r ps = λ i. Truth (at_two false (λ x y. not x || y) (truths ps i))
  values_alike h.Iff e e' r ps = λ i. Truth (at_two false same_truth (truths ps i))
  values_alike (h.Forall x) e e' r ps = refl
  values_alike (h.Exists x) e e' r ps = refl

  abbrev KidsAlike : (Values → List Value) → (Values → List Value) → Type 0
  KidsAlike kids kids' = (e e' : Values) → R e e' → AllAlike (kids e) (kids' e')

  bodies_alike : (kids kids' : Values → List Value) → KidsAlike kids kids' → (e e' : Values) → R e e' → (x : List ℕ) (z : ℤ) → third_is_so (kids (with_int e x z)) ≡ third_is_so (kids' (with_int e' x z))
  bodies_alike kids kids' k e e' r x z =
      let p = paired (kids (with_int e x z)) (kids' (with_int e' x z)) (k (with_int e x z) (with_int e' x z) (a.with_same e e' r x z)) in
      ap third_is_so p.1 ∙ third_alike p.0 ∙ sym (ap third_is_so p.2)

  plain_alike : (head : Head) (kids kids' : Values → List Value) → KidsAlike kids kids' → (e e' : Values) → R e e' → Alike (head_value w e head (kids e)) (head_value w' e' head (kids' e'))
  plain_alike head kids kids' k e e' r =
      let p = paired (kids e) (kids' e') (k e e' r) in
      subst (λ vs. Alike (head_value w e head vs) (head_value w' e' head (kids' e'))) (sym p.1)
      (subst (λ vs. Alike (head_value w e head (lefts p.0)) (head_value w' e' head vs)) (sym p.2) (values_alike head e e' r p.0))

  ranges_alike : (kids kids' : Values → List Value) → KidsAlike kids kids' → (e e' : Values) → R e e' → (go go' : ℤ → ℕ → Bool) → ((z : ℤ) (n : ℕ) → go z n ≡ go' z n) → over_range false go (kids e) ≡ over_range false go' (kids' e')
  ranges_alike kids kids' k e e' r go go' same =
      let p = paired (kids e) (kids' e') (k e e' r) in
      ap (over_range false go) p.1 ∙ range_alike go go' same p.0 ∙ sym (ap (over_range false go') p.2)

  heads_alike : (head : Head) (kids kids' : Values → List Value) → KidsAlike kids kids' → (e e' : Values) → R e e' → Alike (head_meaning w head kids e) (head_meaning w' head kids' e')
  heads_alike (h.Forall x) kids kids' k e e' r =
      let body = bodies_alike kids kids' k e e' r x in
      ap Truth (ranges_alike kids kids' k e e' r (λ low n. all_from low n (λ z. third_is_so (kids (with_int e x z)))) (λ low n. all_from low n (λ z. third_is_so (kids' (with_int e' x z)))) (λ low n i. all_from low n (λ z. body z i)))
  heads_alike (h.Exists x) kids kids' k e e' r =
      let body = bodies_alike kids kids' k e e' r x in
      ap Truth (ranges_alike kids kids' k e e' r (λ low n. some_from low n (λ z. third_is_so (kids (with_int e x z)))) (λ low n. some_from low n (λ z. third_is_so (kids' (with_int e' x z)))) (λ low n i. some_from low n (λ z. body z i)))
  heads_alike head kids kids' k e e' r = plain_alike head kids kids' k e e' r

  mutual
    meaning_alike : (t : Tree) (e e' : Values) → R e e' → Alike (meaning w e t) (meaning w' e' t)
    meaning_alike (node head ts) e e' r = heads_alike head (λ d. meanings w d ts) (λ d. meanings w' d ts) (λ d d' q. meanings_alike ts d d' q) e e' r

    meanings_alike : (ts : Trees) (e e' : Values) → R e e' → AllAlike (meanings w e ts) (meanings w' e' ts)
    meanings_alike stop e e' r = tt
    meanings_alike (more t ts) e e' r = (meaning_alike t e e' r, meanings_alike ts e e' r)

-- ---- under the same assignment

abbrev Same : Values → Values → Type 0
Same e e' = e ≡ e'

same_agrees : Agrees Same
same_agrees = record {
  ints = λ e e' r x. ap (λ d. d.ints x) r;
  memories = λ e e' r x. same_map_where (e.memories x) (e'.memories x) (ap (λ d. d.memories x) r);
  tables = λ e e' r x. ap (λ d. d.tables x) r;
  with_same = λ e e' r x z. ap (λ d. with_int d x z) r;
}

own_world : (w : World) → RespectsAlike w → AlikeWorlds w w
own_world w k = record { bits = refl; apps = k }

pub heads_keep_alike : HeadsKeepAlike
heads_keep_alike w k head kids kids' alike env =
    heads_alike Same same_agrees w w (own_world w k) head kids kids' (λ e e' r. subst (λ d. AllAlike (kids e) (kids' d)) r (alike e)) env env refl

-- ---- settings

record AlikeValues (e e' : Values) : Type 0 where
  ints : (x : List ℕ) → e.ints x ≡ e'.ints x
  memories : (x : List ℕ) → SameMap (e.memories x) (e'.memories x)
  tables : (x : List ℕ) → e.tables x ≡ e'.tables x

int_with : (e e' : Values) → AlikeValues e e' → (y : List ℕ) (z : ℤ) → AlikeValues (with_int e y z) (with_int e' y z)
int_with e e' r y z = record { ints = λ x. ap (λ u. cond (bytes_eq x y) z u) (r.ints x); memories = r.memories; tables = r.tables }

alike_agrees : Agrees AlikeValues
alike_agrees = record { ints = λ e e' r. r.ints; memories = λ e e' r. r.memories; tables = λ e e' r. r.tables; with_same = int_with }

same_param_value : (e e' : Values) → AlikeValues e e' → (p : Param) (v : Value) → AlikeValues (with_value e p v) (with_value e' p v)
same_param_value e e' r p (Whole z) = int_with e e' r (p.name) z
same_param_value e e' r p (Truth b) = r
same_param_value e e' r p (Cells m) = record { ints = r.ints; memories = λ x. go x (bytes_eq x (p.name)); tables = r.tables }
  where
    go : (x : List ℕ) (b : Bool) → SameMap (cond b m (e.memories x)) (cond b m (e'.memories x))
    go x true = λ b o. refl
    go x false = r.memories x
same_param_value e e' r p (Blocks t) = record { ints = r.ints; memories = r.memories; tables = λ x. ap (λ u. cond (bytes_eq x (p.name)) t u) (r.tables x) }

param_value : (e e' : Values) → AlikeValues e e' → (p : Param) (v w : Value) → Alike v w → AlikeValues (with_value e p v) (with_value e' p w)
param_value e e' r p (Whole z) w a = subst (λ u. AlikeValues (with_value e p (Whole z)) (with_value e' p u)) a (same_param_value e e' r p (Whole z))
param_value e e' r p (Truth b) w a = subst (λ u. AlikeValues (with_value e p (Truth b)) (with_value e' p u)) a (same_param_value e e' r p (Truth b))
param_value e e' r p (Blocks t) w a = subst (λ u. AlikeValues (with_value e p (Blocks t)) (with_value e' p u)) a (same_param_value e e' r p (Blocks t))
param_value e e' r p (Cells m) (Cells n) a = record { ints = r.ints; memories = λ x. go x (bytes_eq x (p.name)); tables = r.tables }
  where
    go : (x : List ℕ) (b : Bool) → SameMap (cond b m (e.memories x)) (cond b n (e'.memories x))
    go x true = a
    go x false = r.memories x
param_value e e' r p (Cells m) (Whole z) a = absurd a
param_value e e' r p (Cells m) (Truth z) a = absurd a
param_value e e' r p (Cells m) (Blocks z) a = absurd a

nothing_alike : AlikeValues nothing nothing
nothing_alike = record { ints = λ x. refl; memories = λ x b o. refl; tables = λ x. refl }

bound_alike : (ps : List Param) (vs ws : List Value) → AllAlike vs ws → AlikeValues (bound ps vs) (bound ps ws)
bound_alike [] vs ws a = nothing_alike
bound_alike (p ∷ ps) [] [] a = nothing_alike
bound_alike (p ∷ ps) [] (w ∷ ws) a = absurd a
bound_alike (p ∷ ps) (v ∷ vs) [] a = absurd a
bound_alike (p ∷ ps) (v ∷ vs) (w ∷ ws) a = param_value (bound ps vs) (bound ps ws) (bound_alike ps vs ws a.1) p v w a.0

sorts_alike : (s : Sort) (v w : Value) → Alike v w → has_sort s v ≡ has_sort s w
sorts_alike s (Whole z) w a = ap (has_sort s) a
sorts_alike s (Truth b) w a = ap (has_sort s) a
sorts_alike s (Blocks t) w a = ap (has_sort s) a
sorts_alike sort.Int (Cells m) (Cells n) a = refl
sorts_alike sort.Memory (Cells m) (Cells n) a = refl
sorts_alike sort.Table (Cells m) (Cells n) a = refl
sorts_alike s (Cells m) (Whole z) a = absurd a
sorts_alike s (Cells m) (Truth z) a = absurd a
sorts_alike s (Cells m) (Blocks z) a = absurd a

arguments_alike : (ps : List Param) (vs ws : List Value) → AllAlike vs ws → are_arguments ps vs ≡ are_arguments ps ws
arguments_alike ps [] [] a = refl
arguments_alike ps [] (w ∷ ws) a = absurd a
arguments_alike ps (v ∷ vs) [] a = absurd a
arguments_alike [] (v ∷ vs) (w ∷ ws) a = refl
arguments_alike (p ∷ ps) (v ∷ vs) (w ∷ ws) a = let x = sorts_alike (p.sort) v w a.0 in let y = arguments_alike ps vs ws a.1 in λ i. x i && y i

place_alike : (vs ws : List Value) → AllAlike vs ws → (n : ℕ) → argument_at vs n ≡ argument_at ws n
place_alike [] [] a n = refl
place_alike [] (w ∷ ws) a n = absurd a
place_alike (v ∷ vs) [] a n = absurd a
place_alike (v ∷ vs) (w ∷ ws) a zero = whole_alike v w a.0
place_alike (v ∷ vs) (w ∷ ws) a (suc n) = place_alike vs ws a.1 n

abbrev Respects : Apps → Type 0
Respects apps = (f : List ℕ) (vs ws : List Value) → AllAlike vs ws → apps f vs ≡ apps f ws

function_respects : (known : Apps) (f : Logic) (own : List Value → ℤ) → Respects known → ((vs ws : List Value) → AllAlike vs ws → own vs ≡ own ws) → Respects (with_function known f own)
function_respects known f own k o x vs ws a =
    let u = arguments_alike (f.params) vs ws a in
    λ i. cond (bytes_eq x (f.name) && u i) (o vs ws a i) (k x vs ws a i)

descend_respects : (bits : ℕ) (known : Apps) (f : Logic) → Respects known → (n : ℕ) (vs ws : List Value) → AllAlike vs ws → descend bits known f n vs ≡ descend bits known f n ws
unfolding descend
descend_respects bits known f k zero vs ws a =
    let w : World = record { long_bits = bits; apps = known } in
    whole_alike _ _ (meaning_alike AlikeValues alike_agrees w w (own_world w k) (f.base) (bound (f.params) vs) (bound (f.params) ws) (bound_alike (f.params) vs ws a))
descend_respects bits known f k (suc n) vs ws a =
    let w : World = record { long_bits = bits; apps = with_function known f (descend bits known f n) } in
    let r = function_respects known f (descend bits known f n) k (descend_respects bits known f k n) in
    whole_alike _ _ (meaning_alike AlikeValues alike_agrees w w (own_world w r) (f.step) (bound (f.params) vs) (bound (f.params) ws) (bound_alike (f.params) vs ws a))

after_respects : (bits : ℕ) (known : Apps) (f : Logic) → Respects known → Respects (after bits known f)
after_respects bits known f k =
    function_respects known f (λ vs. descend bits known f (steps_of f vs) vs) k
    (λ vs ws a. ap (λ z. descend bits known f (to_nat (z -ℤ f.cut)) vs) (place_alike vs ws a (f.number)) ∙ descend_respects bits known f k (steps_of f ws) vs ws a)

apps_respect : (bits : ℕ) (known : Apps) (fs : List Logic) → Respects known → Respects (apps_from bits known fs)
apps_respect bits known [] k = k
apps_respect bits known (f ∷ fs) k = apps_respect bits (after bits known f) fs (after_respects bits known f k)

pub settings_respect : SettingsRespectAlike
unfolding world_of
settings_respect s = apps_respect s.long_bits no_apps s.logic (λ f vs ws a. refl)
