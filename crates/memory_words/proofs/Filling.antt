-- Slots' terms in the places of leaves: a term means what it means where leaves have what the slots hold.
use Rattle.std.proofs.Common.{◌≡◌, ◌↔◌, ◌⊎◌, ℕ, ◌==◌, ℤ, pos, Bool, true, false, not, ◌&&◌, ◌||◌, if◌then◌else◌, List, [], ◌∷◌, map, refl, sym, ap, ◌∙◌, subst, inl, inr}
use Rattle.std.specs.Prelude.{◌-ℤ◌}
use Rattle.std.specs.List.{list_any}
use Rattle.std.specs.Str.{bytes_eq}
use Rattle.std.proofs.lemmas.Bool.{false≢true, and_parts, or_cases}
use Rattle.std.proofs.lemmas.Bool.Decides.{Decides-eqb}
use Rattle.std.proofs.lemmas.Slice.Eq.{bytes_eq-Decides}
use Rattle.wp_base.specs.Blocks.{to_nat}
use Rattle.qed_terms.specs.declared.head.Sort.TheVariants as sort
use Rattle.qed_terms.specs.declared.head.Head.TheVariants as h
use Rattle.qed_terms.specs.declared.head.TermOp.TheVariants as op
use Rattle.qed_terms.specs.Tree.{Tree, node, Trees, stop, more, num}
use Rattle.qed_terms.specs.Fresh.{Lacks}
use Rattle.qed_terms.specs.Meaning as sense
use Rattle.qed_terms.specs.Meaning.{Value, Whole, Truth, Cells, Blocks, Values, with_int, chosen, all_from, some_from, each_true, some_true, at_one, at_two, head_value, term_value, form_truth, meaning, meanings, value, truth, memory, table, whole, is_so}
use Rattle.wp_base.specs.Blocks.{same_truth}
use Rattle.same_memories.specs.Canonical.{canonical}
use Rattle.same_memories.specs.Alike.{SameMap, Alike, AllAlike, Respects}
use Rattle.same_memories.proofs.Order.{on_test}
use Rattle.same_memories.proofs.Listing.{canonical_holds_the_same, one_list_for_each_map}
use Rattle.same_memories.proofs.Values.{whole_alike, so_alike, memory_alike, Pair, lefts, rights, paired, as_whole, as_truth, truths, three_alike, terms_alike, forms_alike}
use Rattle.walk_steps.specs.Forms.{bang, SameBesidesBound}
use Rattle.memory_steps.specs.State.{Datum, number, cells, State, nothing}
use Rattle.memory_steps.specs.Forms.{Slots, datum_of, datum, states_of, IsClean, AreClean}
use Rattle.memory_words.specs.Places.{number_in, memory_in}
use Rattle.memory_words.specs.Leaves.{item_named, slot_named, level_named, as_integer, as_memory, as_table, is_marked, terms_in, tables_in, filled_name, fill, fill_all, is_closed, are_closed, is_closed_range, or_false, closed, leaves_of, with_one}
use Rattle.memory_words.specs.SlotLaws.{FormsAreGood}

-- ---- names

-- two names are the same as text where the test says so
bytes_same : (x y : List ℕ) → bytes_eq x y ≡ true → x ≡ y
bytes_same x y h = (bytes_eq-Decides x y).0 h

not_marked : (x y : List ℕ) → bytes_eq x y ≡ true → is_marked y ≡ true → is_marked x ≡ false → ⊥
not_marked x y e m n = false≢true (sym n ∙ (ap is_marked (bytes_same x y e) ∙ m))

lacks_unmarked : (y : List ℕ) → Lacks bang y → is_marked y ≡ true → ⊥
lacks_unmarked [] l e = false≢true e
lacks_unmarked (b ∷ y) l e = by (or_cases (b == bang) (is_marked y) e) (lacks_unmarked y l.1) where
  by : ((b == bang) ≡ true) ⊎ (is_marked y ≡ true) → (is_marked y ≡ true → ⊥) → ⊥
  by (inl e) rest = l.0 ((Decides-eqb b bang).0 e)
  by (inr e) rest = rest e

marked_lacks : (x y : List ℕ) → is_marked x ≡ true → Lacks bang y → bytes_eq y x ≡ true → ⊥
marked_lacks x y marked l e = lacks_unmarked y l (ap is_marked (bytes_same y x e) ∙ marked)

-- ---- slots

item_values : {X Y : Type 0} (f : X → Y) (d : X) (xs : List X) (name : List ℕ) → item_named (f d) (map f xs) name ≡ f (item_named d xs name)
item_values f d [] name = refl
item_values f d (x ∷ xs) [] = refl
item_values f d (x ∷ xs) (b ∷ name) = item_values f d xs name

-- ---- values

-- over alike lists of values
over : (f g : List Value → Value) → ((ps : List Pair) → Alike (f (lefts ps)) (g (rights ps))) → (vs us : List Value) → AllAlike vs us → Alike (f vs) (g us)
over f g alike vs us a =
    let both = paired vs us a in
    subst (λ ws. Alike (f ws) (g us)) (sym both.left) (subst (λ ws. Alike (f (lefts both.pairs)) (g ws)) (sym both.right) (alike both.pairs))

number_in_datum : (v : Value) → number_in (datum_of v) ≡ whole v
number_in_datum (Whole z) = refl
number_in_datum (Truth b) = refl
number_in_datum (Cells m) = refl
number_in_datum (Blocks t) = refl

memory_in_datum : (v : Value) → SameMap (memory_in (datum_of v)) (memory v)
memory_in_datum (Whole z) b o = refl
memory_in_datum (Truth t) b o = refl
memory_in_datum (Cells m) b o = canonical_holds_the_same m b o
memory_in_datum (Blocks t) b o = refl

module _ (m : sense.World) where
  slot_values : (env : Values) (ss : List Slots) (name : List ℕ)
      → slot_named nothing (map (λ (st : State). st.slots) (states_of m env ss)) name ≡ datum m env (slot_named (num (pos 0)) (terms_in ss) name)
  slot_values env [] name = refl
  slot_values env (s ∷ ss) [] = refl
  slot_values env (s ∷ ss) (b ∷ name) = by (b == 98) (slot_values env ss name) where
    by : (t : Bool) → slot_named nothing (map (λ (st : State). st.slots) (states_of m env ss)) name ≡ datum m env (slot_named (num (pos 0)) (terms_in ss) name)
        → (if t then item_named nothing (map (datum m env) s.terms) name else slot_named nothing (map (λ (st : State). st.slots) (states_of m env ss)) name)
        ≡ datum m env (if t then item_named (num (pos 0)) s.terms name else slot_named (num (pos 0)) (terms_in ss) name)
    by true rest = item_values (datum m env) (num (pos 0)) s.terms name
    by false rest = rest

  level_values : (env : Values) (ss : List Slots) (name : List ℕ)
      → level_named [] (map (λ (st : State). st.table) (states_of m env ss)) name ≡ table (meaning m env (level_named (num (pos 0)) (tables_in ss) name))
  level_values env [] name = refl
  level_values env (s ∷ ss) [] = refl
  level_values env (s ∷ ss) (b ∷ name) = by (b == 98) (level_values env ss name) where
    by : (t : Bool) → level_named [] (map (λ (st : State). st.table) (states_of m env ss)) name ≡ table (meaning m env (level_named (num (pos 0)) (tables_in ss) name))
        → (if t then table (meaning m env s.table) else level_named [] (map (λ (st : State). st.table) (states_of m env ss)) name)
        ≡ table (meaning m env (if t then s.table else level_named (num (pos 0)) (tables_in ss) name))
    by true rest = refl
    by false rest = rest

  integer_means : (env : Values) (t : Tree) → meaning m env (as_integer t) ≡ Whole (value m env t)
  integer_means env (node (h.Num z) ts) = refl
  integer_means env (node (h.Var x sort.Int) ts) = refl
  integer_means env (node (h.Var x sort.Memory) ts) = refl
  integer_means env (node (h.Var x sort.Table) ts) = refl
  integer_means env (node (h.Term op.Add) ts) = refl
  integer_means env (node (h.Term op.Sub) ts) = refl
  integer_means env (node (h.Term op.Mul) ts) = refl
  integer_means env (node (h.Term op.Neg) ts) = refl
  integer_means env (node (h.Term op.Div) ts) = refl
  integer_means env (node (h.Term op.Mod) ts) = refl
  integer_means env (node (h.Term (op.Wrap k)) ts) = refl
  integer_means env (node (h.Term op.ShiftLeft) ts) = refl
  integer_means env (node (h.Term op.ShiftRight) ts) = refl
  integer_means env (node (h.Term op.BitAnd) ts) = refl
  integer_means env (node (h.Term op.BitOr) ts) = refl
  integer_means env (node (h.Term op.BitXor) ts) = refl
  integer_means env (node (h.Term op.BitNot) ts) = refl
  integer_means env (node (h.Term op.Load) ts) = refl
  integer_means env (node (h.Term op.Count) ts) = refl
  integer_means env (node (h.Term op.Len) ts) = refl
  integer_means env (node (h.Term op.Store) ts) = refl
  integer_means env (node (h.Term (op.Alloc layout)) ts) = refl
  integer_means env (node (h.Term op.Grow) ts) = refl
  integer_means env (node h.Ite ts) = refl
  integer_means env (node (h.App f) ts) = refl
  integer_means env (node (h.Form o) ts) = refl
  integer_means env (node h.True ts) = refl
  integer_means env (node h.False ts) = refl
  integer_means env (node h.Not ts) = refl
  integer_means env (node h.And ts) = refl
  integer_means env (node h.Or ts) = refl
  integer_means env (node h.Imp ts) = refl
  integer_means env (node h.Iff ts) = refl
  integer_means env (node (h.Forall x) ts) = refl
  integer_means env (node (h.Exists x) ts) = refl

  memory_means : (env : Values) (t : Tree) → meaning m env (as_memory t) ≡ Cells (memory (meaning m env t))
  memory_means env (node (h.Num z) ts) = refl
  memory_means env (node (h.Var x sort.Int) ts) = refl
  memory_means env (node (h.Var x sort.Memory) ts) = refl
  memory_means env (node (h.Var x sort.Table) ts) = refl
  memory_means env (node (h.Term op.Add) ts) = refl
  memory_means env (node (h.Term op.Sub) ts) = refl
  memory_means env (node (h.Term op.Mul) ts) = refl
  memory_means env (node (h.Term op.Neg) ts) = refl
  memory_means env (node (h.Term op.Div) ts) = refl
  memory_means env (node (h.Term op.Mod) ts) = refl
  memory_means env (node (h.Term (op.Wrap k)) ts) = refl
  memory_means env (node (h.Term op.ShiftLeft) ts) = refl
  memory_means env (node (h.Term op.ShiftRight) ts) = refl
  memory_means env (node (h.Term op.BitAnd) ts) = refl
  memory_means env (node (h.Term op.BitOr) ts) = refl
  memory_means env (node (h.Term op.BitXor) ts) = refl
  memory_means env (node (h.Term op.BitNot) ts) = refl
  memory_means env (node (h.Term op.Load) ts) = refl
  memory_means env (node (h.Term op.Count) ts) = refl
  memory_means env (node (h.Term op.Len) ts) = refl
  memory_means env (node (h.Term op.Store) ts) = refl
  memory_means env (node (h.Term (op.Alloc layout)) ts) = refl
  memory_means env (node (h.Term op.Grow) ts) = refl
  memory_means env (node h.Ite ts) = refl
  memory_means env (node (h.App f) ts) = refl
  memory_means env (node (h.Form o) ts) = refl
  memory_means env (node h.True ts) = refl
  memory_means env (node h.False ts) = refl
  memory_means env (node h.Not ts) = refl
  memory_means env (node h.And ts) = refl
  memory_means env (node h.Or ts) = refl
  memory_means env (node h.Imp ts) = refl
  memory_means env (node h.Iff ts) = refl
  memory_means env (node (h.Forall x) ts) = refl
  memory_means env (node (h.Exists x) ts) = refl

  table_means : (env : Values) (t : Tree) → meaning m env (as_table t) ≡ Blocks (table (meaning m env t))
  table_means env (node (h.Num z) ts) = refl
  table_means env (node (h.Var x sort.Int) ts) = refl
  table_means env (node (h.Var x sort.Memory) ts) = refl
  table_means env (node (h.Var x sort.Table) ts) = refl
  table_means env (node (h.Term op.Add) ts) = refl
  table_means env (node (h.Term op.Sub) ts) = refl
  table_means env (node (h.Term op.Mul) ts) = refl
  table_means env (node (h.Term op.Neg) ts) = refl
  table_means env (node (h.Term op.Div) ts) = refl
  table_means env (node (h.Term op.Mod) ts) = refl
  table_means env (node (h.Term (op.Wrap k)) ts) = refl
  table_means env (node (h.Term op.ShiftLeft) ts) = refl
  table_means env (node (h.Term op.ShiftRight) ts) = refl
  table_means env (node (h.Term op.BitAnd) ts) = refl
  table_means env (node (h.Term op.BitOr) ts) = refl
  table_means env (node (h.Term op.BitXor) ts) = refl
  table_means env (node (h.Term op.BitNot) ts) = refl
  table_means env (node (h.Term op.Load) ts) = refl
  table_means env (node (h.Term op.Count) ts) = refl
  table_means env (node (h.Term op.Len) ts) = refl
  table_means env (node (h.Term op.Store) ts) = refl
  table_means env (node (h.Term (op.Alloc layout)) ts) = refl
  table_means env (node (h.Term op.Grow) ts) = refl
  table_means env (node h.Ite ts) = refl
  table_means env (node (h.App f) ts) = refl
  table_means env (node (h.Form o) ts) = refl
  table_means env (node h.True ts) = refl
  table_means env (node h.False ts) = refl
  table_means env (node h.Not ts) = refl
  table_means env (node h.And ts) = refl
  table_means env (node h.Or ts) = refl
  table_means env (node h.Imp ts) = refl
  table_means env (node h.Iff ts) = refl
  table_means env (node (h.Forall x) ts) = refl
  table_means env (node (h.Exists x) ts) = refl

  module _ (respects : Respects m) (ss : List Slots) (clean : AreClean m ss) where
    abbrev item_in : Values → List ℕ → Datum
    item_in env x = slot_named nothing (map (λ (st : State). st.slots) (states_of m env ss)) x

    -- the second values are those of the slots, and of the names that are bound the first ones
    record Tells (env env' : Values) (xs : List (List ℕ)) : Type 0 where
      slots : (x : List ℕ) → is_marked x ≡ false → env'.ints x ≡ number_in (item_in env x)
      bound : (x : List ℕ) → list_any (bytes_eq x) xs ≡ true → env.ints x ≡ env'.ints x
      memories : (x : List ℕ) → env'.memories x ≡ memory_in (item_in env x)
      tables : (x : List ℕ) → env'.tables x ≡ level_named [] (map (λ (st : State). st.table) (states_of m env ss)) x

    in_int : (env : Values) (x : List ℕ) (z : ℤ) → is_marked x ≡ true → SameBesidesBound env (with_int env x z)
    in_int env x z marked = record { ints = ints; memories = refl; tables = refl } where
      ints : (y : List ℕ) → Lacks bang y → env.ints y ≡ (if bytes_eq y x then z else env.ints y)
      ints y lacks = on_test (bytes_eq y x) (λ e. absurd (marked_lacks x y marked lacks e)) (λ e. sym (ap (λ t. if t then z else env.ints y) e))

    under : (env env' : Values) (xs : List (List ℕ)) (x : List ℕ) (z : ℤ) → is_marked x ≡ true → Tells env env' xs
        → Tells (with_int env x z) (with_int env' x z) (x ∷ xs)
    under env env' xs x z marked tells = record {
      slots = slots;
      bound = bound;
      memories = λ y. tells.memories y ∙ ap (λ sts. memory_in (slot_named nothing (map (λ (st : State). st.slots) sts) y)) same;
      tables = λ y. tells.tables y ∙ ap (λ sts. level_named [] (map (λ (st : State). st.table) sts) y) same;
    }
      where
        same : states_of m env ss ≡ states_of m (with_int env x z) ss
        same = clean env (with_int env x z) (in_int env x z marked)

        slots : (y : List ℕ) → is_marked y ≡ false → (if bytes_eq y x then z else env'.ints y) ≡ number_in (item_in (with_int env x z) y)
        slots y unmarked = on_test (bytes_eq y x) (λ e. absurd (not_marked y x e marked unmarked))
            (λ e. ap (λ t. if t then z else env'.ints y) e ∙ tells.slots y unmarked
            ∙ ap (λ sts. number_in (slot_named nothing (map (λ (st : State). st.slots) sts) y)) same)

        bound : (y : List ℕ) → list_any (bytes_eq y) (x ∷ xs) ≡ true → (if bytes_eq y x then z else env.ints y) ≡ (if bytes_eq y x then z else env'.ints y)
        bound y k = by (bytes_eq y x) k where
          by : (t : Bool) → (t || list_any (bytes_eq y) xs) ≡ true → (if t then z else env.ints y) ≡ (if t then z else env'.ints y)
          by true k = refl
          by false k = tells.bound y k

    -- ---- leaves

    leaf_means : (env env' : Values) (xs : List (List ℕ)) (x : List ℕ) (ts : Trees) → (not (is_marked x) || list_any (bytes_eq x) xs) ≡ true → Tells env env' xs
        → meaning m env (filled_name ss x ts) ≡ Whole (env'.ints x)
    leaf_means env env' xs x ts so tells = on_test (is_marked x)
        (λ e. ap (λ t. meaning m env (if t then node (h.Var x sort.Int) ts else as_integer (slot_named (num (pos 0)) (terms_in ss) x))) e
        ∙ ap Whole (tells.bound x (sym (ap (λ t. not t || list_any (bytes_eq x) xs) e) ∙ so)))
        (λ e. ap (λ t. meaning m env (if t then node (h.Var x sort.Int) ts else as_integer (slot_named (num (pos 0)) (terms_in ss) x))) e
        ∙ integer_means env (slot_named (num (pos 0)) (terms_in ss) x)
        ∙ ap Whole (sym (tells.slots x e ∙ ap number_in (slot_values env ss x) ∙ number_in_datum (meaning m env (slot_named (num (pos 0)) (terms_in ss) x)))))

    memory_leaf_means : (env env' : Values) (xs : List (List ℕ)) (x : List ℕ) → Tells env env' xs
        → Alike (meaning m env (as_memory (slot_named (num (pos 0)) (terms_in ss) x))) (Cells (env'.memories x))
    memory_leaf_means env env' xs x tells =
        let t = slot_named (num (pos 0)) (terms_in ss) x in
        subst (λ v. Alike v (Cells (env'.memories x))) (sym (memory_means env t))
        (subst (λ n. SameMap (memory (meaning m env t)) n) (sym (tells.memories x ∙ ap memory_in (slot_values env ss x)))
        (λ b o. sym (memory_in_datum (meaning m env t) b o)))

    table_leaf_means : (env env' : Values) (xs : List (List ℕ)) (x : List ℕ) → Tells env env' xs
        → Alike (meaning m env (as_table (level_named (num (pos 0)) (tables_in ss) x))) (Blocks (env'.tables x))
    table_leaf_means env env' xs x tells =
        let t = level_named (num (pos 0)) (tables_in ss) x in
        subst (λ v. Alike v (Blocks (env'.tables x))) (sym (table_means env t)) (sym (tells.tables x ∙ level_values env ss x))

    -- ---- trees

    by_truths : (f : List Bool → Bool) (vs us : List Value) → AllAlike vs us → f (map is_so vs) ≡ f (map is_so us)
    by_truths f vs us a = over (λ ws. Truth (f (map is_so ws))) (λ ws. Truth (f (map is_so ws))) (λ ps. ap f (truths ps)) vs us a

    record RangeParts (xs : List (List ℕ)) (x : List ℕ) (low high body : Tree) : Type 0 where
      marked : is_marked x ≡ true
      low_closed : is_closed xs low ≡ true
      high_closed : is_closed xs high ≡ true
      body_closed : is_closed (x ∷ xs) body ≡ true

    range_parts : (xs : List (List ℕ)) (x : List ℕ) (low high body : Tree) → (is_marked x && is_closed_range xs x (more low (more high (more body stop)))) ≡ true
        → RangeParts xs x low high body
    range_parts xs x low high body c =
        let both = and_parts (is_marked x) (is_closed_range xs x (more low (more high (more body stop)))) c in
        let all = and_parts (is_closed xs low && is_closed xs high) (is_closed (x ∷ xs) body) both.1 in
        let ends = and_parts (is_closed xs low) (is_closed xs high) all.0 in
        record { marked = both.0; low_closed = ends.0; high_closed = ends.1; body_closed = all.1 }

    mutual
      means : (t : Tree) (env env' : Values) (xs : List (List ℕ)) → is_closed xs t ≡ true → Tells env env' xs → Alike (meaning m env (fill ss t)) (meaning m env' t)
      means (node (h.Num z) ts) env env' xs c tells = refl
      means (node (h.Var x sort.Int) ts) env env' xs c tells = subst (λ v. Alike v (Whole (env'.ints x))) (sym (leaf_means env env' xs x ts c tells)) refl
      means (node (h.Var x sort.Memory) ts) env env' xs c tells = memory_leaf_means env env' xs x tells
      means (node (h.Var x sort.Table) ts) env env' xs c tells = table_leaf_means env env' xs x tells
      means (node (h.Term o) ts) env env' xs c tells =
          over (term_value m o) (term_value m o) (terms_alike m o) (meanings m env (fill_all ss ts)) (meanings m env' ts) (all_mean ts env env' xs c tells)
      means (node h.Ite ts) env env' xs c tells =
          over (head_value m env h.Ite) (head_value m env' h.Ite)
          (λ ps. three_alike (pos 0) chosen chosen (λ p q r i. if as_truth p i then as_whole q i else as_whole r i) ps)
          (meanings m env (fill_all ss ts)) (meanings m env' ts) (all_mean ts env env' xs c tells)
      means (node (h.App f) ts) env env' xs c tells = respects f (meanings m env (fill_all ss ts)) (meanings m env' ts) (all_mean ts env env' xs c tells)
      means (node (h.Form o) ts) env env' xs c tells =
          over (head_value m env (h.Form o)) (head_value m env' (h.Form o)) (forms_alike m o) (meanings m env (fill_all ss ts)) (meanings m env' ts)
          (all_mean ts env env' xs c tells)
      means (node h.True ts) env env' xs c tells = refl
      means (node h.False ts) env env' xs c tells = refl
      means (node h.Not ts) env env' xs c tells =
          by_truths (at_one false not) (meanings m env (fill_all ss ts)) (meanings m env' ts) (all_mean ts env env' xs c tells)
      means (node h.And ts) env env' xs c tells =
          by_truths each_true (meanings m env (fill_all ss ts)) (meanings m env' ts) (all_mean ts env env' xs c tells)
      means (node h.Or ts) env env' xs c tells =
          by_truths some_true (meanings m env (fill_all ss ts)) (meanings m env' ts) (all_mean ts env env' xs c tells)
      means (node h.Imp ts) env env' xs c tells =
          by_truths (at_two false (λ a b. not a || b)) (meanings m env (fill_all ss ts)) (meanings m env' ts) (all_mean ts env env' xs c tells)
      means (node h.Iff ts) env env' xs c tells =
          by_truths (at_two false same_truth) (meanings m env (fill_all ss ts)) (meanings m env' ts) (all_mean ts env env' xs c tells)
      means (node (h.Forall x) stop) env env' xs c tells = refl
      means (node (h.Forall x) (more low stop)) env env' xs c tells = refl
      means (node (h.Forall x) (more low (more high stop))) env env' xs c tells = refl
      means (node (h.Forall x) (more low (more high (more body stop)))) env env' xs c tells =
          let parts = range_parts xs x low high body c in
          let from = whole_alike (meaning m env (fill ss low)) (meaning m env' low) (means low env env' xs parts.low_closed tells) in
          let to = whole_alike (meaning m env (fill ss high)) (meaning m env' high) (means high env env' xs parts.high_closed tells) in
          λ i. all_from (from i) (to_nat (to i -ℤ from i))
          (λ z. so_alike (meaning m (with_int env x z) (fill ss body)) (meaning m (with_int env' x z) body)
          (means body (with_int env x z) (with_int env' x z) (x ∷ xs) parts.body_closed (under env env' xs x z parts.marked tells)) i)
      means (node (h.Forall x) (more low (more high (more body (more t ts))))) env env' xs c tells = refl
      means (node (h.Exists x) stop) env env' xs c tells = refl
      means (node (h.Exists x) (more low stop)) env env' xs c tells = refl
      means (node (h.Exists x) (more low (more high stop))) env env' xs c tells = refl
      means (node (h.Exists x) (more low (more high (more body stop)))) env env' xs c tells =
          let parts = range_parts xs x low high body c in
          let from = whole_alike (meaning m env (fill ss low)) (meaning m env' low) (means low env env' xs parts.low_closed tells) in
          let to = whole_alike (meaning m env (fill ss high)) (meaning m env' high) (means high env env' xs parts.high_closed tells) in
          λ i. some_from (from i) (to_nat (to i -ℤ from i))
          (λ z. so_alike (meaning m (with_int env x z) (fill ss body)) (meaning m (with_int env' x z) body)
          (means body (with_int env x z) (with_int env' x z) (x ∷ xs) parts.body_closed (under env env' xs x z parts.marked tells)) i)
      means (node (h.Exists x) (more low (more high (more body (more t ts))))) env env' xs c tells = refl

      all_mean : (ts : Trees) (env env' : Values) (xs : List (List ℕ)) → are_closed xs ts ≡ true → Tells env env' xs
          → AllAlike (meanings m env (fill_all ss ts)) (meanings m env' ts)
      all_mean stop env env' xs c tells = tt
      all_mean (more t ts) env env' xs c tells =
          let both = and_parts (is_closed xs t) (are_closed xs ts) c in (means t env env' xs both.0 tells, all_mean ts env env' xs both.1 tells)

    tells_leaves : (env : Values) → Tells env (leaves_of (states_of m env ss)) []
    tells_leaves env = record { slots = λ x e. refl; bound = λ x e. absurd (false≢true e); memories = λ x. refl; tables = λ x. refl }

    -- what is closed, in the slots and over what they hold
    pub closed_means : (env : Values) (t : Tree) → Alike (meaning m env (fill ss (closed t))) (meaning m (leaves_of (states_of m env ss)) (closed t))
    closed_means env t = by (is_closed [] t) refl where
      by : (b : Bool) → is_closed [] t ≡ b → Alike (meaning m env (fill ss (or_false b t))) (meaning m (leaves_of (states_of m env ss)) (or_false b t))
      by true e = means t env (leaves_of (states_of m env ss)) [] e (tells_leaves env)
      by false e = refl

    pub closed_truth : (env : Values) (t : Tree) → truth m env (fill ss (closed t)) ≡ truth m (leaves_of (states_of m env ss)) (closed t)
    closed_truth env t = so_alike (meaning m env (fill ss (closed t))) (meaning m (leaves_of (states_of m env ss)) (closed t)) (closed_means env t)

    pub closed_number : (env : Values) (t : Tree) → datum m env (as_integer (fill ss (closed t))) ≡ number (value m (leaves_of (states_of m env ss)) (closed t))
    closed_number env t =
        ap datum_of (integer_means env (fill ss (closed t)))
        ∙ ap number (whole_alike (meaning m env (fill ss (closed t))) (meaning m (leaves_of (states_of m env ss)) (closed t)) (closed_means env t))

    pub closed_memory : (env : Values) (t : Tree)
        → datum m env (as_memory (fill ss (closed t))) ≡ cells (canonical (memory (meaning m (leaves_of (states_of m env ss)) (closed t))))
    closed_memory env t =
        let v = meaning m env (fill ss (closed t)) in
        let u = meaning m (leaves_of (states_of m env ss)) (closed t) in
        ap datum_of (memory_means env (fill ss (closed t))) ∙ ap cells (one_list_for_each_map (memory v) (memory u) (memory_alike v u (closed_means env t)))

  -- with one more datum in front
  more_clean : (ss : List Slots) (t : Tree) → AreClean m ss → IsClean m t → AreClean m (with_one t ss)
  more_clean ss t clean one env env' same =
      let a = one env env' same in let b = clean env env' same in λ i. record { slots = a i ∷ []; table = [] } ∷ b i

-- both ways, where the claim is the same at all addresses
at_all : {x y : Bool} → x ≡ y → (x ≡ true) ↔ ((b o : ℤ) → y ≡ true)
at_all e = (λ k b o. sym e ∙ k, λ k. e ∙ k (pos 0) (pos 0))

pub forms_are_good : FormsAreGood
forms_are_good m respects t = record {
  form = λ env ss clean. closed_truth m respects ss clean env t;
  number = record { told = λ env ss clean. closed_number m respects ss clean env t; sort = λ sts. tt };
  memory = record { told = λ env ss clean. closed_memory m respects ss clean env t; sort = λ sts. tt };
  claim = λ env ss clean. at_all (closed_truth m respects ss clean env t);
  fact = λ env ss u clean one. at_all (closed_truth m respects (with_one u ss) (more_clean m ss u clean one) env t);
}
