-- What the facts of a start say of its slots.
use Rattle.std.proofs.Common.{◌≡◌, ◌↔◌, ◌<◌, ℕ, zero, suc, ◌+◌, ℤ, pos, Bool, true, false, ◌&&◌, if◌then◌else◌, List, [], ◌∷◌, ◌++◌, map, Some, slice_get, refl, sym, ap, ◌∙◌, subst, arith}
use Rattle.std.specs.Prelude.{int_le, int_lt}
use Rattle.std.specs.List.{list_all}
use Rattle.std.proofs.lemmas.Bool.{and_parts}
use Rattle.std.proofs.lemmas.Option.{none-some, same_Some}
use Rattle.wp_base.specs.declared.kinds.Kind.{Kind}
use Rattle.wp_base.specs.declared.kinds.CellKind.{CellKind}
use Rattle.wp_base.specs.declared.kinds.CellKind.TheVariants as cell
use Rattle.wp_base.specs.declared.kinds.Layout.{Layout}
use Rattle.wp_base.specs.Blocks.{count, has_layout}
use Rattle.c_kinds.specs.Models.{long_bits, low, high}
use Rattle.typed_prog.specs.declared.operators.Variable.TheVariants as variables
use Rattle.acsl_encode.specs.Told.{every_cell, those}
use Rattle.qed_terms.specs.Memory.{is_well_formed, are_well_formed}
use Rattle.qed_terms.specs.Meaning as sense
use Rattle.qed_terms.specs.Meaning.{Values, truth, value, meaning, memory, table}
use Rattle.qed_terms.specs.Tree.{Tree, num, at_most, less}
use Rattle.c_runs.specs.Program.{Variable, Facts}
use Rattle.c_runs.specs.States.{global_home}
use Rattle.c_runs.specs.Scopes.{is_content}
use Rattle.typed_memories.proofs.Tests.{both_so}
use Rattle.memory_steps.specs.State.{State}
use Rattle.memory_steps.specs.Forms.{AllSo}
use Rattle.memory_steps.specs.World.{count_of}
use Rattle.memory_words.specs.Places.{Place, value as value_place, offset as offset_place, numbers, blocks, offsets, number_at, memory_at}
use Rattle.memory_words.specs.Leaves.{leaf_name, table_leaf, is_closed, or_false, closed, leaves_of, claim}
use Rattle.memory_words.proofs.Leaves.{leaf_closed, leaves_are_held}
use Rattle.memory_words.specs.Shapes.{FileCells, Shape, sizes, kind_of}
use Rattle.memory_words.specs.Readings.{Texts, leaf, memory_leaf}
use Rattle.memory_calls.proofs.Values.{value_of}
use Rattle.memory_calls.proofs.Framed.{for_kinds}
use Rattle.memory_functions.specs.Starting.{has_tree, home_trees, homes_in, count_tree, formed_tree, range_trees, file_ranges, param_ranges}

module _ (m : sense.World) (st : State) where
  abbrev pub env : Values
  env = leaves_of (st ∷ [])

  -- all are true
  abbrev pub AllTrueOf : List Tree → Type 0
  AllTrueOf fs = AllSo (st ∷ []) (map (claim m) fs)

  pub told_more : (fs gs : List Tree) → AllTrueOf fs → AllTrueOf gs → AllTrueOf (fs ++ gs)
  told_more [] gs h k = k
  told_more (f ∷ fs) gs h k = (h.0, told_more fs gs h.1 k)

  pub told_parts : (fs gs : List Tree) → AllTrueOf (fs ++ gs) → AllTrueOf fs × AllTrueOf gs
  told_parts [] gs h = (tt, h)
  told_parts (f ∷ fs) gs h = let r = told_parts fs gs h.1 in ((h.0, r.0), r.1)

  pub as_it_stands : (f : Tree) → is_closed [] f ≡ true → truth m env (closed f) ≡ truth m env f
  as_it_stands f e = ap (λ b. truth m env (or_false b f)) e

  table_is : env.tables (leaf_name 0 0) ≡ st.table
  table_is = (leaves_are_held m (st ∷ []) 0).table

  -- ---- blocks

  module _ (p : Facts) (s : Shape) (cells : FileCells) (texts : Texts) (params : ℕ) where
    has_told : (b : ℤ) (l : Layout) → truth m env (closed (has_tree m p s cells texts params b l)) ≡ has_layout st.table b l
    has_told b l = ap (λ t. has_layout t b l) table_is

    abbrev pub Has : ℕ → List Variable → Type 0
    Has x vs = (i : ℕ) (v : Variable) → slice_get vs i ≡ Some v → v.is_plain ≡ false → has_layout st.table (global_home p (x + i)) v.layout ≡ true

    abbrev own_tree : Bool → ℕ → Variable → List Tree
    own_tree b x v = if b then [] else has_tree m p s cells texts params (global_home p x) v.layout ∷ []

    home_has : (x : ℕ) (u : Variable) → AllTrueOf (own_tree u.is_plain x u) → u.is_plain ≡ false → has_layout st.table (global_home p x) u.layout ≡ true
    home_has x u h e = let one = subst (λ b. AllTrueOf (own_tree b x u)) e h in sym (has_told (global_home p x) u.layout) ∙ one.0 (pos 0) (pos 0)

    has_home : (x : ℕ) (u : Variable) → (u.is_plain ≡ false → has_layout st.table (global_home p x) u.layout ≡ true) → AllTrueOf (own_tree u.is_plain x u)
    has_home x u h = by u.is_plain refl where
      by : (b : Bool) → u.is_plain ≡ b → AllTrueOf (if b then [] else has_tree m p s cells texts params (global_home p x) u.layout ∷ [])
      by true e = tt
      by false e = ((λ b o. has_told (global_home p x) u.layout ∙ h e), tt)

    at_first : (x : ℕ) (v : Variable) → has_layout st.table (global_home p x) v.layout ≡ true → has_layout st.table (global_home p (x + 0)) v.layout ≡ true
    at_first x v h = subst (λ n. has_layout st.table (global_home p n) v.layout ≡ true) (let q : x ≡ x + 0 = omega arith in q) h

    pub homes_forth : (x : ℕ) (vs : List Variable) → AllTrueOf (home_trees m p s cells texts params x vs) → Has x vs
    homes_forth x [] h i v e n = absurd (none-some v e)
    homes_forth x (u ∷ vs) h zero v e n =
        let r = told_parts (own_tree u.is_plain x u) (home_trees m p s cells texts params (suc x) vs) h in
        at_first x v (subst (λ (v : Variable). has_layout st.table (global_home p x) v.layout ≡ true) (same_Some u v e)
        (home_has x u r.0 (ap (λ (v : Variable). v.is_plain) (same_Some u v e) ∙ n)))
    homes_forth x (u ∷ vs) h (suc i) v e n =
        let r = told_parts (own_tree u.is_plain x u) (home_trees m p s cells texts params (suc x) vs) h in
        subst (λ j. has_layout st.table (global_home p j) v.layout ≡ true) (let q : suc x + i ≡ x + suc i = omega arith in q) (homes_forth (suc x) vs r.1 i v e n)

    pub homes_back : (x : ℕ) (vs : List Variable) → Has x vs → AllTrueOf (home_trees m p s cells texts params x vs)
    homes_back x [] h = tt
    homes_back x (u ∷ vs) h =
        told_more (own_tree u.is_plain x u) (home_trees m p s cells texts params (suc x) vs)
        (has_home x u (λ e. subst (λ n. has_layout st.table (global_home p n) u.layout ≡ true) (let q : x + 0 ≡ x = omega arith in q) (h 0 u refl e)))
        (homes_back (suc x) vs
        (λ i v e n. subst (λ j. has_layout st.table (global_home p j) v.layout ≡ true) (let q : x + suc i ≡ suc x + i = omega arith in q) (h (suc i) v e n)))

    pub count_told : truth m env (closed (count_tree m p s cells texts params)) ≡ int_le (pos (suc (homes_in m p s cells texts params p.globals))) (count st.table)
    count_told = ap (λ t. int_le (pos (suc (homes_in m p s cells texts params p.globals))) (count t)) table_is

    -- ---- memories

    memory_is : (a : Place) → memory (meaning m env (memory_leaf p s cells 0 a)) ≡ memory_at (sizes p s) st a
    memory_is a = (leaves_are_held m (st ∷ []) 0).memory (sizes p s) a

    abbrev pub FormedIs : CellKind → Type 0
    FormedIs (cell.Of k) = is_well_formed (long_bits p.model) k st.table (memory_at (sizes p s) st (numbers k)) ≡ true
    FormedIs cell.Ptr = are_well_formed st.table (memory_at (sizes p s) st blocks) (memory_at (sizes p s) st offsets) ≡ true

    module _ (model : m.long_bits ≡ long_bits p.model) where
      numbers_told : (k : Kind) → truth m env (closed (formed_tree m p s cells texts params (cell.Of k)))
          ≡ is_well_formed (long_bits p.model) k st.table (memory_at (sizes p s) st (numbers k))
      numbers_told k = λ i. is_well_formed (model i) k (table_is i) (memory_is (numbers k) i)

      pointers_told : truth m env (closed (formed_tree m p s cells texts params cell.Ptr)) ≡ are_well_formed st.table (memory_at (sizes p s) st blocks) (memory_at (sizes p s) st offsets)
      pointers_told = λ i. are_well_formed (table_is i) (memory_is blocks i) (memory_is offsets i)

      formed_told : (k : CellKind) → (truth m env (closed (formed_tree m p s cells texts params k)) ≡ true) ↔ FormedIs k
      formed_told (cell.Of k) = ((λ h. sym (numbers_told k) ∙ h), (λ h. numbers_told k ∙ h))
      formed_told cell.Ptr = ((λ h. sym pointers_told ∙ h), (λ h. pointers_told ∙ h))

      abbrev is_true : CellKind → Bool
      is_true k = truth m env (closed (formed_tree m p s cells texts params k))

      list_of : (ks : List CellKind) → AllTrueOf (map (formed_tree m p s cells texts params) ks) ↔ (list_all is_true ks ≡ true)
      list_of [] = ((λ h. refl), (λ h. tt))
      list_of (k ∷ ks) = (
        (λ h. both_so (is_true k) (list_all is_true ks) (h.0 (pos 0) (pos 0)) ((list_of ks).0 h.1)),
        (λ h. let both = and_parts (is_true k) (list_all is_true ks) h in ((λ b o. both.0), (list_of ks).1 both.1)),
      )

      pub all_formed_told : AllTrueOf (map (formed_tree m p s cells texts params) (those cells.has_kind every_cell)) ↔ ((k : CellKind) → cells.has_kind k ≡ true → FormedIs k)
      all_formed_told = (
        (λ h k has. (formed_told k).0 ((for_kinds cells.has_kind is_true).0 ((list_of (those cells.has_kind every_cell)).0 h) k has)),
        (λ h. (list_of (those cells.has_kind every_cell)).1 ((for_kinds cells.has_kind is_true).1 (λ k has. (formed_told k).1 (h k has)))),
      )

    -- ---- values

    number_is : (a : Place) → value m env (leaf p s cells 0 a) ≡ number_at (sizes p s) st a
    number_is a = (leaves_are_held m (st ∷ []) 0).number (sizes p s) a

    abbrev at : Place → ℤ
    at a = number_at (sizes p s) st a

    least_told : (z : ℤ) (a : Place) → truth m env (closed (at_most (num z) (leaf p s cells 0 a))) ≡ int_le z (at a)
    least_told z a = as_it_stands (at_most (num z) (leaf p s cells 0 a)) (ap (λ b. b && true) (leaf_closed [] (sizes p s) 0 a)) ∙ ap (int_le z) (number_is a)

    most_told : (z : ℤ) (a : Place) → truth m env (closed (at_most (leaf p s cells 0 a) (num z))) ≡ int_le (at a) z
    most_told z a = as_it_stands (at_most (leaf p s cells 0 a) (num z)) (ap (λ b. b && true) (leaf_closed [] (sizes p s) 0 a)) ∙ ap (λ x. int_le x z) (number_is a)

    below_told : (a : Place) → truth m env (closed (less (leaf p s cells 0 a) (count_of (table_leaf 0)))) ≡ int_lt (at a) (count st.table)
    below_told a =
        as_it_stands (less (leaf p s cells 0 a) (count_of (table_leaf 0))) (ap (λ b. b && true) (leaf_closed [] (sizes p s) 0 a))
        ∙ (λ i. int_lt (number_is a i) (count (table_is i)))

    pub range_told : (k : CellKind) (a : Place) (y : ℤ) → AllTrueOf (range_trees m p s cells texts params k a) ↔ (is_content p (count st.table) k (value_of k (at a) y) ≡ true)
    range_told (cell.Of k) a y = (
      (λ h. both_so (int_le (low p.model k) (at a)) (int_le (at a) (high p.model k)) (sym (least_told (low p.model k) a) ∙ h.0 (pos 0) (pos 0))
          (sym (most_told (high p.model k) a) ∙ h.1.0 (pos 0) (pos 0))),
      (λ h. let both = and_parts (int_le (low p.model k) (at a)) (int_le (at a) (high p.model k)) h in
          ((λ b o. least_told (low p.model k) a ∙ both.0), ((λ b o. most_told (high p.model k) a ∙ both.1), tt))),
    )
    range_told cell.Ptr a y = (
      (λ h. both_so (int_le (pos 0) (at a)) (int_lt (at a) (count st.table)) (sym (least_told (pos 0) a) ∙ h.0 (pos 0) (pos 0)) (sym (below_told a) ∙ h.1.0 (pos 0) (pos 0))),
      (λ h. let both = and_parts (int_le (pos 0) (at a)) (int_lt (at a) (count st.table)) h in
          ((λ b o. least_told (pos 0) a ∙ both.0), ((λ b o. below_told a ∙ both.1), tt))),
    )

    -- what these places hold may be held by a cell of the kind
    abbrev pub MayHold : CellKind → (first second : Place) → Type 0
    MayHold k a b = is_content p (count st.table) k (value_of k (at a) (at b)) ≡ true

    abbrev pub FilesHold : ℕ → List Variable → Type 0
    FilesHold x vs =
        (i : ℕ) (v : Variable) → slice_get vs i ≡ Some v → v.is_plain ≡ true
        → MayHold (kind_of v) (value_place (variables.Global (x + i))) (offset_place (variables.Global (x + i)))

    abbrev file_tree : Bool → ℕ → Variable → List Tree
    file_tree b x v = if b then range_trees m p s cells texts params (kind_of v) (value_place (variables.Global x)) else []

    file_holds : (x : ℕ) (u : Variable) → AllTrueOf (file_tree u.is_plain x u) → u.is_plain ≡ true
        → MayHold (kind_of u) (value_place (variables.Global x)) (offset_place (variables.Global x))
    file_holds x u h e = (range_told (kind_of u) (value_place (variables.Global x)) (at (offset_place (variables.Global x)))).0 (subst (λ b. AllTrueOf (file_tree b x u)) e h)

    holds_file : (x : ℕ) (u : Variable) → (u.is_plain ≡ true → MayHold (kind_of u) (value_place (variables.Global x)) (offset_place (variables.Global x)))
        → AllTrueOf (file_tree u.is_plain x u)
    holds_file x u h = by u.is_plain refl where
      by : (b : Bool) → u.is_plain ≡ b → AllTrueOf (if b then range_trees m p s cells texts params (kind_of u) (value_place (variables.Global x)) else [])
      by true e = (range_told (kind_of u) (value_place (variables.Global x)) (at (offset_place (variables.Global x)))).1 (h e)
      by false e = tt

    abbrev pub AtFile : ℕ → Variable → Type 0
    AtFile n v = MayHold (kind_of v) (value_place (variables.Global n)) (offset_place (variables.Global n))

    pub files_forth : (x : ℕ) (vs : List Variable) → AllTrueOf (file_ranges m p s cells texts params x vs) → FilesHold x vs
    files_forth x [] h i v e n = absurd (none-some v e)
    files_forth x (u ∷ vs) h zero v e n =
        let r = told_parts (file_tree u.is_plain x u) (file_ranges m p s cells texts params (suc x) vs) h in
        subst (λ n. AtFile n v) (let q : x ≡ x + 0 = omega arith in q)
        (subst (AtFile x) (same_Some u v e) (file_holds x u r.0 (ap (λ (v : Variable). v.is_plain) (same_Some u v e) ∙ n)))
    files_forth x (u ∷ vs) h (suc i) v e n =
        let r = told_parts (file_tree u.is_plain x u) (file_ranges m p s cells texts params (suc x) vs) h in
        subst (λ n. AtFile n v) (let q : suc x + i ≡ x + suc i = omega arith in q) (files_forth (suc x) vs r.1 i v e n)

    pub files_back : (x : ℕ) (vs : List Variable) → FilesHold x vs → AllTrueOf (file_ranges m p s cells texts params x vs)
    files_back x [] h = tt
    files_back x (u ∷ vs) h =
        told_more (file_tree u.is_plain x u) (file_ranges m p s cells texts params (suc x) vs)
        (holds_file x u (λ e. subst (λ n. AtFile n u) (let q : x + 0 ≡ x = omega arith in q) (h 0 u refl e)))
        (files_back (suc x) vs (λ i v e n. subst (λ n. AtFile n v) (let q : x + suc i ≡ suc x + i = omega arith in q) (h (suc i) v e n)))

    abbrev pub AtLocal : ℕ → Variable → Type 0
    AtLocal n v = MayHold (kind_of v) (value_place (variables.Local n)) (offset_place (variables.Local n))

    abbrev pub ParamsHold : ℕ → ℕ → List Variable → Type 0
    ParamsHold n x vs = (i : ℕ) (v : Variable) → i < n → slice_get vs i ≡ Some v → AtLocal (x + i) v

    pub params_forth : (n x : ℕ) (vs : List Variable) → AllTrueOf (param_ranges m p s cells texts params n x vs) → ParamsHold n x vs
    params_forth zero x vs h i v l e = absurd (omega (arith, l))
    params_forth (suc n) x [] h i v l e = absurd (none-some v e)
    params_forth (suc n) x (u ∷ vs) h zero v l e =
        let r = told_parts (range_trees m p s cells texts params (kind_of u) (value_place (variables.Local x))) (param_ranges m p s cells texts params n (suc x) vs) h in
        subst (λ n. AtLocal n v) (let q : x ≡ x + 0 = omega arith in q)
        (subst (AtLocal x) (same_Some u v e) ((range_told (kind_of u) (value_place (variables.Local x)) (at (offset_place (variables.Local x)))).0 r.0))
    params_forth (suc n) x (u ∷ vs) h (suc i) v l e =
        let r = told_parts (range_trees m p s cells texts params (kind_of u) (value_place (variables.Local x))) (param_ranges m p s cells texts params n (suc x) vs) h in
        subst (λ n. AtLocal n v) (let q : suc x + i ≡ x + suc i = omega arith in q) (params_forth n (suc x) vs r.1 i v (omega (arith, l)) e)

    pub params_back : (n x : ℕ) (vs : List Variable) → ParamsHold n x vs → AllTrueOf (param_ranges m p s cells texts params n x vs)
    params_back zero x vs h = tt
    params_back (suc n) x [] h = tt
    params_back (suc n) x (u ∷ vs) h =
        told_more (range_trees m p s cells texts params (kind_of u) (value_place (variables.Local x))) (param_ranges m p s cells texts params n (suc x) vs)
        ((range_told (kind_of u) (value_place (variables.Local x)) (at (offset_place (variables.Local x)))).1
        (subst (λ n. AtLocal n u) (let q : x + 0 ≡ x = omega arith in q) (h 0 u (omega arith) refl)))
        (params_back n (suc x) vs (λ i v l e. subst (λ n. AtLocal n v) (let q : x + suc i ≡ suc x + i = omega arith in q) (h (suc i) v (omega (arith, l)) e)))
