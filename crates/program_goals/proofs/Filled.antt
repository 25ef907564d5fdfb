-- What is written where slots' terms take the leaves' places is well formed, and has no free names but those in the slots.
use Rattle.std.proofs.Common.{◌≡◌, ◌⊎◌, ℕ, suc, pos, Bool, true, false, not, ◌&&◌, ◌||◌, if◌then◌else◌, List, [], ◌∷◌, refl, sym, ap, ◌∙◌, subst, inl, inr, ⊎_elim}
use Rattle.std.specs.List.{list_any}
use Rattle.std.specs.Str.{bytes_eq}
use Rattle.std.specs.Prelude.{◌==◌}
use Rattle.std.proofs.lemmas.Bool.{false≢true, and_parts}
use Rattle.std.proofs.lemmas.Slice.Eq.{bytes_eq-Decides}
use Rattle.qed_terms.specs.declared.head.Sort.{Sort}
use Rattle.qed_terms.specs.declared.head.Sort.TheVariants as sort
use Rattle.qed_terms.specs.declared.head.Head.{Head}
use Rattle.qed_terms.specs.declared.head.Head.TheVariants as h
use Rattle.qed_terms.specs.declared.head.TermOp.{TermOp}
use Rattle.qed_terms.specs.declared.head.TermOp.TheVariants as op
use Rattle.qed_terms.specs.Tree.{Tree, node, Trees, stop, more, num}
use Rattle.qed_terms.specs.WellFormed.{Place, term, formula, argument, int, same_sort, may_stand, kid_places, kid_count, fits, all_fit}
use Rattle.qed_terms.specs.Free.{is_free, free_among}
use Rattle.acsl_encode.specs.WellFormed.{IsInt, IsFormula}
use Rattle.walk_steps.specs.Forms.{Slots}
use Rattle.walk_steps.specs.Texts.{AllTerms, AllSlots, IsGiven, NamesAreGiven}
use Rattle.walk_steps.proofs.Lists.{or_parts}
use Rattle.program_steps.specs.Leaves.{item_named, slot_named, is_integer_head, as_integer, is_marked, filled_name, fill, fill_all, is_closed, are_closed, is_closed_range, or_false, closed}
use Rattle.program_steps.proofs.Filling.{on_bool}
use Rattle.program_goals.proofs.Names.{and_both}

-- ---- what stands for a leaf

module _ (Term Formula : Tree → Type 0) (zero_so : Term (num (pos 0))) where
  item_in : (ts : Slots) → AllTerms Term Formula ts → (x : List ℕ) → Term (item_named (num (pos 0)) ts x)
  item_in [] h x = zero_so
  item_in (t ∷ ts) h [] = h.0
  item_in (t ∷ ts) h (b ∷ x) = item_in ts h.1 x

  slot_in : (ss : List Slots) → AllSlots Term Formula ss → (x : List ℕ) → Term (slot_named (num (pos 0)) ss x)
  slot_in [] h x = zero_so
  slot_in (ts ∷ ss) h [] = zero_so
  slot_in (ts ∷ ss) h (b ∷ x) = by (b == 98) (slot_in ss h.1 x) where
    by : (t : Bool) → Term (slot_named (num (pos 0)) ss x) → Term (if t then item_named (num (pos 0)) ts x else slot_named (num (pos 0)) ss x)
    by true rest = item_in ts h.0 x
    by false rest = rest

  integer_in : (t : Tree) → Term t → Term (as_integer t)
  integer_in (node head ts) h = by (is_integer_head head) where
    by : (b : Bool) → Term (if b then node head ts else num (pos 0))
    by true = h
    by false = zero_so

  leaf_in : (ss : List Slots) → AllSlots Term Formula ss → (x : List ℕ) → Term (as_integer (slot_named (num (pos 0)) ss x))
  leaf_in ss h x = integer_in (slot_named (num (pos 0)) ss x) (slot_in ss h x)

-- ---- well formed

zero_int : IsInt (num (pos 0))
zero_int = record { int = refl; argument = refl }

-- an integer's term may stand where one of its sort may
at_place : (place : Place) (x : List ℕ) (t : Tree) → IsInt t → may_stand place (h.Var x sort.Int) ≡ true → fits place t ≡ true
at_place (term sort.Int) x t i e = i.int
at_place (term sort.Memory) x t i e = absurd (false≢true (and_parts _ _ e).1)
at_place (term sort.Table) x t i e = absurd (false≢true (and_parts _ _ e).1)
at_place formula x t i e = absurd (false≢true (and_parts _ _ e).1)
at_place argument x t i e = i.argument

module _ (ss : List Slots) (slots : AllSlots IsInt IsFormula ss) where
  same_count : (ts : Trees) → kid_count ts ≡ kid_count (fill_all ss ts)
  same_count stop = refl
  same_count (more t ts) = ap suc (same_count ts)

  name_filled : (place : Place) (x : List ℕ) (ts : Trees) → fits place (node (h.Var x sort.Int) ts) ≡ true → fits place (filled_name ss x ts) ≡ true
  name_filled place x ts e = by (is_marked x) where
    by : (b : Bool) → fits place (if b then node (h.Var x sort.Int) ts else as_integer (slot_named (num (pos 0)) ss x)) ≡ true
    by true = e
    by false = at_place place x (as_integer (slot_named (num (pos 0)) ss x)) (leaf_in IsInt IsFormula zero_int ss slots x) (and_parts _ _ e).0

  kids_filled : (place : Place) (head : Head) (ts : Trees) → (all_fit (kid_places head (kid_count ts)) ts ≡ true → all_fit (kid_places head (kid_count ts)) (fill_all ss ts) ≡ true)
      → fits place (node head ts) ≡ true → fits place (node head (fill_all ss ts)) ≡ true
  kids_filled place head ts below e =
      let both = and_parts (may_stand place head) (all_fit (kid_places head (kid_count ts)) ts) e in
      and_both both.0 (ap (λ n. all_fit (kid_places head n) (fill_all ss ts)) (sym (same_count ts)) ∙ below both.1)

  mutual
    pub tree_filled : (place : Place) (t : Tree) → fits place t ≡ true → fits place (fill ss t) ≡ true
    tree_filled place (node (h.Num z) ts) e = kids_filled place (h.Num z) ts (trees_filled (kid_places (h.Num z) (kid_count ts)) ts) e
    tree_filled place (node (h.Var x sort.Int) ts) e = name_filled place x ts e
    tree_filled place (node (h.Var x sort.Memory) ts) e = kids_filled place (h.Var x sort.Memory) ts (trees_filled (kid_places (h.Var x sort.Memory) (kid_count ts)) ts) e
    tree_filled place (node (h.Var x sort.Table) ts) e = kids_filled place (h.Var x sort.Table) ts (trees_filled (kid_places (h.Var x sort.Table) (kid_count ts)) ts) e
    tree_filled place (node (h.Term o) ts) e = kids_filled place (h.Term o) ts (trees_filled (kid_places (h.Term o) (kid_count ts)) ts) e
    tree_filled place (node h.Ite ts) e = kids_filled place h.Ite ts (trees_filled (kid_places h.Ite (kid_count ts)) ts) e
    tree_filled place (node (h.App f) ts) e = kids_filled place (h.App f) ts (trees_filled (kid_places (h.App f) (kid_count ts)) ts) e
    tree_filled place (node (h.Form o) ts) e = kids_filled place (h.Form o) ts (trees_filled (kid_places (h.Form o) (kid_count ts)) ts) e
    tree_filled place (node h.True ts) e = kids_filled place h.True ts (trees_filled (kid_places h.True (kid_count ts)) ts) e
    tree_filled place (node h.False ts) e = kids_filled place h.False ts (trees_filled (kid_places h.False (kid_count ts)) ts) e
    tree_filled place (node h.Not ts) e = kids_filled place h.Not ts (trees_filled (kid_places h.Not (kid_count ts)) ts) e
    tree_filled place (node h.And ts) e = kids_filled place h.And ts (trees_filled (kid_places h.And (kid_count ts)) ts) e
    tree_filled place (node h.Or ts) e = kids_filled place h.Or ts (trees_filled (kid_places h.Or (kid_count ts)) ts) e
    tree_filled place (node h.Imp ts) e = kids_filled place h.Imp ts (trees_filled (kid_places h.Imp (kid_count ts)) ts) e
    tree_filled place (node h.Iff ts) e = kids_filled place h.Iff ts (trees_filled (kid_places h.Iff (kid_count ts)) ts) e
    tree_filled place (node (h.Forall x) ts) e = kids_filled place (h.Forall x) ts (trees_filled (kid_places (h.Forall x) (kid_count ts)) ts) e
    tree_filled place (node (h.Exists x) ts) e = kids_filled place (h.Exists x) ts (trees_filled (kid_places (h.Exists x) (kid_count ts)) ts) e

    trees_filled : (places : List Place) (ts : Trees) → all_fit places ts ≡ true → all_fit places (fill_all ss ts) ≡ true
    trees_filled [] stop e = e
    trees_filled [] (more t ts) e = absurd (false≢true e)
    trees_filled (place ∷ places) stop e = absurd (false≢true e)
    trees_filled (place ∷ places) (more t ts) e =
        let both = and_parts (fits place t) (all_fit places ts) e in and_both (tree_filled place t both.0) (trees_filled places ts both.1)

  pub formula_filled : (f : Tree) → fits formula f ≡ true → IsFormula (fill ss (closed f))
  formula_filled f e = by (is_closed [] f) where
    by : (b : Bool) → fits formula (fill ss (or_false b f)) ≡ true
    by true = tree_filled formula f e
    by false = refl

  -- a term for an integer that is no name is none of a memory
  pub int_filled : (t : Tree) → fits int t ≡ true → is_closed [] t ≡ true → IsInt (fill ss t)
  int_filled (node (h.Num z) ts) e c = record { int = tree_filled int (node (h.Num z) ts) e; argument = tree_filled int (node (h.Num z) ts) e }
  int_filled (node (h.Var x sort.Int) ts) e c = on_bool (is_marked x)
      (λ m. absurd (false≢true (sym (ap (λ b. not b || false) m) ∙ c)))
      (λ m. subst IsInt (sym (ap (λ b. if b then node (h.Var x sort.Int) ts else as_integer (slot_named (num (pos 0)) ss x)) m)) (leaf_in IsInt IsFormula zero_int ss slots x))
  int_filled (node (h.Var x sort.Memory) ts) e c = absurd (false≢true c)
  int_filled (node (h.Var x sort.Table) ts) e c = absurd (false≢true c)
  int_filled (node (h.Term o) ts) e c = record { int = tree_filled int (node (h.Term o) ts) e; argument = term_argument o (tree_filled int (node (h.Term o) ts) e) } where
    term_argument : (o : TermOp) → fits int (node (h.Term o) (fill_all ss ts)) ≡ true → fits argument (node (h.Term o) (fill_all ss ts)) ≡ true
    term_argument op.Add e = e
    term_argument op.Sub e = e
    term_argument op.Mul e = e
    term_argument op.Neg e = e
    term_argument op.Div e = e
    term_argument op.Mod e = e
    term_argument (op.Wrap k) e = e
    term_argument op.ShiftLeft e = e
    term_argument op.ShiftRight e = e
    term_argument op.BitAnd e = e
    term_argument op.BitOr e = e
    term_argument op.BitXor e = e
    term_argument op.BitNot e = e
    term_argument op.Load e = e
    term_argument op.Count e = e
    term_argument op.Len e = e
    term_argument op.Store e = absurd (false≢true e)
    term_argument (op.Alloc layout) e = absurd (false≢true e)
    term_argument op.Grow e = absurd (false≢true e)
  int_filled (node h.Ite ts) e c = record { int = tree_filled int (node h.Ite ts) e; argument = tree_filled int (node h.Ite ts) e }
  int_filled (node (h.App f) ts) e c = record { int = tree_filled int (node (h.App f) ts) e; argument = tree_filled int (node (h.App f) ts) e }
  int_filled (node (h.Form o) ts) e c = absurd (false≢true e)
  int_filled (node h.True ts) e c = absurd (false≢true e)
  int_filled (node h.False ts) e c = absurd (false≢true e)
  int_filled (node h.Not ts) e c = absurd (false≢true e)
  int_filled (node h.And ts) e c = absurd (false≢true e)
  int_filled (node h.Or ts) e c = absurd (false≢true e)
  int_filled (node h.Imp ts) e c = absurd (false≢true e)
  int_filled (node h.Iff ts) e c = absurd (false≢true e)
  int_filled (node (h.Forall x) ts) e c = absurd (false≢true (and_parts _ _ (and_parts _ _ e).0).1)
  int_filled (node (h.Exists x) ts) e c = absurd (false≢true (and_parts _ _ (and_parts _ _ e).0).1)

-- ---- names

-- in one of several
abbrev any_free : List ℕ → Sort → Trees → Bool
any_free x s stop = false
any_free x s (more t ts) = is_free x s t || any_free x s ts

or_none : (a : Bool) → a ≡ (a || false)
or_none true = refl
or_none false = refl

three_first : (a b c d e : Bool) → d ≡ e → (((a || b) || (true && c)) || d) ≡ (a || (b || (c || e)))
three_first true b c d e h = refl
three_first false true c d e h = refl
three_first false false true d e h = refl
three_first false false false d e h = h

module _ (x : List ℕ) (s : Sort) where
  among_is : (ts : Trees) → free_among false x s ts ≡ any_free x s ts
  among_is stop = refl
  among_is (more t stop) = or_none (is_free x s t)
  among_is (more t (more u stop)) = ap (λ b. is_free x s t || b) (or_none (is_free x s u))
  among_is (more t (more u (more v ts))) = three_first (is_free x s t) (is_free x s u) (is_free x s v) _ _ (among_is ts)

  module _ (bases : List (List ℕ)) (ss : List Slots) (slots : AllSlots (NamesAreGiven bases) (NamesAreGiven bases) ss) where
    -- a name that was given out, or one of these, which quantifiers bind
    abbrev Known : List (List ℕ) → Type 0
    Known xs = IsGiven bases x ⊎ ((same_sort s sort.Int ≡ true) × (list_any (bytes_eq x) xs ≡ true))

    named_list : (y : List ℕ) (xs : List (List ℕ)) → bytes_eq x y ≡ true → list_any (bytes_eq y) xs ≡ true → list_any (bytes_eq x) xs ≡ true
    named_list y xs e k = subst (λ z. list_any (bytes_eq z) xs ≡ true) (sym ((bytes_eq-Decides x y).0 e)) k

    no_name : NamesAreGiven bases (num (pos 0))
    no_name y t f = absurd (false≢true f)

    name_known : (place : Place) (y : List ℕ) (ts : Trees) (xs : List (List ℕ)) → all_fit [] ts ≡ true → (not (is_marked y) || list_any (bytes_eq y) xs) ≡ true
        → is_free x s (filled_name ss y ts) ≡ true → Known xs
    name_known place y (more t ts) xs e c f = absurd (false≢true e)
    name_known place y stop xs e c f = on_bool (is_marked y)
        (λ m. let g = sym (ap (λ b. is_free x s (if b then node (h.Var y sort.Int) stop else as_integer (slot_named (num (pos 0)) ss y))) m) ∙ f in
        let one = ⊎_elim (λ a. a) (λ b. absurd (false≢true b)) (or_parts (bytes_eq x y && same_sort s sort.Int) false g) in
        let both = and_parts (bytes_eq x y) (same_sort s sort.Int) one in
        inr (both.1, named_list y xs both.0 (sym (ap (λ b. not b || list_any (bytes_eq y) xs) m) ∙ c)))
        (λ m. inl (leaf_in (NamesAreGiven bases) (NamesAreGiven bases) no_name ss slots y x s
        (sym (ap (λ b. is_free x s (if b then node (h.Var y sort.Int) stop else as_integer (slot_named (num (pos 0)) ss y))) m) ∙ f)))

    bound_known : (y : List ℕ) (xs : List (List ℕ)) → not (bytes_eq x y && same_sort s sort.Int) ≡ true → Known (y ∷ xs) → Known xs
    bound_known y xs free (inl g) = inl g
    bound_known y xs free (inr k) = by (bytes_eq x y) refl k.1 where
      by : (b : Bool) → bytes_eq x y ≡ b → (b || list_any (bytes_eq x) xs) ≡ true → Known xs
      by true e l = absurd (false≢true (sym (ap not (and_both e k.0)) ∙ free))
      by false e l = inr (k.0, l)

    kids_known : (place : Place) (head : Head) (ts : Trees) (xs : List (List ℕ))
        → ((places : List Place) → all_fit places ts ≡ true → are_closed xs ts ≡ true → any_free x s (fill_all ss ts) ≡ true → Known xs)
        → fits place (node head ts) ≡ true → are_closed xs ts ≡ true → free_among false x s (fill_all ss ts) ≡ true → Known xs
    kids_known place head ts xs below e c f =
        below (kid_places head (kid_count ts)) (and_parts (may_stand place head) (all_fit (kid_places head (kid_count ts)) ts) e).1 c (sym (among_is (fill_all ss ts)) ∙ f)

    mutual
      tree_known : (place : Place) (t : Tree) (xs : List (List ℕ)) → fits place t ≡ true → is_closed xs t ≡ true → is_free x s (fill ss t) ≡ true → Known xs
      tree_known place (node (h.Num z) ts) xs e c f = kids_known place (h.Num z) ts xs (λ places. trees_known places ts xs) e c f
      tree_known place (node (h.Var y sort.Int) ts) xs e c f = name_known place y ts xs (and_parts _ _ e).1 c f
      tree_known place (node (h.Var y sort.Memory) ts) xs e c f = absurd (false≢true c)
      tree_known place (node (h.Var y sort.Table) ts) xs e c f = absurd (false≢true c)
      tree_known place (node (h.Term o) ts) xs e c f = kids_known place (h.Term o) ts xs (λ places. trees_known places ts xs) e c f
      tree_known place (node h.Ite ts) xs e c f = kids_known place h.Ite ts xs (λ places. trees_known places ts xs) e c f
      tree_known place (node (h.App g) ts) xs e c f = kids_known place (h.App g) ts xs (λ places. trees_known places ts xs) e c f
      tree_known place (node (h.Form o) ts) xs e c f = kids_known place (h.Form o) ts xs (λ places. trees_known places ts xs) e c f
      tree_known place (node h.True ts) xs e c f = kids_known place h.True ts xs (λ places. trees_known places ts xs) e c f
      tree_known place (node h.False ts) xs e c f = kids_known place h.False ts xs (λ places. trees_known places ts xs) e c f
      tree_known place (node h.Not ts) xs e c f = kids_known place h.Not ts xs (λ places. trees_known places ts xs) e c f
      tree_known place (node h.And ts) xs e c f = kids_known place h.And ts xs (λ places. trees_known places ts xs) e c f
      tree_known place (node h.Or ts) xs e c f = kids_known place h.Or ts xs (λ places. trees_known places ts xs) e c f
      tree_known place (node h.Imp ts) xs e c f = kids_known place h.Imp ts xs (λ places. trees_known places ts xs) e c f
      tree_known place (node h.Iff ts) xs e c f = kids_known place h.Iff ts xs (λ places. trees_known places ts xs) e c f
      tree_known place (node (h.Forall y) ts) xs e c f = range_known y ts xs (and_parts _ _ e).1 (and_parts _ _ c).1 f
      tree_known place (node (h.Exists y) ts) xs e c f = range_known y ts xs (and_parts _ _ e).1 (and_parts _ _ c).1 f

      trees_known : (places : List Place) (ts : Trees) (xs : List (List ℕ)) → all_fit places ts ≡ true → are_closed xs ts ≡ true → any_free x s (fill_all ss ts) ≡ true → Known xs
      trees_known places stop xs e c f = absurd (false≢true f)
      trees_known [] (more t ts) xs e c f = absurd (false≢true e)
      trees_known (place ∷ places) (more t ts) xs e c f =
          let fit = and_parts (fits place t) (all_fit places ts) e in
          let shut = and_parts (is_closed xs t) (are_closed xs ts) c in
          ⊎_elim (λ a. tree_known place t xs fit.0 shut.0 a) (λ b. trees_known places ts xs fit.1 shut.1 b) (or_parts (is_free x s (fill ss t)) (any_free x s (fill_all ss ts)) f)

      range_known : (y : List ℕ) (ts : Trees) (xs : List (List ℕ)) → all_fit (int ∷ int ∷ formula ∷ []) ts ≡ true → is_closed_range xs y ts ≡ true
          → free_among (bytes_eq x y && same_sort s sort.Int) x s (fill_all ss ts) ≡ true → Known xs
      range_known y stop xs e c f = absurd (false≢true c)
      range_known y (more low stop) xs e c f = absurd (false≢true c)
      range_known y (more low (more high stop)) xs e c f = absurd (false≢true c)
      range_known y (more low (more high (more body (more t ts)))) xs e c f = absurd (false≢true c)
      range_known y (more low (more high (more body stop))) xs e c f =
          let fit_low = and_parts (fits int low) _ e in
          let fit_high = and_parts (fits int high) _ fit_low.1 in
          let fit_body = and_parts (fits formula body) _ fit_high.1 in
          let all = and_parts (is_closed xs low && is_closed xs high) (is_closed (y ∷ xs) body) c in
          let ends = and_parts (is_closed xs low) (is_closed xs high) all.0 in
          let bound = bytes_eq x y && same_sort s sort.Int in
          ⊎_elim
          (λ g. ⊎_elim (λ a. ⊎_elim (λ l. tree_known int low xs fit_low.0 ends.0 l) (λ h. tree_known int high xs fit_high.0 ends.1 h) (or_parts (is_free x s (fill ss low)) (is_free x s (fill ss high)) a))
          (λ a. let both = and_parts (not bound) (is_free x s (fill ss body)) a in bound_known y xs both.0 (tree_known formula body (y ∷ xs) fit_body.0 all.1 both.1))
          (or_parts (is_free x s (fill ss low) || is_free x s (fill ss high)) (not bound && is_free x s (fill ss body)) g))
          (λ a. absurd (false≢true a))
          (or_parts ((is_free x s (fill ss low) || is_free x s (fill ss high)) || (not bound && is_free x s (fill ss body))) false f)

    none_bound : Known [] → IsGiven bases x
    none_bound (inl g) = g
    none_bound (inr k) = absurd (false≢true k.1)

    pub name_given : (place : Place) (t : Tree) → fits place t ≡ true → is_closed [] t ≡ true → is_free x s (fill ss t) ≡ true → IsGiven bases x
    name_given place t e c f = none_bound (tree_known place t [] e c f)

    pub formula_given : (t : Tree) → fits formula t ≡ true → is_free x s (fill ss (closed t)) ≡ true → IsGiven bases x
    formula_given t e f = on_bool (is_closed [] t)
        (λ c. name_given formula t e c (sym (ap (λ b. is_free x s (fill ss (or_false b t))) c) ∙ f))
        (λ c. absurd (false≢true (sym (ap (λ b. is_free x s (fill ss (or_false b t))) c) ∙ f)))
