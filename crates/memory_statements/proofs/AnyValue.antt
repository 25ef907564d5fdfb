-- Any value in the places of a variable that no pointer leads to.
use Rattle.std.proofs.Common.{◌≡◌, ℕ, suc, ◌<◌, ℤ, pos, true, false, List, [], ◌∷◌, map, length, refl, sym, ap, ◌∙◌, subst}
use Rattle.std.specs.Prelude.{int_le, ◌==◌}
use Rattle.std.proofs.lemmas.Bool.{false≢true}
use Rattle.std.proofs.lemmas.Bool.Decides.{Decides-eqb}
use Rattle.wp_base.specs.declared.kinds.CellKind.{CellKind}
use Rattle.wp_base.specs.declared.kinds.CellKind.TheVariants as cell
use Rattle.typed_prog.specs.declared.operators.Variable.TheVariants as variables
use Rattle.qed_terms.specs.Meaning as sense
use Rattle.qed_terms.specs.Meaning.{truth}
use Rattle.qed_terms.specs.Tree.{num, var, at_most}
use Rattle.c_runs.specs.Program.{Facts}
use Rattle.typed_memories.proofs.Tests.{on_test, chosen, unchosen}
use Rattle.walk_steps.specs.State.{at_or}
use Rattle.memory_steps.specs.State.{Datum, number, cells as memory_datum, State, HasSort, nothing, IsLike}
use Rattle.memory_steps.specs.Forms.{AllTold}
use Rattle.memory_steps.specs.Step.{Change, keeps, fresh}
use Rattle.memory_steps.specs.Run.{Changed, Changes}
use Rattle.memory_words.specs.Places.{Place, value, offset, flag, result, result_offset, answer, answer_offset, temporary, temporary_offset, numbers, blocks}
use Rattle.memory_words.specs.Places.{offsets, Sizes, IsIn, slot, slots_in, held, with_held, number_in, changes_by, ChangedBy}
use Rattle.memory_words.specs.Leaves.{leaf_name, closed, leaves_of, before_all, fact}
use Rattle.memory_words.proofs.Holding.{puts_are_held, slots_are_what_places_hold}
use Rattle.memory_words.specs.Shapes.{FileCells, Shape, sizes}
use Rattle.memory_words.proofs.Sorts.{held_number}
use Rattle.memory_words.specs.Words.{is_value_of, is_offset_of, any_facts, any_change}
use Rattle.memory_words.specs.Puts.{with_two}

-- ---- places

same_value : {x y : ℕ} → value (variables.Local x) ≡ value (variables.Local y) → x ≡ y
same_value e = cc

same_offset : {x y : ℕ} → offset (variables.Local x) ≡ offset (variables.Local y) → x ≡ y
same_offset e = cc

pub data Which (x : ℕ) (a : Place) : Type 0 where
  of_value : value (variables.Local x) ≡ a → Which x a
  of_offset : offset (variables.Local x) ≡ a → Which x a
  of_others : is_value_of x a ≡ false → is_offset_of x a ≡ false → (value (variables.Local x) ≡ a → ⊥) → (offset (variables.Local x) ≡ a → ⊥) → Which x a

pub which : (x : ℕ) (a : Place) → Which x a
which x (value (variables.Global y)) = of_others refl refl (λ e. cc) (λ e. cc)
which x (value (variables.Local y)) =
    on_test (x == y) (λ e. of_value (ap (λ y. value (variables.Local y)) ((Decides-eqb x y).0 e)))
    (λ e. of_others e refl (λ q. false≢true (sym e ∙ (Decides-eqb x y).1 (same_value q))) (λ q. cc))
which x (offset (variables.Global y)) = of_others refl refl (λ e. cc) (λ e. cc)
which x (offset (variables.Local y)) =
    on_test (x == y) (λ e. of_offset (ap (λ y. offset (variables.Local y)) ((Decides-eqb x y).0 e)))
    (λ e. of_others refl e (λ q. cc) (λ q. false≢true (sym e ∙ (Decides-eqb x y).1 (same_offset q))))
which x (flag y) = of_others refl refl (λ e. cc) (λ e. cc)
which x result = of_others refl refl (λ e. cc) (λ e. cc)
which x result_offset = of_others refl refl (λ e. cc) (λ e. cc)
which x answer = of_others refl refl (λ e. cc) (λ e. cc)
which x answer_offset = of_others refl refl (λ e. cc) (λ e. cc)
which x (temporary n) = of_others refl refl (λ e. cc) (λ e. cc)
which x (temporary_offset n) = of_others refl refl (λ e. cc) (λ e. cc)
which x (numbers k) = of_others refl refl (λ e. cc) (λ e. cc)
which x blocks = of_others refl refl (λ e. cc) (λ e. cc)
which x offsets = of_others refl refl (λ e. cc) (λ e. cc)

pub changes_size : (sts : List State) (cs : List Change) (xs ys : List Datum) → Changes sts cs xs ys → length ys ≡ length xs
changes_size sts [] xs ys h = ap length (sym h)
changes_size sts (c ∷ cs) [] [] h = refl
changes_size sts (c ∷ cs) [] (y ∷ ys) h = absurd h
changes_size sts (c ∷ cs) (x ∷ xs) [] h = absurd h
changes_size sts (c ∷ cs) (x ∷ xs) (y ∷ ys) h = ap suc (changes_size sts cs xs ys h.1)

like_number : (d : Datum) → IsLike nothing d → number (number_in d) ≡ d
like_number (number z) h = refl
like_number (memory_datum l) h = absurd h

module _ (m : sense.World) (p : Facts) (s : Shape) (cells : FileCells) (x : ℕ) where
  -- ---- how each place changes

  value_changes : (k : CellKind) → any_change m p s cells k x (value (variables.Local x)) ≡ fresh (map (fact m) (any_facts k))
  value_changes k = chosen (x == x) _ _ ((Decides-eqb x x).1 refl)

  offset_changes : any_change m p s cells cell.Ptr x (offset (variables.Local x)) ≡ fresh []
  offset_changes = chosen (x == x) _ _ ((Decides-eqb x x).1 refl)

  offset_kept : (j : _) → any_change m p s cells (cell.Of j) x (offset (variables.Local x)) ≡ keeps
  offset_kept j = refl

  others_kept : (k : CellKind) (a : Place) → is_value_of x a ≡ false → is_offset_of x a ≡ false → any_change m p s cells k x a ≡ keeps
  others_kept (cell.Of j) a h o = unchosen (is_value_of x a) _ _ h
  others_kept cell.Ptr a h o = unchosen (is_value_of x a) _ _ h ∙ unchosen (is_offset_of x a) _ _ o

  -- ---- what is told of a pointer

  leads_told : (sts : List State) (d : Datum)
      → truth m (leaves_of (before_all d sts)) (closed (at_most (num (pos 0)) (var (leaf_name 0 0)))) ≡ int_le (pos 0) (number_in d)
  unfolding leaf_name
  leads_told sts d = refl

  abbrev pub LeadsAny : CellKind → ℤ → Type 0
  LeadsAny (cell.Of j) z = Unit {0}
  LeadsAny cell.Ptr z = int_le (pos 0) z ≡ true

  facts_told : (k : CellKind) (sts : List State) (z : ℤ) → LeadsAny k z → AllTold sts (map (fact m) (any_facts k)) (number z)
  facts_told (cell.Of j) sts z h = tt
  facts_told cell.Ptr sts z h = (λ b o. leads_told sts (number z) ∙ h, tt)

  told_facts : (k : CellKind) (sts : List State) (z : ℤ) → AllTold sts (map (fact m) (any_facts k)) (number z) → LeadsAny k z
  told_facts (cell.Of j) sts z h = tt
  told_facts cell.Ptr sts z h = sym (leads_told sts (number z)) ∙ h.0 (pos 0) (pos 0)

  -- ---- the change of all places

  module _ (olds : List State) (st : State) (size : length st.slots ≡ slots_in (sizes p s)) (below : x < length s.variables)
      (no_value : held (sizes p s) st (value (variables.Local x)) ≡ nothing) (no_offset : held (sizes p s) st (offset (variables.Local x)) ≡ nothing) where
    abbrev z : Sizes
    z = sizes p s

    -- the slots hold these in the two places
    abbrev pub any_in : CellKind → (first second : ℤ) → State
    any_in k a b = with_two z k (value (variables.Local x)) (offset (variables.Local x)) a b st

    value_offset : {y : ℕ} → value (variables.Local y) ≡ offset (variables.Local y) → ⊥
    value_offset e = cc

    first_size : (a : ℤ) → length (with_held z (value (variables.Local x)) (number a) st).slots ≡ slots_in z
    first_size a = (puts_are_held z (value (variables.Local x)) (number a) st below size).size ∙ size

    pub any_size : (k : CellKind) (a b : ℤ) → length (any_in k a b).slots ≡ slots_in z
    any_size (cell.Of j) a b = first_size a
    any_size cell.Ptr a b = (puts_are_held z (offset (variables.Local x)) (number b) (with_held z (value (variables.Local x)) (number a) st) below (first_size a)).size ∙ first_size a

    pub any_value : (k : CellKind) (a b : ℤ) → held z (any_in k a b) (value (variables.Local x)) ≡ number a
    any_value (cell.Of j) a b = (puts_are_held z (value (variables.Local x)) (number a) st below size).here
    any_value cell.Ptr a b =
        (puts_are_held z (offset (variables.Local x)) (number b) (with_held z (value (variables.Local x)) (number a) st) below (first_size a)).elsewhere
        (value (variables.Local x)) below (λ e. value_offset (sym e))
        ∙ (puts_are_held z (value (variables.Local x)) (number a) st below size).here

    pub any_offset : (a b : ℤ) → held z (any_in cell.Ptr a b) (offset (variables.Local x)) ≡ number b
    any_offset a b = (puts_are_held z (offset (variables.Local x)) (number b) (with_held z (value (variables.Local x)) (number a) st) below (first_size a)).here

    pub any_others : (k : CellKind) (a b : ℤ) (c : Place) → IsIn z c → (value (variables.Local x) ≡ c → ⊥) → (offset (variables.Local x) ≡ c → ⊥)
        → held z (any_in k a b) c ≡ held z st c
    any_others (cell.Of j) a b c there v o = (puts_are_held z (value (variables.Local x)) (number a) st below size).elsewhere c there v
    any_others cell.Ptr a b c there v o =
        (puts_are_held z (offset (variables.Local x)) (number b) (with_held z (value (variables.Local x)) (number a) st) below (first_size a)).elsewhere c there o
        ∙ (puts_are_held z (value (variables.Local x)) (number a) st below size).elsewhere c there v

    pub any_sorted : (k : CellKind) (a b : ℤ) (c : Place) → HasSort false (held z st c) → HasSort false (held z (any_in k a b) c)
    any_sorted (cell.Of j) a b c was = held_number z (value (variables.Local x)) a st c was
    any_sorted cell.Ptr a b c was =
        held_number z (offset (variables.Local x)) b (with_held z (value (variables.Local x)) (number a) st) c (held_number z (value (variables.Local x)) a st c was)

    any_changed : (k : CellKind) (a b : ℤ) → LeadsAny k a → ChangedBy z (st ∷ olds) (any_change m p s cells k x) st.slots (any_in k a b).slots
    any_changed k a b leads c there = by c there (which x c) where
      at_value : Changed (st ∷ olds) (any_change m p s cells k x (value (variables.Local x))) (held z st (value (variables.Local x))) (held z (any_in k a b) (value (variables.Local x)))
      at_value =
          subst (λ f. Changed (st ∷ olds) f (held z st (value (variables.Local x))) (held z (any_in k a b) (value (variables.Local x)))) (sym (value_changes k))
          (subst (λ d. Changed (st ∷ olds) (fresh (map (fact m) (any_facts k))) d (held z (any_in k a b) (value (variables.Local x)))) (sym no_value)
          (subst (λ d. Changed (st ∷ olds) (fresh (map (fact m) (any_facts k))) nothing d) (sym (any_value k a b)) (tt, facts_told k (st ∷ olds) a leads)))

      at_offset : (k : CellKind) → Changed (st ∷ olds) (any_change m p s cells k x (offset (variables.Local x))) (held z st (offset (variables.Local x)))
          (held z (any_in k a b) (offset (variables.Local x)))
      at_offset (cell.Of j) = sym ((puts_are_held z (value (variables.Local x)) (number a) st below size).elsewhere (offset (variables.Local x)) below value_offset)
      at_offset cell.Ptr =
          subst (λ f. Changed (st ∷ olds) f (held z st (offset (variables.Local x))) (held z (any_in cell.Ptr a b) (offset (variables.Local x)))) (sym offset_changes)
          (subst (λ d. Changed (st ∷ olds) (fresh []) d (held z (any_in cell.Ptr a b) (offset (variables.Local x)))) (sym no_offset)
          (subst (λ d. Changed (st ∷ olds) (fresh []) nothing d) (sym (any_offset a b)) (tt, tt)))

      by : (c : Place) → IsIn z c → Which x c → Changed (st ∷ olds) (any_change m p s cells k x c) (held z st c) (held z (any_in k a b) c)
      by c there (of_value e) = subst (λ c. Changed (st ∷ olds) (any_change m p s cells k x c) (held z st c) (held z (any_in k a b) c)) e at_value
      by c there (of_offset e) = subst (λ c. Changed (st ∷ olds) (any_change m p s cells k x c) (held z st c) (held z (any_in k a b) c)) e (at_offset k)
      by c there (of_others h o v w) =
          subst (λ f. Changed (st ∷ olds) f (held z st c) (held z (any_in k a b) c)) (sym (others_kept k c h o)) (sym (any_others k a b c there v w))

    pub any_changes : (k : CellKind) (a b : ℤ) → LeadsAny k a → Changes (st ∷ olds) (changes_by z (any_change m p s cells k x)) st.slots (any_in k a b).slots
    any_changes k a b leads =
        ((slots_are_what_places_hold z).changes (st ∷ olds) (any_change m p s cells k x) st.slots (any_in k a b).slots size (any_size k a b)).1 (any_changed k a b leads)

    -- ---- and back

    -- the two places hold some numbers, and the others hold what they held
    pub record IsAnyIn (k : CellKind) (ds : List Datum) : Type 0 where
      pub first : ℤ
      pub second : ℤ
      pub leads : LeadsAny k first
      pub same : (any_in k first second).slots ≡ ds

    module _ (ds : List Datum) where
      abbrev now : Place → Datum
      now a = at_or nothing ds (slot z a)

      module _ (k : CellKind) (changed : ChangedBy z (st ∷ olds) (any_change m p s cells k x) st.slots ds) where
        value_now : IsLike nothing (now (value (variables.Local x))) × AllTold (st ∷ olds) (map (fact m) (any_facts k)) (now (value (variables.Local x)))
        value_now =
            subst (λ d. Changed (st ∷ olds) (fresh (map (fact m) (any_facts k))) d (now (value (variables.Local x)))) no_value
            (subst (λ f. Changed (st ∷ olds) f (held z st (value (variables.Local x))) (now (value (variables.Local x)))) (value_changes k) (changed (value (variables.Local x)) below))

        leads_now : LeadsAny k (number_in (now (value (variables.Local x))))
        leads_now =
            told_facts k (st ∷ olds) (number_in (now (value (variables.Local x))))
            (subst (λ d. AllTold (st ∷ olds) (map (fact m) (any_facts k)) d) (sym (like_number (now (value (variables.Local x))) value_now.0)) value_now.1)

        others_now : (c : Place) → IsIn z c → is_value_of x c ≡ false → is_offset_of x c ≡ false → held z st c ≡ now c
        others_now c there h o = subst (λ f. Changed (st ∷ olds) f (held z st c) (now c)) (others_kept k c h o) (changed c there)

      pub any_back : (k : CellKind) → length ds ≡ slots_in z → ChangedBy z (st ∷ olds) (any_change m p s cells k x) st.slots ds → IsAnyIn k ds
      any_back (cell.Of j) long changed = record {
        first = number_in (now (value (variables.Local x)));
        second = pos 0;
        leads = tt;
        same = (slots_are_what_places_hold z).same (any_in (cell.Of j) (number_in (now (value (variables.Local x)))) (pos 0)).slots ds
            (any_size (cell.Of j) (number_in (now (value (variables.Local x)))) (pos 0)) long (λ c there. by c there (which x c));
      }
        where
          new : State
          new = any_in (cell.Of j) (number_in (now (value (variables.Local x)))) (pos 0)

          by : (c : Place) → IsIn z c → Which x c → held z new c ≡ now c
          by c there (of_value e) =
              subst (λ c. held z new c ≡ now c) e
              (any_value (cell.Of j) (number_in (now (value (variables.Local x)))) (pos 0) ∙ like_number (now (value (variables.Local x))) (value_now (cell.Of j) changed).0)
          by c there (of_offset e) =
              subst (λ c. held z new c ≡ now c) e
              ((puts_are_held z (value (variables.Local x)) (number (number_in (now (value (variables.Local x))))) st below size).elsewhere (offset (variables.Local x)) below value_offset
              ∙ changed (offset (variables.Local x)) below)
          by c there (of_others h o v w) = any_others (cell.Of j) (number_in (now (value (variables.Local x)))) (pos 0) c there v w ∙ others_now (cell.Of j) changed c there h o
      any_back cell.Ptr long changed = record {
        first = number_in (now (value (variables.Local x)));
        second = number_in (now (offset (variables.Local x)));
        leads = leads_now cell.Ptr changed;
        same = (slots_are_what_places_hold z).same (any_in cell.Ptr (number_in (now (value (variables.Local x)))) (number_in (now (offset (variables.Local x))))).slots ds
            (any_size cell.Ptr (number_in (now (value (variables.Local x)))) (number_in (now (offset (variables.Local x))))) long (λ c there. by c there (which x c));
      }
        where
          new : State
          new = any_in cell.Ptr (number_in (now (value (variables.Local x)))) (number_in (now (offset (variables.Local x))))

          offset_now : IsLike nothing (now (offset (variables.Local x)))
          offset_now =
              (subst (λ d. Changed (st ∷ olds) (fresh []) d (now (offset (variables.Local x)))) no_offset
              (subst (λ f. Changed (st ∷ olds) f (held z st (offset (variables.Local x))) (now (offset (variables.Local x)))) offset_changes
              (changed (offset (variables.Local x)) below))).0

          by : (c : Place) → IsIn z c → Which x c → held z new c ≡ now c
          by c there (of_value e) =
              subst (λ c. held z new c ≡ now c) e
              (any_value cell.Ptr (number_in (now (value (variables.Local x)))) (number_in (now (offset (variables.Local x))))
              ∙ like_number (now (value (variables.Local x))) (value_now cell.Ptr changed).0)
          by c there (of_offset e) =
              subst (λ c. held z new c ≡ now c) e
              (any_offset (number_in (now (value (variables.Local x)))) (number_in (now (offset (variables.Local x)))) ∙ like_number (now (offset (variables.Local x))) offset_now)
          by c there (of_others h o v w) =
              any_others cell.Ptr (number_in (now (value (variables.Local x)))) (number_in (now (offset (variables.Local x)))) c there v w ∙ others_now cell.Ptr changed c there h o

      pub any_from : (k : CellKind) → Changes (st ∷ olds) (changes_by z (any_change m p s cells k x)) st.slots ds → IsAnyIn k ds
      any_from k h =
          let long = changes_size (st ∷ olds) (changes_by z (any_change m p s cells k x)) st.slots ds h ∙ size in
          any_back k long (((slots_are_what_places_hold z).changes (st ∷ olds) (any_change m p s cells k x) st.slots ds size long).0 h)
