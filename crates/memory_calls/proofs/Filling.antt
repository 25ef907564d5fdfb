-- The places in which a call's result stands are filled with any value of its kind.
use Rattle.std.proofs.Common.{◌≡◌, ℕ, suc, true, false, ℤ, List, [], ◌∷◌, map, length, Option, Some, refl, sym, ap, ◌∙◌, subst}
use Rattle.std.proofs.lemmas.Bool.{false≢true}
use Rattle.wp_base.specs.declared.kinds.CellKind.{CellKind}
use Rattle.wp_base.specs.declared.kinds.CellKind.TheVariants as cell
use Rattle.wp_base.specs.Blocks.{count}
use Rattle.qed_terms.specs.Meaning as sense
use Rattle.c_runs.specs.TruthStates.{Value, offset_of}
use Rattle.c_runs.specs.Program.{Contract, Function, Facts}
use Rattle.c_runs.specs.Scopes.{is_content}
use Rattle.c_runs.specs.Tree.{Steps}
use Rattle.memory_steps.specs.State.{State, Datum, number, cells as memory_datum, HasSort, IsLike, with_slots}
use Rattle.memory_steps.specs.Forms.{AllTold}
use Rattle.memory_steps.specs.Step.{Change}
use Rattle.memory_steps.specs.Step as step
use Rattle.memory_steps.specs.Run.{goes_on, Changes, Changed, Seg}
use Rattle.memory_steps.specs.Run as seg
use Rattle.memory_words.specs.Places.{Place, value, offset, flag, result, result_offset, answer, answer_offset, temporary, temporary_offset, numbers, blocks, offsets, Sizes, IsIn, held, number_at, slots_in, with_held, changes_by}
use Rattle.memory_words.specs.Leaves.{fact}
use Rattle.memory_words.proofs.Holding.{puts_are_held, slots_are_what_places_hold}
use Rattle.program_steps.specs.Temporaries.{Temporaries}
use Rattle.memory_words.specs.Shapes.{FileCells, Shape, sizes}
use Rattle.memory_words.specs.Readings.{Texts}
use Rattle.memory_words.specs.Standing.{IsHeldAs}
use Rattle.memory_words.proofs.Sorts.{changed_number}
use Rattle.memory_words.specs.Puts.{counts, Keeps, NoPlace, with_two}
use Rattle.memory_words.proofs.Setting.{keeps_two, keeps_all, two_held}
use Rattle.memory_calls.specs.Havoc.{first_change, second_change, range_facts}
use Rattle.memory_calls.proofs.Values.{value_of, first_of, held_so, content_parts, range_told}
use Rattle.memory_calls.specs.CallWords.{answer_change, answer_step}
use Rattle.memory_calls.proofs.Answers.{IsAnswer, no_counted}

-- ---- they are filled

changes_length : (sts : List State) (cs : List Change) (xs ys : List Datum) → Changes sts cs xs ys → length ys ≡ length xs
changes_length sts [] xs ys e = ap length (sym e)
changes_length sts (c ∷ cs) [] [] h = refl
changes_length sts (c ∷ cs) [] (y ∷ ys) h = absurd h
changes_length sts (c ∷ cs) (x ∷ xs) [] h = absurd h
changes_length sts (c ∷ cs) (x ∷ xs) (y ∷ ys) h = ap suc (changes_length sts cs xs ys h.1)

like_number : (d : Datum) (z : ℤ) → HasSort false d → IsLike d (number z)
like_number (number y) z h = tt
like_number (memory_datum l) z h = absurd h

module _ (m : sense.World) (p : Facts) (s : Shape) (cells : FileCells) (texts : Texts) (contract : Contract) (functions : ℕ → Option (Function Steps)) (k : CellKind)
    (olds : List State) (st : State) (size : length st.slots ≡ slots_in (sizes p s)) where
  abbrev z : Sizes
  z = sizes p s

  abbrev sts : List State
  sts = st ∷ olds

  abbrev change_at : Place → Change
  change_at a = answer_change m p s cells texts contract functions k a

  abbrev pub fill : step.Step
  fill = answer_step m p s cells texts contract functions (Some k)

  -- with a value of the kind, and nothing else changes
  pub record Filled (v : Value) (new : State) : Type 0 where
    pub table : new.table ≡ st.table
    pub held_as : IsHeldAs k v (number_at z new answer) (number_at z new answer_offset)
    pub fits : is_content p (count st.table) k v ≡ true
    pub keeps : (f : Temporaries) → Keeps z f NoPlace st new

  -- ---- forth

  module _ (v : Value) (fits : is_content p (count st.table) k v ≡ true) (first : HasSort false (held z st answer)) (second : HasSort false (held z st answer_offset)) where
    abbrev x : ℤ
    x = first_of k v

    abbrev y : ℤ
    y = offset_of v

    abbrev pub with_answer : State
    with_answer = with_two z k answer answer_offset x y st

    parts : v ≡ value_of k x y
    parts = content_parts p (count st.table) k v fits

    two_else : (k : CellKind) (a : Place) → IsIn z a → (answer ≡ a → ⊥) → (answer_offset ≡ a → ⊥) → held z st a ≡ held z (with_two z k answer answer_offset x y st) a
    two_else (cell.Of k) a there one two = sym ((puts_are_held z answer (number x) st tt size).elsewhere a there one)
    two_else cell.Ptr a there one two =
        let p1 = puts_are_held z answer (number x) st tt size in
        sym ((puts_are_held z answer_offset (number y) (with_held z answer (number x) st) tt (p1.size ∙ size)).elsewhere a there two ∙ p1.elsewhere a there one)

    two_first : (k : CellKind) → held z (with_two z k answer answer_offset x y st) answer ≡ number x
    two_first (cell.Of k) = (puts_are_held z answer (number x) st tt size).here
    two_first cell.Ptr =
        let p1 = puts_are_held z answer (number x) st tt size in
        (puts_are_held z answer_offset (number y) (with_held z answer (number x) st) tt (p1.size ∙ size)).elsewhere answer tt (λ e. cc) ∙ p1.here

    two_second : (k : CellKind) → Changed sts (second_change m p true k) (held z st answer_offset) (held z (with_two z k answer answer_offset x y st) answer_offset)
    two_second (cell.Of k) = sym ((puts_are_held z answer (number x) st tt size).elsewhere answer_offset tt (λ e. cc))
    two_second cell.Ptr =
        let p1 = puts_are_held z answer (number x) st tt size in
        subst (λ d. IsLike (held z st answer_offset) d × Unit {0})
        (sym ((puts_are_held z answer_offset (number y) (with_held z answer (number x) st) tt (p1.size ∙ size)).here)) (like_number (held z st answer_offset) y second, tt)

    two_size : (k : CellKind) → length (with_two z k answer answer_offset x y st).slots ≡ slots_in z
    two_size (cell.Of k) = (puts_are_held z answer (number x) st tt size).size ∙ size
    two_size cell.Ptr =
        let p1 = puts_are_held z answer (number x) st tt size in
        (puts_are_held z answer_offset (number y) (with_held z answer (number x) st) tt (p1.size ∙ size)).size ∙ p1.size ∙ size

    first_to : Changed sts (first_change m p true k) (held z st answer) (held z with_answer answer)
    first_to = subst (λ d. IsLike (held z st answer) d × AllTold sts (map (fact m) (range_facts p k)) d) (sym (two_first k))
        (like_number (held z st answer) x first, (range_told m p st olds (number x) k y).1 (ap (is_content p (count st.table) k) (sym parts) ∙ fits))

    each : (a : Place) → IsIn z a → Changed sts (change_at a) (held z st a) (held z with_answer a)
    each answer there = first_to
    each answer_offset there = two_second k
    each (value w) there = two_else k (value w) there (λ e. cc) (λ e. cc)
    each (offset w) there = two_else k (offset w) there (λ e. cc) (λ e. cc)
    each (flag w) there = two_else k (flag w) there (λ e. cc) (λ e. cc)
    each result there = two_else k result there (λ e. cc) (λ e. cc)
    each result_offset there = two_else k result_offset there (λ e. cc) (λ e. cc)
    each (temporary n) there = two_else k (temporary n) there (λ e. cc) (λ e. cc)
    each (temporary_offset n) there = two_else k (temporary_offset n) there (λ e. cc) (λ e. cc)
    each (numbers j) there = two_else k (numbers j) there (λ e. cc) (λ e. cc)
    each blocks there = two_else k blocks there (λ e. cc) (λ e. cc)
    each offsets there = two_else k offsets there (λ e. cc) (λ e. cc)

    with_same : (k : CellKind) → with_slots st (with_two z k answer answer_offset x y st).slots ≡ with_two z k answer answer_offset x y st
    with_same (cell.Of k) = refl
    with_same cell.Ptr = refl

    pub fills : (n : ℕ) → Seg olds n fill st (goes_on with_answer)
    fills n = subst (λ a. Seg olds n fill st (goes_on a)) (with_same k)
        (seg.changes with_answer.slots (((slots_are_what_places_hold z).changes sts change_at st.slots with_answer.slots size (two_size k)).1 each))

    table_of : (k : CellKind) → (with_two z k answer answer_offset x y st).table ≡ st.table
    table_of (cell.Of k) = refl
    table_of cell.Ptr = refl

    pub filled_so : Filled v with_answer
    filled_so = record {
      table = table_of k;
      held_as = two_held z k v answer answer_offset x y st size tt tt (λ e. cc) (held_so k v x y parts);
      fits = fits;
      keeps = λ f. keeps_all z f IsAnswer (no_counted f) st with_answer (keeps_two z f IsAnswer k answer answer_offset x y st size tt tt tt tt);
    }

  -- ---- back

  module _ (ds : List Datum) (change : Changes sts (changes_by z change_at) st.slots ds) where
    abbrev new : State
    new = with_slots st ds

    new_size : length ds ≡ slots_in z
    new_size = changes_length sts (changes_by z change_at) st.slots ds change ∙ size

    at : (a : Place) → IsIn z a → Changed sts (change_at a) (held z st a) (held z new a)
    at = ((slots_are_what_places_hold z).changes sts change_at st.slots ds size new_size).0 change

    same_at : (f : Temporaries) (a : Place) → IsIn z a → counts f a ≡ true → held z new a ≡ held z st a
    same_at f answer there h = absurd (false≢true h)
    same_at f answer_offset there h = absurd (false≢true h)
    same_at f (value w) there h = sym (at (value w) there)
    same_at f (offset w) there h = sym (at (offset w) there)
    same_at f (flag w) there h = sym (at (flag w) there)
    same_at f result there h = absurd (false≢true h)
    same_at f result_offset there h = absurd (false≢true h)
    same_at f (temporary n) there h = sym (at (temporary n) there)
    same_at f (temporary_offset n) there h = sym (at (temporary_offset n) there)
    same_at f (numbers j) there h = sym (at (numbers j) there)
    same_at f blocks there h = sym (at blocks there)
    same_at f offsets there h = sym (at offsets there)

    abbrev pub answered : Value
    answered = value_of k (number_at z new answer) (number_at z new answer_offset)

    pub filled_then : Filled answered new
    filled_then = record {
      table = refl;
      held_as = held_so k answered (number_at z new answer) (number_at z new answer_offset) refl;
      fits = (range_told m p st olds (held z new answer) k (number_at z new answer_offset)).0 (at answer tt).1;
      keeps = λ f. record {
        size = new_size;
        table = refl;
        same = λ a there counted apart. same_at f a there counted;
        sorted = λ a there was. changed_number sts (change_at a) (held z st a) (held z new a) (at a there) was;
      };
    }
