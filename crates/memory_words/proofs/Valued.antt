-- What expressions, operands and ways give: their terms' values in slots that stand for a world.
use Rattle.std.proofs.Common.{◌≡◌, ℕ, zero, suc, ℤ, pos, negsuc, Bool, true, false, ◌&&◌, if◌then◌else◌, List, [], ◌∷◌, refl, sym, ap, ap₂, ◌∙◌, subst}
use Rattle.std.specs.List.{list_all}
use Rattle.std.proofs.lemmas.Bool.{false≢true, and_parts}
use Rattle.wp_base.specs.declared.kinds.CellKind.{CellKind}
use Rattle.wp_base.specs.declared.kinds.CellKind.TheVariants as cell
use Rattle.wp_base.specs.Blocks.{Table, block_at, count, has_cell, is_cell}
use Rattle.typed_prog.specs.declared.operators.Variable.TheVariants as variables
use Rattle.qed_terms.specs.Meaning as sense
use Rattle.qed_terms.specs.Meaning.{Values, truth}
use Rattle.qed_terms.specs.Tree.{Tree}
use Rattle.c_runs.specs.TruthStates.{Value, number as c_number, pointer, block_of, offset_of}
use Rattle.c_runs.specs.Truth.{value_at}
use Rattle.c_runs.specs.Program.{Facts}
use Rattle.c_runs.specs.Scopes.{is_content}
use Rattle.c_runs.specs.Operators.{truth_number}
use Rattle.c_runs.specs.Objects.{cell_of, address}
use Rattle.c_runs.specs.CoreRun.{CoreWorld}
use Rattle.value_terms.specs.Readings.{Term, as_number, as_test, as_pointer, number_term, condition, term_at}
use Rattle.value_terms.specs.Terms.{address_term}
use Rattle.value_terms.specs.Typed.{operand_kind}
use Rattle.value_terms.specs.Worlds.{Means}
use Rattle.value_terms.specs.Laws.{Stood}
use Rattle.value_terms.specs.Places.{AreMeant, WayIsMeant}
use Rattle.value_terms.proofs.Meaning.{terms_mean_values, formulas_mean_checks}
use Rattle.value_terms.proofs.Listing.{words_have_the_checks}
use Rattle.value_terms.proofs.Staying.{values_are_of_kind}
use Rattle.value_terms.proofs.Places.{operands_are_meant, ways_are_meant}
use Rattle.memory_steps.specs.State.{State, number}
use Rattle.memory_words.specs.Places.{Place, value, offset, flag, result, result_offset, answer, answer_offset, temporary, temporary_offset, numbers, blocks, offsets, Sizes, IsIn, with_held}
use Rattle.memory_words.specs.Leaves.{is_closed, or_false, closed, leaves_of}
use Rattle.memory_words.specs.Shapes.{Shape, FileCells, sizes}
use Rattle.memory_words.specs.Readings.{reading}
use Rattle.memory_words.specs.Standing.{Temporaries, IsHeldAs, Frame, AllLive, StandsFor}
use Rattle.memory_words.specs.Seen.{InSetting, scope_at, is_closed_term}
use Rattle.memory_words.proofs.ReadingStanding.{expressions_read}
use Rattle.memory_words.specs.Puts.{counts, is_spare, first_value, second_value}
use Rattle.memory_words.specs.Values.{value_in, values_in, term_in, terms_in, HasValue}
use Rattle.memory_words.specs.PutLaws.{ExpressionsEvaluate, OperandsEvaluate, WaysLead}
use Rattle.memory_words.proofs.PutStanding.{slots_go_on}
use Rattle.memory_words.proofs.Setting.{keeps_own, keeps_put, keeps_all}

-- ---- what is closed

-- is told as it stands
pub closed_told : (m : sense.World) (sts : List State) (f : Tree) → is_closed [] f ≡ true → truth m (leaves_of sts) (closed f) ≡ truth m (leaves_of sts) f
closed_told m sts f e = ap (λ b. truth m (leaves_of sts) (or_false b f)) e

pub closed_value : (m : sense.World) (sts : List State) (u : Tree) → is_closed [] u ≡ true → sense.value m (leaves_of sts) (closed u) ≡ sense.value m (leaves_of sts) u
closed_value m sts u e = ap (λ b. sense.value m (leaves_of sts) (or_false b u)) e

number_closed : (u : Term) → is_closed_term u ≡ true → is_closed [] (number_term u) ≡ true
number_closed (as_number t) h = h
number_closed (as_test f) h = ap (λ b. b && true) h
number_closed (as_pointer b o) h = refl

pub condition_closed : (u : Term) → is_closed_term u ≡ true → is_closed [] (condition u) ≡ true
condition_closed (as_number t) h = ap (λ b. (b && true) && true) h
condition_closed (as_test f) h = h
condition_closed (as_pointer b o) h =
    let both = and_parts (is_closed [] b) (is_closed [] o) h in
    ap₂ (λ s t. ((s && true) && ((t && true) && true)) && true) both.0 both.1

term_closed : (us : List Term) → list_all is_closed_term us ≡ true → (i : ℕ) → is_closed_term (term_at us i) ≡ true
term_closed [] h i = refl
term_closed (u ∷ us) h zero = (and_parts (is_closed_term u) (list_all is_closed_term us) h).0
term_closed (u ∷ us) h (suc i) = term_closed us (and_parts (is_closed_term u) (list_all is_closed_term us) h).1 i

-- ---- values of terms

truth_is : (b : Bool) → truth_number b ≡ c_number (if b then pos 1 else pos 0)
truth_is true = refl
truth_is false = refl

no_truth : (p : Facts) (n : ℤ) (b : Bool) → is_content p n cell.Ptr (truth_number b) ≡ false
no_truth p n true = refl
no_truth p n false = refl

pub held_from : (m : sense.World) (sts : List State) (p : Facts) (n : ℤ) (k : CellKind) (u : Term) (v : Value) → Means m (leaves_of sts) u v → is_closed_term u ≡ true
    → is_content p n k v ≡ true → IsHeldAs k v (first_value m sts k u) (second_value m sts k u)
held_from m sts p n (cell.Of k) (as_number t) v means c h = means ∙ ap c_number (sym (closed_value m sts t c))
held_from m sts p n (cell.Of k) (as_test f) v means c h =
    means ∙ truth_is (truth m (leaves_of sts) f) ∙ ap c_number (sym (closed_value m sts (number_term (as_test f)) (number_closed (as_test f) c)))
held_from m sts p n (cell.Of k) (as_pointer b o) v means c h = absurd (false≢true (sym (ap (is_content p n (cell.Of k)) means) ∙ h))
held_from m sts p n cell.Ptr (as_number t) v means c h = absurd (false≢true (sym (ap (is_content p n cell.Ptr) means) ∙ h))
held_from m sts p n cell.Ptr (as_test f) v means c h =
    absurd (false≢true (sym (no_truth p n (truth m (leaves_of sts) f)) ∙ sym (ap (is_content p n cell.Ptr) means) ∙ h))
held_from m sts p n cell.Ptr (as_pointer b o) v means c h =
    let both = and_parts (is_closed [] b) (is_closed [] o) c in
    means ∙ ap₂ pointer (sym (closed_value m sts b both.0)) (sym (closed_value m sts o both.1))

second_parts : {x y x' y' : ℤ} → pointer x y ≡ pointer x' y' → y ≡ y'
second_parts e = cc

second_same : (m : sense.World) (sts sts' : List State) (k : CellKind) (u : Term) (v : Value) → IsHeldAs k v (first_value m sts k u) (second_value m sts k u)
    → IsHeldAs k v (first_value m sts' k u) (second_value m sts' k u) → second_value m sts' k u ≡ second_value m sts k u
second_same m sts sts' (cell.Of k) u v h h' = refl
second_same m sts sts' cell.Ptr u v h h' = second_parts (sym h' ∙ h)

-- ---- places that no expression reads

pub spare_in : (z : Sizes) (a : Place) → is_spare a ≡ true → IsIn z a
spare_in z (value (variables.Global x)) h = absurd (false≢true h)
spare_in z (value (variables.Local x)) h = absurd (false≢true h)
spare_in z (offset (variables.Global x)) h = absurd (false≢true h)
spare_in z (offset (variables.Local x)) h = absurd (false≢true h)
spare_in z (flag (variables.Global x)) h = absurd (false≢true h)
spare_in z (flag (variables.Local x)) h = absurd (false≢true h)
spare_in z result h = tt
spare_in z result_offset h = tt
spare_in z answer h = tt
spare_in z answer_offset h = tt
spare_in z (temporary n) h = absurd (false≢true h)
spare_in z (temporary_offset n) h = absurd (false≢true h)
spare_in z (numbers k) h = tt
spare_in z blocks h = tt
spare_in z offsets h = tt

pub spare_uncounted : (f : Temporaries) (a : Place) → is_spare a ≡ true → counts f a ≡ false
spare_uncounted f (value x) h = absurd (false≢true h)
spare_uncounted f (offset x) h = absurd (false≢true h)
spare_uncounted f (flag x) h = absurd (false≢true h)
spare_uncounted f result h = refl
spare_uncounted f result_offset h = refl
spare_uncounted f answer h = refl
spare_uncounted f answer_offset h = refl
spare_uncounted f (temporary n) h = absurd (false≢true h)
spare_uncounted f (temporary_offset n) h = absurd (false≢true h)
spare_uncounted f (numbers k) h = absurd (false≢true h)
spare_uncounted f blocks h = absurd (false≢true h)
spare_uncounted f offsets h = absurd (false≢true h)

-- ---- expressions

module _ (m : sense.World) (p : Facts) (s : Shape) (cells : FileCells) (setting : InSetting m p s cells) (fr : Frame) (live : AllLive fr) (f : Temporaries) (c : CoreWorld) where
  -- slots stand for the world also where such a place holds something else
  pub spare_put : (st : State) → StandsFor p s cells fr f c st → (a : Place) → is_spare a ≡ true → (x : ℤ) → StandsFor p s cells fr f c (with_held (sizes p s) a (number x) st)
  spare_put st stands a spare x = slots_go_on p s cells fr f c st stands f (λ j h. h) (with_held (sizes p s) a (number x) st)
      (keeps_all (sizes p s) f (λ a. counts f a ≡ false) (λ a so not_so. false≢true (sym not_so ∙ so)) st (with_held (sizes p s) a (number x) st)
      (keeps_put (sizes p s) f (λ a. counts f a ≡ false) st st a x (spare_in (sizes p s) a spare) (spare_uncounted f a spare)
      (keeps_own (sizes p s) f (λ a. counts f a ≡ false) st stands.size)))

  module _ (olds : List State) where
    abbrev env_at : State → Values
    env_at st = leaves_of (st ∷ olds)

    stood_at : (st : State) → StandsFor p s cells fr f c st → Stood m (env_at st) (reading p s cells) p s.variables (scope_at s cells fr.in_scope f) c.temps c.world
    stood_at st stands = expressions_read m p s cells setting fr live f c st stands olds

    -- a value that a closed term means in all slots that stand so
    has_value : (st : State) → StandsFor p s cells fr f c st → (k : CellKind) (u : Term) (v : Value) → is_closed_term u ≡ true
        → is_content p (count c.world.memory.blocks) k v ≡ true → ((st : State) → StandsFor p s cells fr f c st → Means m (env_at st) u v) → HasValue m p s cells c st olds k u v
    has_value st stands k u v closed_u fits means = record {
      gives = λ a spare. record {
        held = held_from m (st ∷ olds) p (count c.world.memory.blocks) k u v (means st stands) closed_u fits;
        stays =
            let x = first_value m (st ∷ olds) k u in
            let new = with_held (sizes p s) a (number x) st in
            second_same m (st ∷ olds) (new ∷ olds) k u v (held_from m (st ∷ olds) p (count c.world.memory.blocks) k u v (means st stands) closed_u fits)
            (held_from m (new ∷ olds) p (count c.world.memory.blocks) k u v (means new (spare_put st stands a spare x)) closed_u fits);
      };
      fits = fits;
    }

pub expressions_evaluate : ExpressionsEvaluate
expressions_evaluate m p s cells setting fr live f c st stands olds e k fits = record {
  says = formulas_mean_checks m (leaves_of (st ∷ olds)) (reading p s cells) p s.variables (scope_at s cells fr.in_scope f) c.temps c.world
      (stood_at m p s cells setting fr live f c olds st stands) e fits.typed;
  checks = words_have_the_checks p s.variables (reading p s cells) e;
  value = λ met. has_value m p s cells setting fr live f c olds st stands k (term_in m p s cells c st olds e) (value_in m p s cells c st olds e) fits.term
      (subst (λ k. is_content p (count c.world.memory.blocks) k (value_in m p s cells c st olds e) ≡ true) fits.kind
      (values_are_of_kind p s.variables (scope_at s cells fr.in_scope f) c.temps c.world (stood_at m p s cells setting fr live f c olds st stands).kinds e fits.typed met))
      (λ st stands. (terms_mean_values m (leaves_of (st ∷ olds)) (reading p s cells) p s.variables (scope_at s cells fr.in_scope f) c.temps c.world
      (stood_at m p s cells setting fr live f c olds st stands) e fits.typed met).term);
  test = λ met.
      closed_told m (st ∷ olds) (condition (term_in m p s cells c st olds e)) (condition_closed (term_in m p s cells c st olds e) fits.term)
      ∙ (terms_mean_values m (leaves_of (st ∷ olds)) (reading p s cells) p s.variables (scope_at s cells fr.in_scope f) c.temps c.world
      (stood_at m p s cells setting fr live f c olds st stands) e fits.typed met).condition;
}

pub operands_evaluate : OperandsEvaluate
operands_evaluate m p s cells setting fr live f c st stands olds es fits = record {
  says = (meant st stands).word;
  checks = (meant st stands).checks;
  values = λ met i. has_value m p s cells setting fr live f c olds st stands (operand_kind es i) (term_at (terms_in m p s cells c st olds es) i)
      (value_at (values_in m p s cells c st olds es) i)
      (term_closed (terms_in m p s cells c st olds es) fits.terms i) ((meant st stands).kinds met i) (λ st stands. (meant st stands).terms met i);
  means = λ met i. (meant st stands).terms met i;
}
  where
    meant : (st : State) → StandsFor p s cells fr f c st → AreMeant m (leaves_of (st ∷ olds)) (reading p s cells) p s.variables c.temps c.world es
    meant st stands = operands_are_meant m (leaves_of (st ∷ olds)) (reading p s cells) p s.variables (scope_at s cells fr.in_scope f) c.temps c.world
        (stood_at m p s cells setting fr live f c olds st stands) es fits.typed

-- ---- ways

no_cell : (k : CellKind) (o : ℤ) → has_cell k [] o ≡ true → ⊥
no_cell k (pos n) h = false≢true h
no_cell k (negsuc n) h = false≢true h

no_null : (k : CellKind) (t : Table) (o : ℤ) → is_cell k t (pos 0) o ≡ true → ⊥
unfolding block_at
no_null k t o h = no_cell k o h

no_block : (k : CellKind) (t : Table) (v w : Value) → v ≡ w → block_of w ≡ pos 0 → is_cell k t (block_of v) (offset_of v) ≡ true → ⊥
no_block k t v w e null h = no_null k t (offset_of v) (sym (ap (λ b. is_cell k t b (offset_of v)) (ap block_of e ∙ null)) ∙ h)

truth_null : (b : Bool) → block_of (truth_number b) ≡ pos 0
truth_null true = refl
truth_null false = refl

-- what leads to a cell is a pointer
pointer_held : (m : sense.World) (sts : List State) (k : CellKind) (t : Table) (u : Term) (v : Value) → Means m (leaves_of sts) u v → is_closed_term u ≡ true
    → is_cell k t (block_of v) (offset_of v) ≡ true → IsHeldAs cell.Ptr v (first_value m sts cell.Ptr u) (second_value m sts cell.Ptr u)
pointer_held m sts k t (as_number u) v means c h = absurd (no_block k t v (c_number (sense.value m (leaves_of sts) u)) means refl h)
pointer_held m sts k t (as_test f) v means c h = absurd (no_block k t v (truth_number (truth m (leaves_of sts) f)) means (truth_null (truth m (leaves_of sts) f)) h)
pointer_held m sts k t (as_pointer b o) v means c h =
    let both = and_parts (is_closed [] b) (is_closed [] o) c in
    means ∙ ap₂ pointer (sym (closed_value m sts b both.0)) (sym (closed_value m sts o both.1))

pub ways_lead : WaysLead
ways_lead m p s cells setting fr live f c st stands olds ts vs means type path there typed closed_way met tests = record {
  says = way.items;
  checks = way.checks;
  cell = λ so. record {
    target = pointer_held m (st ∷ olds) (cell_of type) c.world.memory.blocks (address_term p (reading p s cells) path ts) (address p c.world path vs) way.target closed_way (way.cell so);
    there = way.cell so;
  };
}
  where
    way : WayIsMeant m (leaves_of (st ∷ olds)) (reading p s cells) p c.world type path ts vs met
    way = ways_are_meant m (leaves_of (st ∷ olds)) (reading p s cells) p s.variables (scope_at s cells fr.in_scope f) c.temps c.world
        (stood_at m p s cells setting fr live f c olds st stands) ts vs means type path there typed met tests
