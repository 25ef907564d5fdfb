-- Words write terms and formulas of a property, where filled ones are of it.
use Rattle.std.proofs.Common.{◌≡◌, ℕ, zero, suc, ◌+◌, Bool, true, false, if◌then◌else◌, List, [], ◌∷◌, ◌++◌, map, Option, Some, None, slice_get, refl, sym, subst}
use Rattle.std.specs.Prelude.{ℤ, pos}
use Rattle.std.specs.List.{list_all}
use Rattle.std.proofs.lemmas.Bool.{and_parts}
use Rattle.wp_base.specs.declared.kinds.CellKind.{CellKind}
use Rattle.typed_prog.specs.Tree as t
use Rattle.typed_prog.specs.declared.operators.Root.{Root}
use Rattle.typed_prog.specs.declared.operators.Root.TheVariants as root
use Rattle.qed_terms.specs.Meaning as sense
use Rattle.qed_terms.specs.Tree.{Tree, num, false_tree, not_of, at_most}
use Rattle.qed_terms.specs.WellFormed.{fits, int, formula}
use Rattle.c_runs.specs.Program as program
use Rattle.c_runs.specs.Program.{Claim, Behavior, Together, Contract, Function, Loop, Facts}
use Rattle.c_runs.specs.Claims as broken
use Rattle.c_runs.specs.Claims.{in_order}
use Rattle.c_runs.specs.Checks.{Check as CheckOf}
use Rattle.c_runs.specs.Tree as core
use Rattle.c_runs.specs.Tree.{Goal, Steps}
use Rattle.plain_states.specs.Slots.{Sizes, value_slot, flag_slot, temp_slot}
use Rattle.plain_runs.specs.Fitting.{Shape, sizes, is_param, with_names}
use Rattle.value_terms.specs.Readings.{Term, as_number, as_test, as_pointer, number_term, term_fits}
use Rattle.value_terms.specs.Terms.{term_of}
use Rattle.value_terms.specs.Words.{Item, asked, known, formula_of, word_of, words}
use Rattle.value_terms.proofs.FittingWords.{all_is_well_formed}
use Rattle.value_terms.proofs.Places.{operands_are_well_formed}
use Rattle.acsl_encode.specs.Encode as encode
use Rattle.acsl_encode.specs.WellFormed.{IsFormula}
use Rattle.acsl_encode.proofs.Fitting.{AllFormulas, all_of_fits}
use Rattle.walk_steps.specs.Forms.{Slots, Place, Check, forms}
use Rattle.walk_steps.specs.Step.{Step}
use Rattle.walk_steps.specs.Step as step
use Rattle.walk_steps.specs.Texts.{AllSlots, AllWrite, ChangesWrite, Writes}
use Rattle.program_steps.specs.Leaves.{is_closed, fill, or_false, closed, form, number}
use Rattle.program_steps.specs.Stops.{broken_place}
use Rattle.program_steps.specs.Temporaries.{Temporaries, no_temporaries}
use Rattle.program_steps.specs.Terms.{Texts, reading, body_reading, return_reading, claim_tree}
use Rattle.program_steps.specs.Words as word
use Rattle.program_steps.specs.Words.{Point, Others, under, check, items_step, ask_all, set_variable, drop, arms, any_at, opened, all_opened, store_to, known_test, in_block, in_pass}
use Rattle.program_steps.specs.Typed.{OtherFits, WordFits, AllFit}
use Rattle.program_steps.specs.Functions.{body_point, any_of, no_two, behavior_tree, named_trees, together_check, ensure_check, ensure_checks, all_ensured, ending, function_word, FunctionFits}
use Rattle.program_goals.specs.Texts.{TextsFit}
use Rattle.program_goals.proofs.Names.{and_both}
use Rattle.program_goals.proofs.Formulas.{any_of_fits, no_two_fit, under_fits, reading_fits, body_fits, return_fits, claim_fits, writes_fit, behavior_fits, named_all_fit}

pub number_fits : (a : Term) → term_fits a ≡ true → fits int (number_term a) ≡ true
number_fits (as_number u) h = h
number_fits (as_test f) h = and_both h refl
number_fits (as_pointer b o) h = refl

-- what stands over slots of the property is of it
pub record Fills (Term Formula : Tree → Type 0) : Type 0 where
  pub form : (f : Tree) → IsFormula f → (ss : List Slots) → AllSlots Term Formula ss → Formula (fill ss (closed f))
  pub number : (u : Tree) → fits int u ≡ true → is_closed [] u ≡ true → (ss : List Slots) → AllSlots Term Formula ss → Term (fill ss u)
  pub at_least : (z : ℤ) (u : Tree) → Term u → Formula (at_most (num z) u)
  pub up_to : (z : ℤ) (u : Tree) → Term u → Formula (at_most u (num z))

module _ (Term Formula : Tree → Type 0) (fills : Fills Term Formula) (m : sense.World) where
  abbrev pub WritesSo : Step → Type 0
  WritesSo a = Writes Term Formula a

  pub form_writes : (f : Tree) → IsFormula f → (ss : List Slots) → AllSlots Term Formula ss → Formula ((form m f).written ss)
  form_writes f h ss slots = fills.form f h ss slots

  pub number_writes : (u : Tree) → fits int u ≡ true → is_closed [] u ≡ true → (ss : List Slots) → AllSlots Term Formula ss → Term ((number m u).written ss)
  number_writes u h c ss slots = subst (λ b. Term (fill ss (or_false b u))) (sym c) (fills.number u h c ss slots)

  pub asks_write : (fs : List Tree) (a : Place) → AllFormulas fs → AllWrite Term Formula (forms (map (λ f. check m f a) fs))
  asks_write [] a h = tt
  asks_write (f ∷ fs) a h = (form_writes f h.0, asks_write fs a h.1)

  pub knows_write : (fs : List Tree) → AllFormulas fs → AllWrite Term Formula (map (form m) fs)
  knows_write [] h = tt
  knows_write (f ∷ fs) h = (form_writes f h.0, knows_write fs h.1)

  pub items_write : (is : List Item) → list_all (λ i. fits formula (formula_of i)) is ≡ true → WritesSo (items_step m is)
  items_write [] h = tt
  items_write (asked c f ∷ is) h = let b = and_parts (fits formula f) _ h in ((form_writes f b.0, tt), items_write is b.1)
  items_write (known f ∷ is) h = let b = and_parts (fits formula f) _ h in ((form_writes f b.0, tt), items_write is b.1)

  zero_writes : (ss : List Slots) → AllSlots Term Formula ss → Term ((number m (num (pos 0))).written ss)
  zero_writes = number_writes (num (pos 0)) refl refl

  one_writes : (ss : List Slots) → AllSlots Term Formula ss → Term ((number m (num (pos 1))).written ss)
  one_writes = number_writes (num (pos 1)) refl refl

  pub set_writes : (x : ℕ) (u : Tree) → fits int u ≡ true → is_closed [] u ≡ true → WritesSo (set_variable m x u)
  set_writes x u h c = (number_writes u h c, one_writes)

  drop_writes : (z : Sizes) (n : ℕ) (f : Temporaries) → WritesSo (drop m z n f)
  drop_writes z zero f = tt
  drop_writes z (suc n) f = (drop_writes z n f, by (f n)) where
    by : (b : Bool) → WritesSo (if b then step.set (temp_slot z n) (number m (num (pos 0))) else step.skip)
    by true = zero_writes
    by false = tt

  arms_write : (o : Option Bool) (g : Tree) (a b : Step) → IsFormula g → WritesSo a → WritesSo b → WritesSo (arms m o g a b)
  arms_write None g a b h x y = ((form_writes g h, tt), x, y)
  arms_write (Some true) g a b h x y = ((form_writes g h, tt), x)
  arms_write (Some false) g a b h x y = ((form_writes (not_of g) (and_both h refl), tt), y)

  any_writes : (i : ℕ) → ChangesWrite Term Formula (any_at i)
  any_writes zero = (tt, tt)
  any_writes (suc i) = any_writes i

  opened_writes : (s : Shape) (z : Sizes) (x : ℕ) (o : Option program.Variable) → WritesSo (opened m s z x o)
  opened_writes s z x None = tt
  opened_writes s z x (Some v) = by v.has_value where
    by : (b : Bool) → WritesSo (if b then step.seq (step.set (value_slot (z.globals + x)) (number m (num (pos 0)))) (step.set (flag_slot (z.globals + x)) (number m (num (pos 1))))
        else step.seq (step.change (any_at (value_slot (z.globals + x)))) (step.set (flag_slot (z.globals + x)) (number m (num (pos 0)))))
    by true = (zero_writes, one_writes)
    by false = (any_writes (value_slot (z.globals + x)), zero_writes)

  opens_write : (s : Shape) (z : Sizes) (ys : List ℕ) → WritesSo (all_opened m s z ys)
  opens_write s z [] = tt
  opens_write s z (x ∷ ys) = (opened_writes s z x (slice_get s.variables x), opens_write s z ys)

  pub checks_both : (cs ds : List Check) → AllWrite Term Formula (forms cs) → AllWrite Term Formula (forms ds) → AllWrite Term Formula (forms (cs ++ ds))
  checks_both [] ds h k = k
  checks_both (c ∷ cs) ds h k = (h.0, checks_both cs ds h.1 k)

  -- ---- loops and calls

  pub record OthersWrite (others : Others) (asked_of : OtherFits) : Type 0 where
    pub loop : (i : ℕ → Bool) (pt : Point) (l : Loop) (ss : Steps) → asked_of.loop_fits i pt.outs l ss → (pass : Step) → WritesSo pass → WritesSo (others.loop_word pt l ss pass)
    pub call : (i : ℕ → Bool) (f : Temporaries) (pt : Point) (cs : List CheckOf) (to : Goal) (n l : ℕ) (es : t.Values) → asked_of.call_fits i pt.outs f cs to n l es
        → WritesSo (others.call_word pt cs to n l es)

  module _ (p : Facts) (s : Shape) (texts : Texts) (named : TextsFit texts) where
    value_writes : (e : t.Value) → WritesSo (items_step m (word_of p s.variables (reading p s) e))
    value_writes e = items_write (word_of p s.variables (reading p s) e) (all_is_well_formed p s.variables (reading p s) (reading_fits p s) e).word

    pub values_write : (es : t.Values) → WritesSo (items_step m (words p s.variables (reading p s) es))
    values_write es = items_write (words p s.variables (reading p s) es) (operands_are_well_formed p s.variables (reading p s) (reading_fits p s) es).word

    term_is : (e : t.Value) → fits int (number_term (term_of p s.variables (reading p s) e)) ≡ true
    term_is e = number_fits (term_of p s.variables (reading p s) e) (all_is_well_formed p s.variables (reading p s) (reading_fits p s) e).term

    module _ (contract : Contract) (others : Others) (asked_of : OtherFits) (so : OthersWrite others asked_of) where
      store_writes : (pt : Point) (l : ℕ) (r : Root) (u : Tree) → fits int u ≡ true → is_closed [] u ≡ true → WritesSo (store_to m p s texts contract others pt l r u)
      store_writes pt l (root.Variable x) u h c = (asks_write (word.write_trees p s texts contract pt x) (broken_place broken.assigns l) (writes_fit p s texts named contract pt x), set_writes (word.variable_number (sizes p s) x) u h c)
      store_writes pt l (root.Pointed n) u h c = tt

      mutual
        step_writes : (a : core.Step) (i : ℕ → Bool) (pt : Point) (f : Temporaries) → WordFits m p s texts asked_of i pt.outs f a → WritesSo (word.step m p s texts contract others pt a f)
        step_writes (core.set cs n e) i pt f fits = (value_writes e, number_writes (word.term_in m p s texts contract others e) (term_is e) fits.1.term)
        step_writes (core.store cs type l path t.stop) i pt f fits = absurd fits
        step_writes (core.store cs type l path (t.more e t.stop)) i pt f fits =
            (values_write (t.more e t.stop), store_writes pt l path.root (word.term_in m p s texts contract others e) (term_is e) fits.2.term)
        step_writes (core.store cs type l path (t.more e (t.more x rest))) i pt f fits = absurd fits
        step_writes (core.start cs x e) i pt f fits = (value_writes e, set_writes ((sizes p s).globals + x) (word.term_in m p s texts contract others e) (term_is e) fits.2.term)
        step_writes (core.call cs to n l es) i pt f fits = so.call i f pt cs to n l es fits
        step_writes (core.branch cs e a b) i pt f fits = (
          value_writes e,
          arms_write (known_test e) (word.condition_in m p s texts contract others e) _ _
              (all_is_well_formed p s.variables (reading p s) (reading_fits p s) e).condition
              (drop_writes (sizes p s) s.temporaries _, steps_write a i pt f fits.3) (drop_writes (sizes p s) s.temporaries _, steps_write b i pt f fits.4),
        )
        step_writes (core.repeat l ss) i pt f fits =
            so.loop i pt l ss fits.0 (word.steps m p s texts contract others (in_pass l pt) ss (λ n. false)) (steps_write ss i (in_pass l pt) no_temporaries fits.1)
        step_writes (core.around ss) i pt f fits = steps_write ss i (in_block f pt) f fits
        step_writes (core.exit k) i pt f fits = tt
        step_writes (core.give cs None) i pt f fits = tt
        step_writes (core.give cs (Some e)) i pt f fits =
            (value_writes e, (number_writes (word.term_in m p s texts contract others e) (term_is e) fits.2.term, (drop_writes (sizes p s) s.temporaries _, tt)))
        step_writes (core.claim c) i pt f fits =
            (form_writes (claim_tree p s texts (body_reading p s texts 0 (suc pt.entry) (suc pt.loop_entry)) c.what) (claim_fits p s texts named (body_reading p s texts 0 (suc pt.entry) (suc pt.loop_entry)) c.what (body_fits p s texts named 0 (suc pt.entry) (suc pt.loop_entry) c.what)), tt)
        step_writes (core.scope ys ss) i pt f fits = (opens_write s (sizes p s) ys, steps_write ss (with_names ys i) pt f fits.1)

        steps_write : (ss : Steps) (i : ℕ → Bool) (pt : Point) (f : Temporaries) → AllFit m p s texts asked_of i pt.outs f ss → WritesSo (word.steps m p s texts contract others pt ss f)
        steps_write core.end i pt f fits = tt
        steps_write (core.then_ a ss) i pt f fits = (step_writes a i pt _ fits.0, (drop_writes (sizes p s) s.temporaries _, steps_write ss i pt f fits.1))

    -- ---- whole functions

    together_writes : (bs : List Behavior) (t : Together) (ss : List Slots) → AllSlots Term Formula ss → Formula ((together_check m p s texts bs t).form.written ss)
    together_writes bs t ss slots = by t.is_complete where
      by : (b : Bool) → Formula ((if b then check m (any_of (named_trees m p s texts bs t.numbers)) (broken_place broken.complete t.line)
          else check m (encode.all_of (no_two (named_trees m p s texts bs t.numbers))) (broken_place broken.disjoint t.line)).form.written ss)
      by true = form_writes (any_of (named_trees m p s texts bs t.numbers)) (any_of_fits (named_trees m p s texts bs t.numbers) (named_all_fit p s texts named m bs t.numbers)) ss slots
      by false = form_writes (encode.all_of (no_two (named_trees m p s texts bs t.numbers))) (all_of_fits (no_two (named_trees m p s texts bs t.numbers)) (no_two_fit (named_trees m p s texts bs t.numbers) (named_all_fit p s texts named m bs t.numbers))) ss slots

    togethers_write : (bs : List Behavior) (ts : List Together) → AllWrite Term Formula (forms (map (together_check m p s texts bs) ts))
    togethers_write bs [] = tt
    togethers_write bs (t ∷ ts) = (together_writes bs t, togethers_write bs ts)

    ensures_write : (plain : Bool) (b : Behavior) (cs : List Claim) → AllWrite Term Formula (forms (map (ensure_check m p s texts plain b) cs))
    ensures_write plain b [] = tt
    ensures_write plain b (c ∷ cs) = (
      form_writes (under plain (behavior_tree m p s texts b) (claim_tree p s texts (return_reading p s texts 1) c.what))
          (under_fits plain _ _ (behavior_fits p s texts named m b) (claim_fits p s texts named (return_reading p s texts 1) c.what (return_fits p s texts named 1 c.what))),
      ensures_write plain b cs,
    )

    ensured_write : (bs : List Behavior) → AllWrite Term Formula (forms (all_ensured m p s texts bs))
    ensured_write [] = tt
    ensured_write (b ∷ bs) = checks_both (ensure_checks m p s texts false b) (all_ensured m p s texts bs) (ensures_write false b b.ensures) (ensured_write bs)

    ending_writes : (o : Option CellKind) (l : ℕ) → WritesSo (ending m p s texts o l)
    ending_writes None l = tt
    ending_writes (Some k) l = ((form_writes false_tree refl, tt), tt)

    pub function_writes : (others : Others) (asked_of : OtherFits) → OthersWrite others asked_of → (n : ℕ) (f : Function Steps) → FunctionFits m p s texts asked_of f
        → WritesSo (function_word m p s texts others n f)
    function_writes others asked_of so n f fits = (
      togethers_write f.contract.behaviors (in_order f.contract.together),
      (
        (steps_write f.contract others asked_of so f.body (is_param f.params) (body_point n) no_temporaries fits.body, ending_writes f.result f.end),
        checks_both (ensure_checks m p s texts true f.contract.plain) (all_ensured m p s texts f.contract.behaviors) (ensures_write true f.contract.plain f.contract.plain.ensures)
            (ensured_write f.contract.behaviors),
      ),
    )
