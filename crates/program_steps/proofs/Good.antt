-- All forms and numbers of words are good.
use Rattle.std.proofs.Common.{◌≡◌, ℕ, zero, suc, ◌+◌, Bool, true, false, not, ◌&&◌, ◌||◌, if◌then◌else◌, List, [], ◌∷◌, ◌++◌, map, Option, Some, None, slice_get}
use Rattle.std.specs.Prelude.{ℤ, pos}
use Rattle.typed_prog.specs.declared.operators.Root.{Root}
use Rattle.typed_prog.specs.declared.operators.Root.TheVariants as root
use Rattle.typed_prog.specs.Tree as t
use Rattle.qed_terms.specs.Meaning as sense
use Rattle.wp_base.specs.declared.kinds.CellKind.{CellKind}
use Rattle.acsl_encode.specs.Encode as encode
use Rattle.qed_terms.specs.Tree.{Tree, num, not_of, false_tree}
use Rattle.c_runs.specs.Program as program
use Rattle.c_runs.specs.Program.{Claim, Behavior, Together, Contract, Loop, Facts}
use Rattle.c_runs.specs.Claims as broken
use Rattle.c_runs.specs.Claims.{in_order}
use Rattle.c_runs.specs.Tree as core
use Rattle.plain_states.specs.Slots.{Sizes, value_slot, flag_slot, temp_slot}
use Rattle.goal_segments.specs.Told.{Shape, sizes}
use Rattle.value_terms.specs.Readings.{condition}
use Rattle.value_terms.specs.Terms.{term_of}
use Rattle.value_terms.specs.Words.{Item, asked, known, word_of, words}
use Rattle.walk_steps.specs.Forms.{Place, Check, forms, IsForm, IsNumber, AreForms}
use Rattle.walk_steps.specs.Step.{Step, IsGood, AreChanges}
use Rattle.walk_steps.specs.Step as step
use Rattle.program_steps.specs.Leaves.{form, number}
use Rattle.program_steps.specs.Stops.{broken_place}
use Rattle.program_steps.specs.Temporaries.{Temporaries, no_temporaries}
use Rattle.program_steps.specs.Terms.{Texts, reading, body_reading, return_reading, claim_tree}
use Rattle.program_steps.specs.Words as word
use Rattle.program_steps.specs.Words.{Point, Others, under, check, items_step, ask_all, set_variable, drop, arms, any_at, opened, all_opened, store_to, known_test, in_block, in_pass}
use Rattle.program_steps.specs.Functions.{body_point, any_of, no_two, behavior_tree, named_trees, together_check, ensure_check, ensure_checks, all_ensured, ending}
use Rattle.program_steps.specs.Laws.{OthersAreGood, WordsAreGood, FunctionsAreGood}
use Rattle.program_steps.proofs.Filling.{forms_are_good}

module _ (m : sense.World) where
  good_form : (f : Tree) → IsForm m (form m f)
  good_form f = (forms_are_good m f).form

  good_number : (u : Tree) → IsNumber m (number m u)
  good_number u = (forms_are_good m u).number

  items_good : (is : List Item) → IsGood m (items_step m is)
  items_good [] = tt
  items_good (asked c f ∷ is) = ((good_form f, tt), items_good is)
  items_good (known f ∷ is) = ((good_form f, tt), items_good is)

  all_good : (fs : List Tree) (a : Place) → AreForms m (forms (map (λ f. check m f a) fs))
  all_good [] a = tt
  all_good (f ∷ fs) a = (good_form f, all_good fs a)

  drop_good : (z : Sizes) (n : ℕ) (f : Temporaries) → IsGood m (drop m z n f)
  drop_good z zero f = tt
  drop_good z (suc n) f = (drop_good z n f, by (f n)) where
    by : (b : Bool) → IsGood m (if b then step.set (temp_slot z n) (number m (num (pos 0))) else step.skip)
    by true = good_number (num (pos 0))
    by false = tt

  arms_good : (o : Option Bool) (g : Tree) (a b : Step) → IsGood m a → IsGood m b → IsGood m (arms m o g a b)
  arms_good None g a b x y = (good_form g, x, y)
  arms_good (Some true) g a b x y = ((good_form g, tt), x)
  arms_good (Some false) g a b x y = ((good_form (not_of g), tt), y)

  any_good : (i : ℕ) → AreChanges m (any_at i)
  any_good zero = (tt, tt)
  any_good (suc i) = (tt, any_good i)

  opened_good : (s : Shape) (z : Sizes) (x : ℕ) (o : Option program.Variable) → IsGood m (opened m s z x o)
  opened_good s z x None = tt
  opened_good s z x (Some v) = by v.has_value where
    by : (b : Bool) → IsGood m (if b then step.seq (step.set (value_slot (z.globals + x)) (number m (num (pos 0)))) (step.set (flag_slot (z.globals + x)) (number m (num (pos 1))))
        else step.seq (step.change (any_at (value_slot (z.globals + x)))) (step.set (flag_slot (z.globals + x)) (number m (num (pos 0)))))
    by true = (good_number (num (pos 0)), good_number (num (pos 1)))
    by false = (any_good (value_slot (z.globals + x)), good_number (num (pos 0)))

  opens_good : (s : Shape) (z : Sizes) (ys : List ℕ) → IsGood m (all_opened m s z ys)
  opens_good s z [] = tt
  opens_good s z (x ∷ ys) = (opened_good s z x (slice_get s.variables x), opens_good s z ys)

module _ (m : sense.World) (p : Facts) (s : Shape) (texts : Texts) (contract : Contract) (others : Others) (good : OthersAreGood m others) where
  store_good : (pt : Point) (l : ℕ) (r : Root) (u : Tree) → IsGood m (store_to m p s texts contract others pt l r u)
  store_good pt l (root.Variable x) u = (all_good m (word.write_trees p s texts contract pt x) (broken_place broken.assigns l), (good_number m u, good_number m (num (pos 1))))
  store_good pt l (root.Pointed n) u = tt

  mutual
    step_good : (a : core.Step) (pt : Point) (f : Temporaries) → IsGood m (word.step m p s texts contract others pt a f)
    step_good (core.set cs n e) pt f = (items_good m (word_of p s.variables (reading p s) e), good_number m (word.term_in m p s texts contract others e))
    step_good (core.store cs type l path es) pt f = (items_good m (words p s.variables (reading p s) es), store_good pt l path.root _)
    step_good (core.start cs x e) pt f =
        (items_good m (word_of p s.variables (reading p s) e), (good_number m (word.term_in m p s texts contract others e), good_number m (num (pos 1))))
    step_good (core.call cs to n l es) pt f = good.call pt cs to n l es
    step_good (core.branch cs e a b) pt f = (
      items_good m (word_of p s.variables (reading p s) e),
      arms_good m (known_test e) (word.condition_in m p s texts contract others e) _ _ (drop_good m (sizes p s) s.temporaries _, steps_good a pt f) (drop_good m (sizes p s) s.temporaries _, steps_good b pt f),
    )
    step_good (core.repeat l ss) pt f = good.loop pt l ss (word.steps m p s texts contract others (in_pass l pt) ss (λ n. false)) (steps_good ss (in_pass l pt) (λ n. false))
    step_good (core.around ss) pt f = steps_good ss (in_block f pt) f
    step_good (core.exit k) pt f = tt
    step_good (core.give cs None) pt f = tt
    step_good (core.give cs (Some e)) pt f =
        (items_good m (word_of p s.variables (reading p s) e), (good_number m (word.term_in m p s texts contract others e), (drop_good m (sizes p s) s.temporaries _, tt)))
    step_good (core.claim c) pt f = (good_form m (claim_tree p s texts (body_reading p s texts 0 (suc pt.entry) (suc pt.loop_entry)) c.what), tt)
    step_good (core.scope ys ss) pt f = (opens_good m s (sizes p s) ys, steps_good ss pt f)

    steps_good : (ss : core.Steps) (pt : Point) (f : Temporaries) → IsGood m (word.steps m p s texts contract others pt ss f)
    steps_good core.end pt f = tt
    steps_good (core.then_ a ss) pt f = (step_good a pt _, (drop_good m (sizes p s) s.temporaries _, steps_good ss pt f))

pub words_are_good : WordsAreGood
words_are_good m p s texts contract others good pt ss f = steps_good m p s texts contract others good ss pt f

module _ (m : sense.World) where
  are_append : (cs ds : List Check) → AreForms m (forms cs) → AreForms m (forms ds) → AreForms m (forms (cs ++ ds))
  are_append [] ds h k = k
  are_append (c ∷ cs) ds h k = (h.0, are_append cs ds h.1 k)

  module _ (p : Facts) (s : Shape) (texts : Texts) where
    together_good : (bs : List Behavior) (t : Together) → IsForm m ((together_check m p s texts bs t).form)
    together_good bs t = by t.is_complete where
      by : (b : Bool) → IsForm m ((if b then check m (any_of (named_trees m p s texts bs t.numbers)) (broken_place broken.complete t.line)
          else check m (encode.all_of (no_two (named_trees m p s texts bs t.numbers))) (broken_place broken.disjoint t.line)).form)
      by true = good_form m (any_of (named_trees m p s texts bs t.numbers))
      by false = good_form m (encode.all_of (no_two (named_trees m p s texts bs t.numbers)))

    togethers_good : (bs : List Behavior) (ts : List Together) → AreForms m (forms (map (together_check m p s texts bs) ts))
    togethers_good bs [] = tt
    togethers_good bs (t ∷ ts) = (together_good bs t, togethers_good bs ts)

    ensures_good : (plain : Bool) (b : Behavior) (cs : List Claim) → AreForms m (forms (map (ensure_check m p s texts plain b) cs))
    ensures_good plain b [] = tt
    ensures_good plain b (c ∷ cs) = (good_form m (under plain (behavior_tree m p s texts b) (claim_tree p s texts (return_reading p s texts 1) c.what)), ensures_good plain b cs)

    ensured_good : (bs : List Behavior) → AreForms m (forms (all_ensured m p s texts bs))
    ensured_good [] = tt
    ensured_good (b ∷ bs) = are_append (ensure_checks m p s texts false b) (all_ensured m p s texts bs) (ensures_good false b b.ensures) (ensured_good bs)

    ending_good : (o : Option CellKind) (l : ℕ) → IsGood m (ending m p s texts o l)
    ending_good None l = tt
    ending_good (Some k) l = ((good_form m false_tree, tt), tt)

pub functions_are_good : FunctionsAreGood
functions_are_good m p s texts others good n f = (
  togethers_good m p s texts f.contract.behaviors (in_order f.contract.together),
  (
    (steps_good m p s texts f.contract others good f.body (body_point n) no_temporaries, ending_good m p s texts f.result f.end),
    are_append m (ensure_checks m p s texts true f.contract.plain) (all_ensured m p s texts f.contract.behaviors) (ensures_good m p s texts true f.contract.plain f.contract.plain.ensures)
        (ensured_good m p s texts f.contract.behaviors),
  ),
)
