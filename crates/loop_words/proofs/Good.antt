-- All forms and changes of the word of a loop are good.
use Rattle.std.proofs.Common.{ℕ, suc, Bool, true, false, List, [], ◌∷◌, ◌++◌, map, Option, Some, None, refl}
use Rattle.wp_base.specs.declared.kinds.Kind.{Kind}
use Rattle.qed_terms.specs.Meaning as sense
use Rattle.qed_terms.specs.Tree.{Tree, num, at_most, less}
use Rattle.std.specs.Prelude.{pos}
use Rattle.c_runs.specs.Program.{Variable, Claim, Measure, Facts}
use Rattle.c_runs.specs.Claims as broken
use Rattle.plain_runs.specs.Fitting.{Shape}
use Rattle.walk_steps.specs.Forms.{Place, Check, forms, IsForm, AreForms}
use Rattle.walk_steps.specs.Step.{Change, IsChange, AreChanges}
use Rattle.program_steps.specs.Leaves.{form}
use Rattle.program_steps.specs.Terms.{Texts, claim_tree}
use Rattle.program_steps.specs.Words.{Point, check}
use Rattle.program_steps.specs.Stops.{broken_place}
use Rattle.program_steps.proofs.Filling.{forms_are_good}
use Rattle.loop_words.specs.Sets.{inside_trees, file_changes, local_changes}
use Rattle.loop_words.specs.Words.{value_change, flag_change, file_list, local_list, stay_trees, head_tree, entry_check, kept_check, variant_checks, measure_tree, before_reading, end_reading}
use Rattle.loop_words.specs.Laws.{LoopsAreGood}

module _ (m : sense.World) where
  good_form : (f : Tree) → IsForm m (form m f)
  good_form f = (forms_are_good m f).form

  asked_good : (fs : List Tree) (a : Place) → AreForms m (forms (map (λ f. check m f a) fs))
  asked_good [] a = tt
  asked_good (f ∷ fs) a = (good_form f, asked_good fs a)

  known_good : (fs : List Tree) → AreForms m (map (form m) fs)
  known_good [] = tt
  known_good (f ∷ fs) = (good_form f, known_good fs)

  more_good : (cs ds : List Check) → AreForms m (forms cs) → AreForms m (forms ds) → AreForms m (forms (cs ++ ds))
  more_good [] ds h k = k
  more_good (c ∷ cs) ds h k = (h.0, more_good cs ds h.1 k)

  module _ (p : Facts) where
    value_good : (b : Bool) (k : Kind) → IsChange m (value_change p b k)
    value_good true k = (λ env ss t clean is_clean. refl, (λ env ss t clean is_clean. refl, tt))
    value_good false k = tt

    flag_good : (b : Bool) → IsChange m (flag_change p b)
    flag_good true = tt
    flag_good false = tt

    files_good : (f : ℕ → Bool) (x : ℕ) (vs : List Variable) (cs : List Change) → AreChanges m cs → AreChanges m (file_list p f x vs ++ cs)
    files_good f x [] cs h = h
    files_good f x (v ∷ vs) cs h = (value_good (f x) _, (tt, files_good f (suc x) vs cs h))

    locals_good : (f : ℕ → Bool) (x : ℕ) (vs : List Variable) → AreChanges m (local_list p f x vs)
    locals_good f x [] = tt
    locals_good f x (v ∷ vs) = (value_good (f x) _, (flag_good (f x), locals_good f (suc x) vs))

    module _ (s : Shape) (texts : Texts) (pt : Point) where
      entries_good : (cs : List Claim) → AreForms m (forms (map (entry_check p s texts m pt) cs))
      entries_good [] = tt
      entries_good (c ∷ cs) = (good_form (head_tree p s texts pt c), entries_good cs)

      kept_good : (cs : List Claim) → AreForms m (forms (map (kept_check p s texts m pt) cs))
      kept_good [] = tt
      kept_good (c ∷ cs) = (good_form (claim_tree p s texts (end_reading p s texts pt) c.what), kept_good cs)

      variant_good : (v : Option Measure) → AreForms m (forms (variant_checks p s texts m pt v))
      variant_good None = tt
      variant_good (Some v) = (
        good_form (at_most (num (pos 0)) (measure_tree p s texts (before_reading p s texts pt) v.what)),
        (good_form (less (measure_tree p s texts (end_reading p s texts pt) v.what) (measure_tree p s texts (before_reading p s texts pt) v.what)), tt),
      )

pub loops_are_good : LoopsAreGood
loops_are_good m p s texts c pt l ss pass good = (
  asked_good m (inside_trees p s texts c pt l) (broken_place broken.assigns l.line),
  (
    entries_good m p s texts pt l.invariants,
    (
      files_good m p (file_changes c pt l) 0 p.globals (local_list p (local_changes l ss) 0 s.variables) (locals_good m p (local_changes l ss) 0 s.variables),
      (
        known_good m (stay_trees p s texts c pt l ++ map (head_tree p s texts pt) l.invariants),
        (
          good,
          (more_good m (map (kept_check p s texts m pt) l.invariants) (variant_checks p s texts m pt l.variant) (kept_good m p s texts pt l.invariants) (variant_good m p s texts pt l.variant), tt),
        ),
      ),
    ),
  ),
)
