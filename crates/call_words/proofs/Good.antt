-- All that stands in the word of a call is good.
use Rattle.std.proofs.Common.{ℕ, zero, suc, Bool, true, false, if◌then◌else◌, List, [], ◌∷◌, map, Option, Some, None, refl}
use Rattle.std.specs.Prelude.{ℤ, pos}
use Rattle.wp_base.specs.declared.kinds.CellKind.{CellKind}
use Rattle.wp_base.specs.declared.kinds.CellKind.TheVariants as cell
use Rattle.c_kinds.specs.Models.{low, high}
use Rattle.typed_prog.specs.Tree as t
use Rattle.typed_prog.specs.declared.operators.Root.{Root}
use Rattle.typed_prog.specs.declared.operators.Root.TheVariants as root
use Rattle.qed_terms.specs.Meaning as sense
use Rattle.qed_terms.specs.Tree.{Tree, num}
use Rattle.c_runs.specs.Program as program
use Rattle.c_runs.specs.Program.{Contract, Function, Facts}
use Rattle.c_runs.specs.Claims as broken
use Rattle.c_runs.specs.Tree.{Goal, nowhere, temporary, place, variable, Steps}
use Rattle.plain_states.specs.Slots.{answer_slot}
use Rattle.plain_states.specs.Scopes.{kind_of}
use Rattle.plain_runs.specs.Fitting.{Shape, sizes}
use Rattle.value_terms.specs.Words.{Item, asked, known, words}
use Rattle.walk_steps.specs.Forms.{Place, forms, IsNumber, AreForms}
use Rattle.walk_steps.specs.Step.{Change, keeps, IsGood, IsChange, AreChanges}
use Rattle.walk_words.specs.Changes.{ranged}
use Rattle.program_steps.specs.Leaves.{form, number}
use Rattle.program_steps.specs.Stops.{broken_place}
use Rattle.program_steps.specs.Terms.{Texts, reading}
use Rattle.program_steps.specs.Words.{Point, write_trees, check, items_step}
use Rattle.program_steps.proofs.Filling.{forms_are_good}
use Rattle.call_words.specs.Sets.{inclusion_trees, may_differ, file_changes}
use Rattle.call_words.specs.Words.{one_further, change_at, call_requires, lower_by, stay_trees, call_promises, answer_step, answer_term, placed_in, received, behind_call, call_by}
use Rattle.call_words.specs.Laws.{CallsAreGood}

module _ (m : sense.World) where
  good_number : (u : Tree) → IsNumber m (number m u)
  good_number u = (forms_are_good m u).number

  items_good : (is : List Item) → IsGood m (items_step m is)
  items_good [] = tt
  items_good (asked c f ∷ is) = (((forms_are_good m f).form, tt), items_good is)
  items_good (known f ∷ is) = (((forms_are_good m f).form, tt), items_good is)

  all_good : (fs : List Tree) (a : Place) → AreForms m (forms (map (λ f. check m f a) fs))
  all_good [] a = tt
  all_good (f ∷ fs) a = ((forms_are_good m f).form, all_good fs a)

  known_good : (fs : List Tree) → AreForms m (map (form m) fs)
  known_good [] = tt
  known_good (f ∷ fs) = ((forms_are_good m f).form, known_good fs)

  ranged_good : (l h : ℤ) → IsChange m (ranged l h)
  ranged_good l h = ((λ env ss u clean is. refl), ((λ env ss u clean is. refl), tt))

  changes_good : (p : Facts) (c : Contract) (x : ℕ) (vs : List program.Variable) → AreChanges m (file_changes p c x vs)
  changes_good p c x [] = tt
  changes_good p c x (v ∷ vs) = (by (may_differ c x), (tt, changes_good p c (suc x) vs)) where
    by : (b : Bool) → IsChange m (if b then ranged (low p.model (kind_of v)) (high p.model (kind_of v)) else keeps)
    by true = ranged_good (low p.model (kind_of v)) (high p.model (kind_of v))
    by false = tt

  one_good : (i : ℕ) (c : Change) → IsChange m c → AreChanges m (change_at i c)
  one_good zero c h = (h, tt)
  one_good (suc i) c h = (tt, one_good i c h)

  module _ (p : Facts) (s : Shape) (texts : Texts) (contract : Contract) (functions : ℕ → Option (Function Steps)) where
    answer_good : (o : Option CellKind) → IsGood m (answer_step m p s texts contract functions o)
    answer_good None = tt
    answer_good (Some (cell.Of k)) = one_good (answer_slot (sizes p s)) (ranged (low p.model k) (high p.model k)) (ranged_good (low p.model k) (high p.model k))
    answer_good (Some cell.Ptr) = tt

    placed_good : (pt : Point) (l : ℕ) (r : Root) (u : Tree) → IsGood m (placed_in m p s texts contract functions pt l r u)
    placed_good pt l (root.Variable x) u = (all_good (write_trees p s texts contract pt x) (broken_place broken.assigns l), (good_number u, good_number (num (pos 1))))
    placed_good pt l (root.Pointed n) u = tt

    received_good : (pt : Point) (to : Goal) (u : Tree) → IsGood m (received m p s texts contract functions pt to u)
    received_good pt nowhere u = tt
    received_good pt (temporary n) u = good_number u
    received_good pt (place cs type l path es) u = (items_good (words p s.variables (reading p s) es), placed_good (one_further pt) l path.root u)
    received_good pt (variable x) u = (good_number u, good_number (num (pos 1)))

    behind_good : (pt : Point) (to : Goal) (g : Function Steps) (es : t.Values) → IsGood m (behind_call m p s texts contract functions pt to g es)
    behind_good pt to g es = (
      changes_good p g.contract 0 p.globals,
      (
        known_good (stay_trees p s texts g es),
        (answer_good g.result, (known_good (call_promises p s texts g es), received_good pt to (answer_term m p s texts contract functions g.result))),
      ),
    )

    by_good : (pt : Point) (to : Goal) (n l : ℕ) (o : Option (Function Steps)) (es : t.Values) → IsGood m (call_by m p s texts contract functions pt to n l o es)
    by_good pt to n l None es = tt
    by_good pt to n l (Some g) es = (
      items_good (words p s.variables (reading p s) es),
      (
        all_good (call_requires p s texts g es) (broken_place broken.requires l),
        (
          all_good (lower_by p s texts g es (suc pt.entry) (p.in_cluster pt.self n) contract.decreases g.contract.decreases) (broken_place broken.decreases l),
          (all_good (inclusion_trees p s texts g es contract pt) (broken_place broken.assigns l), behind_good pt to g es),
        ),
      ),
    )

pub calls_are_good : CallsAreGood
calls_are_good m p s texts contract functions pt cs to n l es = by_good m p s texts contract functions pt to n l (functions n) es
