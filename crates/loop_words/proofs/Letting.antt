-- Which variables of the file a loop's turns change, and which ones the sets in force inside of it let change.
use Rattle.std.proofs.Common.{◌≡◌, ℕ, ◌<◌, Bool, true, false, not, ◌&&◌, ◌||◌, List, [], ◌∷◌, length, Option, Some, None, refl, sym, ap, ◌∙◌}
use Rattle.std.specs.List.{list_all}
use Rattle.std.proofs.lemmas.Bool.{false≢true}
use Rattle.typed_prog.specs.declared.operators.Variable.TheVariants as variables
use Rattle.acsl_trees.specs.Tree as acsl
use Rattle.c_runs.specs.TruthStates as labelled
use Rattle.qed_terms.specs.Meaning as sense
use Rattle.c_runs.specs.Program.{Contract, Loop, Facts}
use Rattle.c_runs.specs.States.{World, Here, seen}
use Rattle.goal_segments.specs.Sets.{own_loop}
use Rattle.plain_states.specs.Slots.{State, at, value_slot}
use Rattle.plain_states.specs.Scopes.{is_integer}
use Rattle.plain_runs.specs.Fitting.{Shape}
use Rattle.plain_runs.specs.Kept.{may_change_global}
use Rattle.walk_steps.specs.State.{at_or}
use Rattle.program_steps.specs.Terms.{Texts, has_variable}
use Rattle.program_steps.specs.Words.{Force, of_function, of_loop, Point, lacks, inside_loop}
use Rattle.program_steps.specs.Standing.{SeenAs}
use Rattle.program_steps.specs.Placed.{all_told, Placed}
use Rattle.program_steps.specs.Functions.{AllOf, SetFits}
use Rattle.loop_words.specs.Sets.{file_changes}
use Rattle.loop_words.specs.Words.{stay_trees}
use Rattle.loop_words.proofs.Telling.{AssumesFit}
use Rattle.loop_words.proofs.Inside.{force_lets, inside_lets}
use Rattle.loop_words.proofs.Staying.{Same, lets_it, stay_forth, stay_back}

none_first : (a b : Bool) → a ≡ false → (a && b) ≡ false
none_first a b h = ap (λ t. t && b) h

none_second : (a b : Bool) → b ≡ false → (a && b) ≡ false
none_second true b h = h
none_second false b h = refl

then_second : (a b : Bool) → a ≡ true → (a && b) ≡ false → b ≡ false
then_second a b h k = sym (ap (λ t. t && b) h) ∙ k

named_off : (b : Bool) → not (not b) ≡ false → (b || false) ≡ false
named_off true h = absurd (false≢true (sym h))
named_off false h = refl

named_on : (b : Bool) → not (not b) ≡ true → (b || false) ≡ false → ⊥
named_on true h k = false≢true (sym k)
named_on false h k = false≢true h

module _ (m : sense.World) (p : Facts) (s : Shape) (texts : Texts) (globals : list_all is_integer p.globals ≡ true) (c : Contract) (fits : AllOf (AssumesFit m p s texts) c.behaviors) where
  module _ (q : labelled.State) (pt : Point) (l : Loop) where
    abbrev at_point : Force → Point
    at_point w = record pt { force = w }

    abbrev with_set : Option (List acsl.Tree) → Loop
    with_set o = record l { assigns = o }

    abbrev lets_inside : Option (List acsl.Tree) → Force → ℕ → Bool
    lets_inside o w x = force_lets m p s texts globals c fits q (inside_loop (with_set o) w) (variables.Global x)

    not_let : (o : Option (List acsl.Tree)) (w : Force) (x : ℕ) → file_changes c (at_point w) (with_set o) x ≡ false → lets_inside o w x ≡ false
    not_let None of_function x h = none_first (not (lacks c.plain.assigns (variables.Global x))) _ h
    not_let None (of_loop ws d) x h = named_off (has_variable ws (variables.Global x)) h
    not_let (Some rs) w x h = named_off (has_variable rs (variables.Global x)) h

    module _ (olds : List State) (st after : State) (sees : SeenAs p s q (at_or [] olds pt.entry) (at_or [] olds pt.entry)) where
      abbrev sts : List State
      sts = after ∷ st ∷ olds

      abbrev SameAt : ℕ → Type 0
      SameAt x = Same m p s texts q olds st after pt.entry sees x

      stays_by : (o : Option (List acsl.Tree)) (w : Force) → all_told m sts (stay_trees p s texts c (at_point w) (with_set o)) ≡ true
          → (x : ℕ) → x < length p.globals → file_changes c (at_point w) (with_set o) x ≡ true → lets_inside o w x ≡ false → SameAt x
      stays_by None of_function told x below on none =
          stay_back m p s texts q olds st after pt.entry sees (file_changes c (at_point of_function) (with_set None)) c.behaviors fits told x below on
          (then_second (not (lacks c.plain.assigns (variables.Global x))) (list_all (lets_it m p s texts q olds st after pt.entry sees x) c.behaviors) on none)
      stays_by None (of_loop ws d) told x below on none = absurd (named_on (has_variable ws (variables.Global x)) on none)
      stays_by (Some rs) w told x below on none = absurd (named_on (has_variable rs (variables.Global x)) on none)

      told_by : (o : Option (List acsl.Tree)) (w : Force) → ((x : ℕ) → x < length p.globals → lets_inside o w x ≡ false → SameAt x)
          → all_told m sts (stay_trees p s texts c (at_point w) (with_set o)) ≡ true
      told_by None of_function h =
          stay_forth m p s texts q olds st after pt.entry sees (file_changes c (at_point of_function) (with_set None)) c.behaviors fits
          (λ x below on none. h x below (none_second (not (lacks c.plain.assigns (variables.Global x))) (list_all (lets_it m p s texts q olds st after pt.entry sees x) c.behaviors) none))
      told_by None (of_loop ws d) h = refl
      told_by (Some rs) w h = refl

  module _ (pt : Point) (here : Here) (olds : List State) (placed : Placed m p s texts c pt here olds) (w : World) (st : State) (sees : SeenAs p s (seen p w) st st)
      (l : Loop) (fit : SetFits p s l.assigns) where
    lets_is : (x : ℕ) → x < length p.globals
        → force_lets m p s texts globals c fits here.entry (inside_loop l pt.force) (variables.Global x) ≡ may_change_global (own_loop p here l w).granted x
    lets_is x below = inside_lets m p s texts globals c fits pt here olds placed w st sees l fit (variables.Global x) below

    -- what doesn't change at the head isn't let
    pub unchanged : (x : ℕ) → x < length p.globals → file_changes c pt l x ≡ false → may_change_global (own_loop p here l w).granted x ≡ false
    unchanged x below off = sym (lets_is x below) ∙ not_let here.entry pt l l.assigns pt.force x off

    module _ (after : State) where
      -- what changes and isn't let stays by behaviors
      pub head_stays : all_told m (after ∷ st ∷ olds) (stay_trees p s texts c pt l) ≡ true → (x : ℕ) → x < length p.globals → file_changes c pt l x ≡ true
          → may_change_global (own_loop p here l w).granted x ≡ false → at after (value_slot x) ≡ at st (value_slot x)
      head_stays told x below on none = stays_by here.entry pt l olds st after placed.entry l.assigns pt.force told x below on (lets_is x below ∙ none)

      -- where what isn't let is the same, all of that is so
      pub stays_told : ((x : ℕ) → x < length p.globals → may_change_global (own_loop p here l w).granted x ≡ false → at after (value_slot x) ≡ at st (value_slot x))
          → all_told m (after ∷ st ∷ olds) (stay_trees p s texts c pt l) ≡ true
      stays_told same = told_by here.entry pt l olds st after placed.entry l.assigns pt.force (λ x below none. same x below (sym (lets_is x below) ∙ none))
