-- The parts of a loop's word: what is asked of its set, what happens up to the head of a turn, and what is asked where a pass ends (ACSL 2.4.2).
use Rattle.std.specs.Prelude.{ℕ, suc, Bool, true, false, pos, List, [], ◌∷◌, ◌++◌, map, if◌then◌else◌}
use Rattle.acsl_trees.specs.Tree as acsl
use Rattle.qed_terms.specs.Meaning as sense
use Rattle.qed_terms.specs.Tree.{Tree, num, false_tree, at_most, less}
use Rattle.c_runs.specs.Program.{Variable, Claim, Measure, Contract, Loop, Facts}
use Rattle.c_runs.specs.Claims as broken
use Rattle.c_runs.specs.Tree.{Steps}
use Rattle.plain_states.specs.Scopes.{kind_of}
use Rattle.plain_runs.specs.Fitting.{Shape}
use Rattle.walk_steps.specs.Forms.{Check, Place}
use Rattle.walk_steps.specs.Step.{Change, keeps, Step, seq, ask, know, change}
use Rattle.program_steps.specs.Leaves.{form}
use Rattle.program_steps.specs.Stops.{broken_place, kept_place}
use Rattle.program_steps.specs.Terms.{Texts, body_reading, claim_tree}
use Rattle.program_steps.specs.Words.{Point, check, ask_all}
use Rattle.loop_words.specs.Sets.{lacking_in, lacking_all, some_outside, inside_trees}
use Rattle.loop_words.specs.Words.{value_change, flag_change, head_changes, stay_trees, head_tree, end_reading, before_reading, measure_tree, entry_check, end_checks}

-- an invariant where the loop is entered, and where a pass ends
abbrev pub invariant_place : (is_kept : Bool) → (line : ℕ) → Place
invariant_place true l = kept_place l
invariant_place false l = broken_place broken.invariant l

-- the slots of variables from this number on; a variable of the file has a flag that never changes
abbrev pub flag_change_if : Facts → (has_flags changes : Bool) → Change
flag_change_if p true b = flag_change p b
flag_change_if p false b = keeps

abbrev pub changes_from : Facts → (has_flags : Bool) → (changes : ℕ → Bool) → (number : ℕ) → List Variable → List Change
changes_from p flags f x [] = []
changes_from p flags f x (v ∷ vs) = value_change p (f x) (kind_of v) ∷ flag_change_if p flags (f x) ∷ changes_from p flags f (suc x) vs

module _ (p : Facts) (s : Shape) (texts : Texts) where
  -- the function's clauses that don't name each of these variables of the file
  abbrev pub lacking_clauses : (entry : ℕ) → Contract → (regions : List acsl.Tree) → List Tree
  lacking_clauses e c rs = lacking_in p s texts e true c.plain rs ++ lacking_all p s texts e c.behaviors rs

  -- what is asked in a loop with these names, which finds so many variables declared
  abbrev pub outside_trees : (names : List acsl.Tree) → (declared : ℕ) → (regions : List acsl.Tree) → List Tree
  outside_trees ws d rs = if some_outside p s texts ws d rs then false_tree ∷ [] else []

  -- what is known at the head of a turn
  abbrev pub head_trees : Contract → Point → Loop → List Tree
  head_trees c pt l = stay_trees p s texts c pt l ++ map (head_tree p s texts pt) l.invariants

  module _ (m : sense.World) where
    abbrev pub invariant_check : (is_kept : Bool) → (entry loop_entry : ℕ) → Claim → Check
    invariant_check kept e g c = check m (claim_tree p s texts (body_reading p s texts 0 e g) c.what) (invariant_place kept c.line)

    -- the variant was at least 0 at the head, and is smaller now
    abbrev pub positive_check : Point → Measure → Check
    positive_check pt v = check m (at_most (num (pos 0)) (measure_tree p s texts (before_reading p s texts pt) v.what)) (broken_place broken.variant_positive v.line)

    abbrev pub less_check : Point → Measure → Check
    less_check pt v =
        check m (less (measure_tree p s texts (end_reading p s texts pt) v.what) (measure_tree p s texts (before_reading p s texts pt) v.what)) (broken_place broken.variant_less v.line)

module _ (m : sense.World) (p : Facts) (s : Shape) (texts : Texts) (c : Contract) where
  abbrev pub set_step : Point → Loop → Step
  set_step pt l = ask_all m (inside_trees p s texts c pt l) (broken_place broken.assigns l.line)

  -- the slots change, and this is known from then on
  abbrev pub turn_step : Point → Loop → Steps → Step
  turn_step pt l ss = seq (change (head_changes p s c pt l ss)) (know (map (form m) (head_trees p s texts c pt l)))

  -- where the loop's entry is remembered
  abbrev pub head_step : Point → Loop → Steps → Step
  head_step pt l ss = seq (ask (map (entry_check p s texts m pt) l.invariants)) (turn_step pt l ss)

  -- where the head is remembered too
  abbrev pub end_step : Point → Loop → Step
  end_step pt l = ask (end_checks p s texts m pt l)
