-- The word of a loop: its set lies inside, its invariants hold where it is entered, its turns change what they may, and one pass keeps its invariants and
-- lowers its variant (ACSL 2.4.2).
use Rattle.std.specs.Prelude.{ℕ, suc, Bool, true, false, pos, List, [], ◌∷◌, ◌++◌, map, Option, Some, None}
use Rattle.wp_base.specs.declared.kinds.Kind.{Kind}
use Rattle.c_kinds.specs.Models.{low, high}
use Rattle.acsl_trees.specs.Tree as acsl
use Rattle.acsl_encode.specs.Readings as annotation
use Rattle.acsl_encode.specs.Encode as encode
use Rattle.qed_terms.specs.Meaning as sense
use Rattle.qed_terms.specs.Tree.{Tree, num, at_most, less}
use Rattle.c_runs.specs.Program.{Variable, Claim, Measure, Behavior, Contract, Loop, Facts}
use Rattle.c_runs.specs.Claims as broken
use Rattle.c_runs.specs.Tree.{Steps}
use Rattle.plain_states.specs.Scopes.{kind_of}
use Rattle.plain_runs.specs.Fitting.{Shape}
use Rattle.walk_steps.specs.Forms.{Check}
use Rattle.walk_steps.specs.Step.{Change, keeps, raised, Step, halt, seq, ask, know, change, remember}
use Rattle.walk_words.specs.Changes.{ranged}
use Rattle.program_steps.specs.Leaves.{form}
use Rattle.program_steps.specs.Stops.{broken_place, kept_place}
use Rattle.program_steps.specs.Terms.{Texts, body_reading, entry_reading, claim_tree, assumed_tree, or_zero}
use Rattle.program_steps.specs.Words.{Force, of_function, of_loop, Point, check, ask_all}
use Rattle.program_steps.specs.Staying.{all_stay}
use Rattle.loop_words.specs.Sets.{inside_trees, file_changes, local_changes}

-- ---- the head of a turn

module _ (p : Facts) where
  -- a variable that changes holds any value of its kind
  abbrev pub value_change : (changes : Bool) → Kind → Change
  value_change true k = ranged (low p.model k) (high p.model k)
  value_change false k = keeps

  abbrev pub flag_change : (changes : Bool) → Change
  flag_change true = raised
  flag_change false = keeps

  -- from the variable with this number on; those of the file are set all the time
  abbrev pub file_list : (changes : ℕ → Bool) → (number : ℕ) → List Variable → List Change
  file_list f x [] = []
  file_list f x (v ∷ vs) = value_change (f x) (kind_of v) ∷ keeps ∷ file_list f (suc x) vs

  abbrev pub local_list : (changes : ℕ → Bool) → (number : ℕ) → List Variable → List Change
  local_list f x [] = []
  local_list f x (v ∷ vs) = value_change (f x) (kind_of v) ∷ flag_change (f x) ∷ local_list f (suc x) vs

  abbrev pub head_changes : Shape → Contract → Point → Loop → Steps → List Change
  head_changes s c pt l ss = file_list (file_changes c pt l) 0 p.globals ++ local_list (local_changes l ss) 0 s.variables

-- ---- what behaviors let stay

module _ (p : Facts) (s : Shape) (texts : Texts) where
  -- the function's entry is the state of this level
  abbrev pub assumed_at : (entry : ℕ) → Behavior → Tree
  assumed_at e b = assumed_tree p s texts (entry_reading p s texts e) b.assumes

  -- where the function's clauses are in force inside of the loop
  abbrev pub stay_trees : Contract → Point → Loop → List Tree
  stay_trees c pt l = by l.assigns pt.force where
    by : Option (List acsl.Tree) → Force → List Tree
    by None of_function = all_stay (assumed_at (suc (suc pt.entry))) (file_changes c pt l) p.globals c.behaviors
    by None (of_loop ws d) = []
    by (Some rs) w = []

  -- ---- invariants, and the variant

  -- at the loop's entry and at its head, where the entry is the last state that is remembered
  abbrev pub head_reading : Point → acsl.Tree → annotation.Reading
  head_reading pt a = body_reading p s texts 0 (suc (suc pt.entry)) 1 a

  -- at the end of a pass, where the head is the last state that is remembered, and the entry the one before
  abbrev pub end_reading : Point → acsl.Tree → annotation.Reading
  end_reading pt a = body_reading p s texts 0 (suc (suc (suc pt.entry))) 2 a

  -- there, in the state of the head
  abbrev pub before_reading : Point → acsl.Tree → annotation.Reading
  before_reading pt a = body_reading p s texts 1 (suc (suc (suc pt.entry))) 2 a

  abbrev pub measure_tree : (acsl.Tree → annotation.Reading) → acsl.Tree → Tree
  measure_tree r a = or_zero (encode.term_of (r a) a)

  abbrev pub head_tree : Point → Claim → Tree
  head_tree pt c = claim_tree p s texts (head_reading pt) c.what

  module _ (m : sense.World) where
    abbrev pub entry_check : Point → Claim → Check
    entry_check pt c = check m (head_tree pt c) (broken_place broken.invariant c.line)

    abbrev pub kept_check : Point → Claim → Check
    kept_check pt c = check m (claim_tree p s texts (end_reading pt) c.what) (kept_place c.line)

    -- it was at least 0 at the head, and is smaller now
    abbrev pub variant_checks : Point → Option Measure → List Check
    variant_checks pt None = []
    variant_checks pt (Some v) =
        check m (at_most (num (pos 0)) (measure_tree (before_reading pt) v.what)) (broken_place broken.variant_positive v.line)
        ∷ check m (less (measure_tree (end_reading pt) v.what) (measure_tree (before_reading pt) v.what)) (broken_place broken.variant_less v.line)
        ∷ []

    abbrev pub end_checks : Point → Loop → List Check
    end_checks pt l = map (kept_check pt) l.invariants ++ variant_checks pt l.variant

-- ---- the word

-- Behind the pass, in which the loop's entry and the head are remembered, no turn goes on: the next one begins at a head as this one did.
module _ (m : sense.World) (p : Facts) (s : Shape) (texts : Texts) (c : Contract) where
  abbrev pub loop_word : Point → Loop → Steps → (pass : Step) → Step
  loop_word pt l ss pass =
      seq (ask_all m (inside_trees p s texts c pt l) (broken_place broken.assigns l.line))
      (remember
      (seq (ask (map (entry_check p s texts m pt) l.invariants))
      (seq (change (head_changes p s c pt l ss))
      (seq (know (map (form m) (stay_trees p s texts c pt l ++ map (head_tree p s texts pt) l.invariants)))
      (remember
      (seq pass
      (seq (ask (end_checks p s texts m pt l))
      halt)))))))
