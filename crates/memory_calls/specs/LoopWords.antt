-- The word of a loop: its set lies inside, its invariants hold where it is entered, its turns change what they may, and one pass keeps its invariants and
-- lowers its variant (ACSL 2.4.2).
use Rattle.std.specs.Prelude.{pos, List, [], ◌∷◌, ◌++◌, map, Option, Some, None}
use Rattle.acsl_trees.specs.Tree as acsl
use Rattle.acsl_encode.specs.Readings as annotation
use Rattle.acsl_encode.specs.Encode as encode
use Rattle.qed_terms.specs.Meaning as sense
use Rattle.qed_terms.specs.Tree.{Tree, num, at_most, less}
use Rattle.c_runs.specs.Program.{Claim, Measure, Contract, Loop, Facts}
use Rattle.c_runs.specs.Claims as broken
use Rattle.c_runs.specs.Tree.{Steps}
use Rattle.program_steps.specs.Stops.{broken_place, kept_place}
use Rattle.memory_steps.specs.Forms.{Check}
use Rattle.memory_steps.specs.Step.{Step, halt, seq, ask, know, remember}
use Rattle.memory_words.specs.Leaves.{form}
use Rattle.memory_words.specs.Shapes.{FileCells, Shape, sizes}
use Rattle.memory_words.specs.Readings.{Texts, body_reading}
use Rattle.memory_words.specs.Points.{Force, of_function, of_loop, Point, later, remembered}
use Rattle.memory_words.specs.Sets.{claim_tree, since, entry_at, assumed_at}
use Rattle.memory_words.specs.Words.{at_loop, check, ask_all}
use Rattle.memory_calls.specs.Havoc.{havoc_word}
use Rattle.memory_calls.specs.Stays.{all_stay}
use Rattle.memory_calls.specs.LoopSets.{inside_trees, turns}

-- a measure without a term counts as 0
abbrev pub or_zero : Option Tree → Tree
or_zero (Some t) = t
or_zero None = num (pos 0)

abbrev pub measure_tree : (acsl.Tree → annotation.Reading) → acsl.Tree → Tree
measure_tree r a = or_zero (encode.term_of (r a) a)

module _ (p : Facts) (s : Shape) (cells : FileCells) (texts : Texts) where
  -- ---- what behaviors let stay, where the function's clauses are in force inside of the loop; its entry is the last state that is remembered

  abbrev pub stay_trees : Contract → Point → Loop → Steps → List Tree
  stay_trees c pt l ss = by l.assigns pt.force where
    by : Option (List acsl.Tree) → Force → List Tree
    by None of_function = all_stay p s cells texts (entry_at p s cells texts (later pt.stands)) (assumed_at p s cells texts (later pt.stands))
        (since (later pt.stands).entry) (turns p s cells texts c pt l ss) c.behaviors
    by None (of_loop sp ws d) = []
    by (Some rs) w = []

  -- ---- invariants, and the variant

  -- at the loop's entry and at its head, where the entry is the last state that is remembered
  abbrev pub head_point : Loop → Point → Point
  head_point l pt = remembered (at_loop l pt)

  abbrev pub head_reading : Loop → Point → acsl.Tree → annotation.Reading
  head_reading l pt = body_reading p s cells texts (head_point l pt).stands

  -- at the end of a pass, where the head is the last state that is remembered, and the entry the one before
  abbrev pub end_reading : Loop → Point → acsl.Tree → annotation.Reading
  end_reading l pt = body_reading p s cells texts (remembered (head_point l pt)).stands

  -- there, in the state of the head
  abbrev pub before_reading : Loop → Point → acsl.Tree → annotation.Reading
  before_reading l pt = body_reading p s cells texts (later (head_point l pt).stands)

  abbrev pub head_tree : Loop → Point → Claim → Tree
  head_tree l pt c = claim_tree (head_reading l pt) c.what

  module _ (m : sense.World) where
    abbrev pub entry_check : Loop → Point → Claim → Check
    entry_check l pt c = check m (sizes p s) (head_tree l pt c) (broken_place broken.invariant c.line)

    abbrev pub kept_check : Loop → Point → Claim → Check
    kept_check l pt c = check m (sizes p s) (claim_tree (end_reading l pt) c.what) (kept_place c.line)

    -- it was at least 0 at the head, and is smaller now
    abbrev pub variant_checks : Loop → Point → Option Measure → List Check
    variant_checks l pt None = []
    variant_checks l pt (Some v) =
        check m (sizes p s) (at_most (num (pos 0)) (measure_tree (before_reading l pt) v.what)) (broken_place broken.variant_positive v.line)
        ∷ check m (sizes p s) (less (measure_tree (end_reading l pt) v.what) (measure_tree (before_reading l pt) v.what)) (broken_place broken.variant_less v.line)
        ∷ []

    abbrev pub end_checks : Loop → Point → List Check
    end_checks l pt = map (kept_check l pt) l.invariants ++ variant_checks l pt l.variant

-- ---- the word

-- Behind the pass, in which the loop's entry and the head are remembered, no turn goes on: the next one begins at a head as this one did.
module _ (m : sense.World) (p : Facts) (s : Shape) (cells : FileCells) (texts : Texts) (c : Contract) where
  abbrev pub loop_word : Point → Loop → Steps → (pass : Step) → Step
  loop_word pt l ss pass =
      seq (ask_all m (sizes p s) (inside_trees p s cells texts c pt l) (broken_place broken.assigns l.line))
      (remember
      (seq (ask (map (entry_check p s cells texts m l pt) l.invariants))
      (seq (havoc_word m p s cells (turns p s cells texts c pt l ss))
      (seq (know (map (form m) (stay_trees p s cells texts c pt l ss ++ map (head_tree p s cells texts l pt) l.invariants)))
      (remember
      (seq pass
      (seq (ask (end_checks p s cells texts m l pt))
      halt)))))))
