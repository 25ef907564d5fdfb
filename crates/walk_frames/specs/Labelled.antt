-- Annotations over the states of labels (ACSL 2.3.1, 2.4.3), as they are seen in memory.
use Rattle.std.specs.Prelude.{ℕ, List, Option, map}
use Rattle.qed_terms.specs.Tree.{Tree}
use Rattle.acsl_trees.specs.Tree as acsl
use Rattle.acsl_encode.specs.Binders.{Spelled}
use Rattle.acsl_encode.specs.Readings.{Called, Reading}
use Rattle.acsl_encode.specs.Encode.{formula_of, term_of, all_of}
use Rattle.c_runs.specs.Program.{Facts}
use Rattle.program_steps.specs.Terms.{Texts}
use Rattle.annotation_words.specs.Claims.{claimed}
use Rattle.annotation_words.specs.Seen.{common_with}
use Rattle.annotation_words.specs.View.{view_seen, view_result}
use Rattle.walk_frames.specs.declared.readings.Labels.{Labels}

-- with these names of binders, and logic functions called so
abbrev pub reading_with : Facts → Labels → Spelled → (called : (number : ℕ) → Option Called) → Reading
reading_with p x names called = record {
  here = view_seen p x.here;
  pre = view_seen p x.pre;
  post = view_seen p x.post;
  loop_entry = view_seen p x.loop_entry;
  result = view_result x.result;
  common = common_with p names;
  called = called;
}

module _ (p : Facts) (texts : Texts) (x : Labels) where
  -- an annotation has names of binders of its own
  abbrev pub reading_in : acsl.Tree → Reading
  reading_in a = reading_with p x (texts.binders a) texts.called

  -- an annotation without a formula counts as `false`
  abbrev pub claimed_in : acsl.Tree → Tree
  claimed_in a = claimed (formula_of (reading_in a) a)

  abbrev pub number_in : acsl.Tree → Option Tree
  number_in a = term_of (reading_in a) a

  abbrev pub assumed_in : List acsl.Tree → Tree
  assumed_in as_ = all_of (map claimed_in as_)
