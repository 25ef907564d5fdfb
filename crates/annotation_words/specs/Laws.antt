-- What is so of the formulas of annotations over leaves and over the terms in slots.
use Rattle.std.specs.Prelude.{◌≡◌, ℕ, List, [], Some}
use Rattle.std.specs.Option.{option_map}
use Rattle.acsl_trees.specs.Tree as acsl
use Rattle.c_runs.specs.Program.{Facts}
use Rattle.plain_runs.specs.Fitting.{Shape}
use Rattle.qed_terms.specs.Tree.{Tree}
use Rattle.walk_steps.specs.State.{at_or}
use Rattle.walk_steps.specs.Forms.{Slots}
use Rattle.program_steps.specs.Leaves.{fill, closed}
use Rattle.program_steps.specs.Terms.{Texts, body_reading, return_reading, claim_tree}
use Rattle.acsl_encode.specs.Readings.{Reading}
use Rattle.acsl_encode.specs.Encode.{formula_of, term_of}
use Rattle.annotation_words.specs.Claims.{claimed}
use Rattle.annotation_words.specs.Closed.{IsClosed, AreMarked, ReadingClosed}
use Rattle.annotation_words.specs.Filled.{filled}
use Rattle.annotation_words.specs.Bodies.{body_over, return_over}

-- ---- closed

pub record AnnotationsAreClosed : Type 0 where
  -- where the reading is closed
  pub formulas : (r : Reading) (a : acsl.Tree) (f : Tree) → ReadingClosed r → formula_of r a ≡ Some f → IsClosed [] f
  pub numbers : (r : Reading) (a : acsl.Tree) (t : Tree) → ReadingClosed r → term_of r a ≡ Some t → IsClosed [] t
  -- over leaves each reading is, whatever the annotation
  pub bodies : (p : Facts) (s : Shape) (texts : Texts) (here entry loop_entry : ℕ) (a : acsl.Tree)
      → ReadingClosed (body_reading p s texts here entry loop_entry a)
  pub returns : (p : Facts) (s : Shape) (texts : Texts) (entry : ℕ) (a : acsl.Tree) → ReadingClosed (return_reading p s texts entry a)

-- ---- filled

pub record AnnotationsAreFilled : Type 0 where
  -- the terms of slots in the places of leaves, before or after
  pub formulas : (ss : List Slots) (r : Reading) (a : acsl.Tree) → AreMarked r → option_map (fill ss) (formula_of r a) ≡ formula_of (filled ss r) a
  pub numbers : (ss : List Slots) (r : Reading) (a : acsl.Tree) → AreMarked r → option_map (fill ss) (term_of r a) ≡ term_of (filled ss r) a
  -- what is written of a claim
  pub claims : (ss : List Slots) (p : Facts) (s : Shape) (texts : Texts) (r : acsl.Tree → Reading) (a : acsl.Tree) → ReadingClosed (r a)
      → fill ss (closed (claim_tree p s texts r a)) ≡ claimed (formula_of (filled ss (r a)) a)
  -- a reading over leaves, filled, is that over the slots of the states of its levels
  pub bodies : (ss : List Slots) (p : Facts) (s : Shape) (texts : Texts) (here entry loop_entry : ℕ) (a : acsl.Tree)
      → filled ss (body_reading p s texts here entry loop_entry a)
      ≡ body_over p s texts.called (texts.binders a) (at_or [] ss here) (at_or [] ss entry) (at_or [] ss loop_entry)
  pub returns : (ss : List Slots) (p : Facts) (s : Shape) (texts : Texts) (entry : ℕ) (a : acsl.Tree)
      → filled ss (return_reading p s texts entry a) ≡ return_over p s texts.called (texts.binders a) (at_or [] ss 0) (at_or [] ss entry)
