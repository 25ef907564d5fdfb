-- What is so of the formulas that a walk over a function asks for and knows.
use Rattle.std.specs.Prelude.{◌≡◌, ℕ, true, List, [], Some}
use Rattle.typed_prog.specs.declared.operators.Variable.{Variable}
use Rattle.qed_terms.specs.Tree.{Tree}
use Rattle.acsl_trees.specs.Tree as acsl
use Rattle.c_runs.specs.Program.{Contract, Facts}
use Rattle.plain_runs.specs.Fitting.{Shape}
use Rattle.acsl_encode.specs.Encode.{term_of}
use Rattle.program_steps.specs.Leaves.{is_closed}
use Rattle.program_steps.specs.Terms.{Texts, assumed_tree, body_reading, claim_tree, entry_reading, return_reading}
use Rattle.program_steps.specs.Words.{Point, write_trees}
use Rattle.walk_frames.specs.Asked.{AreClosed}

pub record FormulasAreClosed : Type 0 where
  -- annotations in the body of a function, whatever they are, and where it returns
  pub claims : (p : Facts) (s : Shape) (texts : Texts) (here entry loop_entry : ℕ) (a : acsl.Tree)
      → is_closed [] (claim_tree p s texts (body_reading p s texts here entry loop_entry) a) ≡ true
  pub numbers : (p : Facts) (s : Shape) (texts : Texts) (here entry loop_entry : ℕ) (a : acsl.Tree) (t : Tree)
      → term_of (body_reading p s texts here entry loop_entry a) a ≡ Some t → is_closed [] t ≡ true
  pub assumed : (p : Facts) (s : Shape) (texts : Texts) (level : ℕ) (as_ : List acsl.Tree)
      → is_closed [] (assumed_tree p s texts (entry_reading p s texts level) as_) ≡ true
  pub promises : (p : Facts) (s : Shape) (texts : Texts) (entry : ℕ) (a : acsl.Tree)
      → is_closed [] (claim_tree p s texts (return_reading p s texts entry) a) ≡ true
  -- what is asked of a write
  pub writes : (p : Facts) (s : Shape) (texts : Texts) (c : Contract) (pt : Point) (x : Variable) → AreClosed (write_trees p s texts c pt x)
