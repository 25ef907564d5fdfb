-- What is asked of a function, so that its start says what its entry asks for.
use Rattle.std.specs.Prelude.{◌≡◌, ◌≤◌, ◌<◌, ℕ, true, false, [], length}
use Rattle.qed_terms.specs.Meaning as sense
use Rattle.c_runs.specs.Program.{Claim, Behavior, Function, Facts}
use Rattle.c_runs.specs.Tree.{Steps}
use Rattle.program_steps.specs.Temporaries.{no_temporaries, all_live}
use Rattle.memory_words.specs.Shapes.{FileCells, Shape, is_pointer_cell}
use Rattle.memory_words.specs.Readings.{Texts, entry_reading}
use Rattle.memory_words.specs.Seen.{ClaimFits}
use Rattle.memory_words.specs.Typed.{AllOf}
use Rattle.memory_functions.specs.GoalFunctions.{is_param}

module _ (m : sense.World) (p : Facts) (s : Shape) (cells : FileCells) (texts : Texts) (params : ℕ) where
  -- its claims have formulas that mean them, where the present state is that of the entry
  pub record BehaviorStarts (b : Behavior) : Type 0 where
    pub assumes : AllOf (ClaimFits m p (entry_reading p s cells texts 0 (is_param params))) b.assumes
    pub requires : AllOf (λ (c : Claim). ClaimFits m p (entry_reading p s cells texts 0 (is_param params)) c.what) b.requires

-- no pointer is read of a temporary that wasn't set
pub record StartFits (m : sense.World) (p : Facts) (s : Shape) (cells : FileCells) (texts : Texts) (f : Function Steps) : Type 0 where
  pub params_there : f.params ≤ length s.variables
  pub assumes : f.contract.plain.assumes ≡ []
  pub plain : BehaviorStarts m p s cells texts f.params f.contract.plain
  pub behaviors : AllOf (BehaviorStarts m p s cells texts f.params) f.contract.behaviors
  pub temporaries : (n : ℕ) → n < s.temporaries → all_live f.body [] no_temporaries n ≡ true → is_pointer_cell (s.temp_kind n) ≡ false
