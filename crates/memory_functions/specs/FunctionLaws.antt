-- What is so of functions with memory and of their words.
use Rattle.std.specs.Prelude.{◌≡◌, ℕ, true, List, [], ◌∷◌}
use Rattle.std.specs.List.{list_all}
use Rattle.qed_terms.specs.Meaning as sense
use Rattle.c_runs.specs.Told.{Value}
use Rattle.c_runs.specs.Program.{Function, Facts, Program}
use Rattle.c_runs.specs.States.{World}
use Rattle.c_runs.specs.Tree.{Steps}
use Rattle.run_blocks.specs.Ends.{is_short}
use Rattle.goal_segments.specs.Segments.{FunctionSeg}
use Rattle.memory_steps.specs.State.{State}
use Rattle.memory_steps.specs.Step.{places}
use Rattle.memory_steps.specs.Run.{End, goes_on, Seg}
use Rattle.memory_words.specs.Shapes.{FileCells, Shape}
use Rattle.memory_words.specs.Readings.{Texts}
use Rattle.memory_words.specs.Seen.{InSetting}
use Rattle.memory_words.specs.Words.{Others}
use Rattle.memory_words.specs.Typed.{OtherFits}
use Rattle.memory_words.specs.Others.{OthersRun}
use Rattle.memory_functions.specs.GoalFunctions.{numbers_from, params_made, function_word}
use Rattle.memory_functions.specs.Words.{Written, shape_in}
use Rattle.memory_functions.specs.FunctionFunctions.{FunctionFits, EntersAs, ArrivedAs, FunctionEnds, FunctionRuns}

-- ---- parameters

-- The word that makes the blocks of parameters has an end, and each of its ends is in slots that stand for the world of the body.
pub record Arrives (m : sense.World) (p : Facts) (s : Shape) (cells : FileCells) (texts : Texts) (f : Function Steps) (vs : List Value) (w : World) (st : State) (n : ℕ) : Type 0 where
  pub forth : (new : State) × Seg (st ∷ []) n (params_made m p s cells texts f.params (numbers_from 0 f.params)) st (goes_on new) × ArrivedAs p s cells f vs w new
  pub back : (e : End) → Seg (st ∷ []) n (params_made m p s cells texts f.params (numbers_from 0 f.params)) st e
      → (new : State) × (goes_on new ≡ e) × ArrivedAs p s cells f vs w new

-- No block is too long (C11 6.5.6p9).
abbrev pub ParametersArrive : OtherFits → Type 0
ParametersArrive fits =
    (m : sense.World) (p : Facts) (s : Shape) (cells : FileCells) (texts : Texts) (own : ℕ) (f : Function Steps) → InSetting m p s cells
    → FunctionFits m p s cells texts fits own f → list_all (is_short p) s.variables ≡ true → (vs : List Value) (w : World) (st : State) → EntersAs p s cells f vs w st
    → (n : ℕ) → Arrives m p s cells texts f vs w st n

-- ---- whole functions

-- The segment runs of a function that is entered with these arguments are the runs of its word, if those of loops and of calls are: of what its behaviors say
-- of each other, its body and its promises.
abbrev pub FunctionsRun : OtherFits → Type 0
FunctionsRun fits =
    (m : sense.World) (q : Program Steps) (cells : FileCells) (texts : Texts) (own : ℕ) (f : Function Steps) (g : Written) (others : Others)
    → OthersRun m q (shape_in f g) cells texts f.contract others fits → InSetting m q.facts (shape_in f g) cells
    → FunctionFits m q.facts (shape_in f g) cells texts fits own f → list_all (is_short q.facts) f.variables ≡ true
    → (vs : List Value) (w : World) (st : State) → EntersAs q.facts (shape_in f g) cells f vs w st
    → FunctionRuns (FunctionSeg q own f vs w)
    (FunctionEnds q.facts (shape_in f g) cells (places (function_word m q.facts (shape_in f g) cells texts f.params others own f)))
    (function_word m q.facts (shape_in f g) cells texts f.params others own f) st
