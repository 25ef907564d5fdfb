-- Whole core programs with memory and checks, of which goals are made: what is asked of them, and the goals of each function.
use Rattle.std.specs.Prelude.{◌≡◌, ℕ, Bool, true, List, Some}
use Rattle.qed_terms.specs.Setting.{Setting, world_of, Valid}
use Rattle.c_runs.specs.Program.{Function, Program}
use Rattle.c_runs.specs.Tree.{Steps}
use Rattle.typed_runs.specs.Fitting.{FitsProgram}
use Rattle.typed_modular.specs.Solid.{SetsFit}
use Rattle.walk_steps.specs.State.{In}
use Rattle.walk_steps.specs.Walk.{Goal, formula_of}
use Rattle.memory_steps.specs.World.{AreBases}
use Rattle.memory_steps.specs.Laws.{goals}
use Rattle.memory_words.specs.Shapes.{FileCells}
use Rattle.memory_words.specs.Readings.{Texts}
use Rattle.memory_words.specs.Seen.{InSetting}
use Rattle.memory_words.specs.Words.{Others}
use Rattle.memory_words.specs.Typed.{OtherFits}
use Rattle.memory_calls.specs.LoopFits.{LoopFits}
use Rattle.memory_calls.specs.CallFits.{CallFits}
use Rattle.memory_functions.specs.Words.{Written, shape_in, others_of, word_of, start_in, bases_in}
use Rattle.memory_functions.specs.FunctionFunctions.{FunctionFits}
use Rattle.memory_functions.specs.Fitting.{StartFits}
use Rattle.memory_exact.specs.Programs.{OwnDiffer}

module _ (setting : Setting) (q : Program Steps) (cells : FileCells) (texts : Texts) where
  module _ (n : ℕ) (f : Function Steps) (g : Written) where
    -- the words of its loops and calls, and what is asked of these
    abbrev pub others_in : Others
    others_in = others_of (world_of setting) q cells texts n f g

    abbrev pub fits_in : OtherFits
    fits_in = record {
      loop_fits = LoopFits (world_of setting) q.facts (shape_in f g) cells texts f.contract;
      call_fits = CallFits (world_of setting) q.facts (shape_in f g) cells texts f.contract q.functions;
    }

    abbrev pub goals_of : List Goal
    goals_of = goals (bases_in (world_of setting) q cells texts n f g) (start_in (world_of setting) q cells texts n f g) (word_of (world_of setting) q cells texts n f g)

    -- Its statements and its contract have words, in a setting of the program's data model; bases of its slots are names, and those whose values are given at
    -- the start differ.
    pub record FunctionIn : Type 0 where
      pub in_setting : InSetting (world_of setting) q.facts (shape_in f g) cells
      pub fits : FunctionFits (world_of setting) q.facts (shape_in f g) cells texts fits_in n f
      pub starts : StartFits (world_of setting) q.facts (shape_in f g) cells texts f
      pub names : AreBases (bases_in (world_of setting) q cells texts n f g)
      pub differ : OwnDiffer setting q cells texts others_in n f g

  -- Each variable, temporary and cell holds a value of its kind, and the regions of sets have no gaps.
  pub record ProgramFits (written : ℕ → Written) : Type 0 where
    pub typed : FitsProgram q
    pub sets : SetsFit q typed
    pub functions : (n : ℕ) (f : Function Steps) → q.functions n ≡ Some f → FunctionIn n f (written n)

  -- all goals of these functions
  abbrev pub AllValid : (written : ℕ → Written) → (reached : ℕ → Bool) → Type 0
  AllValid written reached =
      (n : ℕ) (f : Function Steps) → reached n ≡ true → q.functions n ≡ Some f → (a : Goal) → In a (goals_of n f (written n)) → Valid setting (formula_of a)
