-- A function of a core program with memory as goals are made of it: its word with those of its loops and calls, its goals, and what is asked of it.
use Rattle.std.specs.Prelude.{◌≡◌, ℕ, true, List}
use Rattle.std.specs.List.{list_all}
use Rattle.qed_terms.specs.Setting.{Setting, world_of}
use Rattle.c_runs.specs.Program.{Function, Program}
use Rattle.c_runs.specs.Tree.{Steps}
use Rattle.run_blocks.specs.Ends.{is_short}
use Rattle.walk_steps.specs.Walk.{Goal}
use Rattle.memory_steps.specs.State.{Base}
use Rattle.memory_steps.specs.World.{AreBases}
use Rattle.memory_steps.specs.Step.{Step}
use Rattle.memory_steps.specs.Laws as steps
use Rattle.memory_steps.specs.Laws.{Start, goals}
use Rattle.memory_words.specs.Places.{Place, IsIn}
use Rattle.memory_words.specs.Shapes.{FileCells, sizes}
use Rattle.memory_words.specs.Readings.{Texts}
use Rattle.memory_words.specs.Seen.{InSetting}
use Rattle.memory_words.specs.Words.{Others}
use Rattle.memory_words.specs.Typed.{OtherFits}
use Rattle.memory_words.specs.Others.{OthersRun}
use Rattle.memory_functions.specs.GoalFunctions.{function_word}
use Rattle.memory_functions.specs.Starting.{origin_of}
use Rattle.memory_functions.specs.Words.{Written, shape_in, start_in, bases_in}
use Rattle.memory_functions.specs.GoodLaws.{OthersAreGood, OthersStay}
use Rattle.memory_functions.specs.FunctionFunctions.{FunctionFits}
use Rattle.memory_functions.specs.Fitting.{StartFits}

module _ (setting : Setting) (q : Program Steps) (cells : FileCells) (texts : Texts) (others : Others) (own : ℕ) (f : Function Steps) (g : Written) where
  abbrev pub word_with : Step
  word_with = function_word (world_of setting) q.facts (shape_in f g) cells texts f.params others own f

  abbrev pub start : Start
  start = start_in (world_of setting) q cells texts own f g

  abbrev pub bases : List Base
  bases = bases_in (world_of setting) q cells texts own f g

  abbrev pub goals_with : List Goal
  goals_with = goals bases start word_with

  -- places whose values are given at the start have names of their own
  abbrev pub OwnDiffer : Type 0
  OwnDiffer =
      (a b : Place) → IsIn (sizes q.facts (shape_in f g)) a → IsIn (sizes q.facts (shape_in f g)) b → origin_of q.facts (shape_in f g) cells f.params a ≡ steps.own
      → origin_of q.facts (shape_in f g) cells f.params b ≡ steps.own → g.name a ≡ g.name b → a ≡ b

  -- Its statements and its contract have words, its blocks are short (C11 6.5.6p9), names are those of slots, and so it is with its loops and calls.
  pub record FunctionIn (asked : OtherFits) : Type 0 where
    pub in_setting : InSetting (world_of setting) q.facts (shape_in f g) cells
    pub fits : FunctionFits (world_of setting) q.facts (shape_in f g) cells texts asked own f
    pub starts : StartFits (world_of setting) q.facts (shape_in f g) cells texts f
    pub short : list_all (is_short q.facts) f.variables ≡ true
    pub names : AreBases bases
    pub differ : OwnDiffer
    pub run : OthersRun (world_of setting) q (shape_in f g) cells texts f.contract others asked
    pub good : OthersAreGood (world_of setting) bases asked others
    pub stay : OthersStay asked others
