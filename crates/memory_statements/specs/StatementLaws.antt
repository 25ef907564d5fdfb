-- What is so of statements with memory and of their words.
use Rattle.std.specs.Prelude.{◌≡◌, ℕ, true, List, []}
use Rattle.std.specs.List.{list_all}
use Rattle.qed_terms.specs.Meaning as sense
use Rattle.c_runs.specs.Program.{Contract, Program}
use Rattle.c_runs.specs.States.{Here}
use Rattle.c_runs.specs.CoreRun.{CoreWorld}
use Rattle.c_runs.specs.Tree.{Steps}
use Rattle.run_blocks.specs.Ends.{is_short}
use Rattle.program_steps.specs.Temporaries.{Temporaries}
use Rattle.memory_steps.specs.State.{State}
use Rattle.memory_words.specs.Shapes.{FileCells, Shape}
use Rattle.memory_words.specs.Readings.{Texts}
use Rattle.memory_words.specs.Standing.{Frame}
use Rattle.memory_words.specs.Seen.{InSetting}
use Rattle.memory_words.specs.Points.{Point}
use Rattle.memory_words.specs.Words.{Others}
use Rattle.memory_words.specs.Typed.{OtherFits, AllFit}
use Rattle.memory_words.specs.Placed.{Openings, Placed}
use Rattle.memory_words.specs.Others.{OthersRun}
use Rattle.memory_words.specs.PutLaws.{AllStepsRun}

-- From slots that stand for a world, the segment runs of statements are the runs of their word, if those of loops and of calls are: for each of the ones there
-- is one of the others that ends so, and a failing check is one of the same kind at the same line. No block is too long (C11 6.5.6p9).
abbrev pub StatementsRun : OtherFits → Type 0
StatementsRun fits =
    (m : sense.World) (q : Program Steps) (s : Shape) (cells : FileCells) (texts : Texts) (contract : Contract) (others : Others)
    → OthersRun m q s cells texts contract others fits → InSetting m q.facts s cells → list_all (is_short q.facts) s.variables ≡ true
    → (here : Here) (pt : Point) (olds : List State) (fr : Frame) (os : Openings) → Placed m q.facts s cells texts contract pt here olds fr os
    → (after : Temporaries) (ss : Steps) → AllFit m q.facts s cells texts fits pt after ss
    → (n : ℕ) (c : CoreWorld) (st : State) → AllStepsRun m q s cells texts contract others here pt olds fr os after n c st ss
