-- What is so of the words of loops.
use Rattle.std.specs.Prelude.{List}
use Rattle.qed_terms.specs.Meaning as sense
use Rattle.same_memories.specs.Alike.{Respects}
use Rattle.c_runs.specs.Program.{Contract, Loop, Facts, Program}
use Rattle.c_runs.specs.Tree.{Steps}
use Rattle.memory_steps.specs.State.{Base}
use Rattle.memory_steps.specs.Step.{Step, skip, IsGood}
use Rattle.memory_words.specs.Shapes.{FileCells, Shape, sizes}
use Rattle.memory_words.specs.Readings.{Texts}
use Rattle.memory_words.specs.Points.{Point}
use Rattle.memory_words.specs.Bases.{AreSorted}
use Rattle.memory_words.specs.Words.{Others}
use Rattle.memory_words.specs.Typed.{OtherFits}
use Rattle.memory_words.specs.Others.{LoopRuns}
use Rattle.memory_calls.specs.LoopWords.{loop_word}
use Rattle.memory_calls.specs.LoopFits.{LoopFits}

-- All that stands in the word of a loop is good, where that of its pass is, for slots whose bases have the sorts of their places.
abbrev pub LoopsAreGood : Type 0
LoopsAreGood =
    (m : sense.World) → Respects m → (p : Facts) (s : Shape) (cells : FileCells) (texts : Texts) (bases : List Base) → AreSorted (sizes p s) cells bases
    → (contract : Contract) (pt : Point) (l : Loop) (ss : Steps) (pass : Step) → IsGood m bases pass → IsGood m bases (loop_word m p s cells texts contract pt l ss pass)

-- these words of loops, and what is asked of loops; of calls nothing is said here
abbrev pub loops_alone : sense.World → Facts → Shape → FileCells → Texts → Contract → Others
loops_alone m p s cells texts contract = record { loop_word = loop_word m p s cells texts contract; call_word = λ pt cs to n l es f. skip }

abbrev pub loops_asked : sense.World → Facts → Shape → FileCells → Texts → Contract → OtherFits
loops_asked m p s cells texts contract = record { loop_fits = LoopFits m p s cells texts contract; call_fits = λ pt f cs to n l es. Unit {0} }

-- Whatever stands for its pass: if the segment runs of the pass are its runs wherever it stands, then the segment runs of the loop are the runs of the
-- loop's word. For each of the ones there is one of the others that ends so, and a failing check is one of the same kind at the same line.
abbrev pub LoopsRun : Type 0
LoopsRun =
    (m : sense.World) (q : Program Steps) (s : Shape) (cells : FileCells) (texts : Texts) (contract : Contract)
    → LoopRuns m q s cells texts contract (loops_alone m q.facts s cells texts contract) (loops_asked m q.facts s cells texts contract)
