-- What is so of calls.
use Rattle.std.specs.Prelude.{ℕ, List, Option}
use Rattle.typed_prog.specs.Tree as t
use Rattle.same_memories.specs.Alike.{Respects}
use Rattle.qed_terms.specs.Meaning as sense
use Rattle.c_runs.specs.Program.{Contract, Function, Program, Facts}
use Rattle.c_runs.specs.Checks.{Check}
use Rattle.c_runs.specs.Tree.{Goal, Steps}
use Rattle.memory_steps.specs.State.{Base}
use Rattle.memory_steps.specs.Step.{IsGood}
use Rattle.program_steps.specs.Temporaries.{Temporaries}
use Rattle.memory_words.specs.Shapes.{FileCells, Shape, sizes}
use Rattle.memory_words.specs.Readings.{Texts}
use Rattle.memory_words.specs.Bases.{AreSorted}
use Rattle.memory_words.specs.Points.{Point}
use Rattle.memory_words.specs.Words.{Others}
use Rattle.memory_words.specs.Typed.{OtherFits}
use Rattle.memory_words.specs.Others.{CallRuns}
use Rattle.memory_calls.specs.CallWords.{call_word}
use Rattle.memory_calls.specs.CallFits.{CallFits}

-- All that stands in the word of a call is good, for slots whose bases have the sorts of their places: a cell that gets the result is one of the file's kinds.
abbrev pub CallsAreGood : Type 0
CallsAreGood =
    (m : sense.World) → Respects m → (p : Facts) (s : Shape) (cells : FileCells) (texts : Texts) (bases : List Base) → AreSorted (sizes p s) cells bases
    → (contract : Contract) (functions : ℕ → Option (Function Steps)) (others : Others) (pt : Point) (after : Temporaries) (cs : List Check) (to : Goal) (n l : ℕ)
    (es : t.Values) → CallFits m p s cells texts contract functions pt after cs to n l es
    → IsGood m bases (call_word m p s cells texts contract functions others pt cs to n l es after)

-- these words of calls, with those of others, and what is asked of calls; of loops nothing is said here
abbrev pub calls_alone : sense.World → Facts → Shape → FileCells → Texts → Contract → (ℕ → Option (Function Steps)) → Others → Others
calls_alone m p s cells texts contract functions others = record { loop_word = others.loop_word; call_word = call_word m p s cells texts contract functions others }

abbrev pub calls_asked : sense.World → Facts → Shape → FileCells → Texts → Contract → (ℕ → Option (Function Steps)) → OtherFits
calls_asked m p s cells texts contract functions = record { loop_fits = λ pt l ss. Unit {0}; call_fits = CallFits m p s cells texts contract functions }

-- From slots that stand for a world, the segment runs of a call are the runs of its word: for each of the ones there is one of the others that ends so, and a
-- failing check is one of the same kind at the same line.
abbrev pub CallsRun : Type 0
CallsRun =
    (m : sense.World) (q : Program Steps) (s : Shape) (cells : FileCells) (texts : Texts) (contract : Contract) (others : Others)
    → CallRuns m q s cells texts contract (calls_alone m q.facts s cells texts contract q.functions others) (calls_asked m q.facts s cells texts contract q.functions)
