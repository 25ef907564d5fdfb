-- What is asked of words, so that their goals are exact, and that it is so.
use Rattle.std.specs.Prelude.{◌≡◌, ◌<◌, ℕ, true, false, List, Option, Some, None, slice_get}
use Rattle.typed_prog.specs.Tree as t
use Rattle.qed_terms.specs.Meaning as sense
use Rattle.same_memories.specs.Alike.{Respects}
use Rattle.c_runs.specs.Program.{Variable, Contract, Function, Loop, Facts}
use Rattle.c_runs.specs.Objects.{plain_root, cell_of}
use Rattle.value_terms.specs.Readings.{plain_global}
use Rattle.c_runs.specs.Checks.{Check}
use Rattle.c_runs.specs.Tree.{Goal, nowhere, temporary, place, variable, Steps}
use Rattle.memory_steps.specs.State.{Base}
use Rattle.memory_steps.specs.Step.{Step, IsGood}
use Rattle.memory_steps.specs.Bracketed.{IsBracketed}
use Rattle.program_steps.specs.Temporaries.{Temporaries, no_temporaries}
use Rattle.memory_words.specs.Shapes.{FileCells, Shape, sizes, kind_of}
use Rattle.memory_words.specs.Readings.{Texts}
use Rattle.memory_words.specs.Points.{Point}
use Rattle.memory_words.specs.Words as word
use Rattle.memory_words.specs.Words.{Others, in_pass}
use Rattle.memory_words.specs.Typed.{OtherFits, AllFit}
use Rattle.memory_words.specs.Bases.{AreSorted}
use Rattle.memory_calls.specs.LoopWords.{loop_word}
use Rattle.memory_calls.specs.CallWords.{call_word}
use Rattle.memory_functions.specs.GoalFunctions.{is_param, body_point, function_word}
use Rattle.memory_functions.specs.Epochs.{StaysAt}

-- ---- all in a word is good

-- what is asked of the words of loops and calls
pub record OthersAreGood (m : sense.World) (bases : List Base) (fits : OtherFits) (o : Others) : Type 0 where
  pub loop : (pt : Point) (l : Loop) (ss : Steps) (pass : Step) → fits.loop_fits pt l ss → IsGood m bases pass → IsGood m bases (o.loop_word pt l ss pass)
  pub call : (pt : Point) (after : Temporaries) (cs : List Check) (to : Goal) (n l : ℕ) (es : t.Values) → fits.call_fits pt after cs to n l es
      → IsGood m bases (o.call_word pt cs to n l es after)

-- All that stands in the word of a statement is good, so that its goals are exact.
abbrev pub WordsAreGood : OtherFits → Type 0
WordsAreGood fits =
    (m : sense.World) → Respects m → (p : Facts) (s : Shape) (cells : FileCells) (texts : Texts) (contract : Contract) (others : Others) (bases : List Base)
    → AreSorted (sizes p s) cells bases → OthersAreGood m bases fits others → (pt : Point) (after : Temporaries) (ss : Steps) → AllFit m p s cells texts fits pt after ss
    → IsGood m bases (word.steps m p s cells texts contract others pt ss after)

-- parameters that have blocks have cells of kinds of the file
abbrev pub ParamsAreStored : Shape → FileCells → (params : ℕ) → Type 0
ParamsAreStored s cells n =
    (x : ℕ) (v : Variable) → slice_get s.variables x ≡ Some v → is_param n x ≡ true → v.is_plain ≡ false → cells.has_kind (kind_of v) ≡ true

abbrev pub FunctionsAreGood : OtherFits → Type 0
FunctionsAreGood fits =
    (m : sense.World) → Respects m → (p : Facts) (s : Shape) (cells : FileCells) (texts : Texts) (others : Others) (bases : List Base) → AreSorted (sizes p s) cells bases
    → OthersAreGood m bases fits others → (own : ℕ) (f : Function Steps) → ParamsAreStored s cells f.params
    → AllFit m p s cells texts fits (body_point m p s cells texts f.params own) no_temporaries f.body
    → IsGood m bases (function_word m p s cells texts f.params others own f)

-- ---- words are bracketed

-- what is asked of the words of loops, whatever word their pass has, and of calls
pub record OthersStay (fits : OtherFits) (o : Others) : Type 0 where
  pub loop : (pt : Point) (l : Loop) (ss : Steps) (pass : Step) → fits.loop_fits pt l ss → StaysAt (in_pass l pt) pass → StaysAt pt (o.loop_word pt l ss pass)
  pub call : (pt : Point) (after : Temporaries) (cs : List Check) (to : Goal) (n l : ℕ) (es : t.Values) → fits.call_fits pt after cs to n l es
      → StaysAt pt (o.call_word pt cs to n l es after)

-- The word of a statement ends the blocks that it makes, also on its ways out of blocks around.
abbrev pub WordsStay : OtherFits → Type 0
WordsStay fits =
    (m : sense.World) (p : Facts) (s : Shape) (cells : FileCells) (texts : Texts) (contract : Contract) (others : Others) → OthersStay fits others
    → (pt : Point) (after : Temporaries) (ss : Steps) → AllFit m p s cells texts fits pt after ss → StaysAt pt (word.steps m p s cells texts contract others pt ss after)

-- So all worlds that meet in the word of a function can be joined.
abbrev pub FunctionsAreBracketed : OtherFits → Type 0
FunctionsAreBracketed fits =
    (m : sense.World) (p : Facts) (s : Shape) (cells : FileCells) (texts : Texts) (others : Others) → OthersStay fits others → (own : ℕ) (f : Function Steps)
    → AllFit m p s cells texts fits (body_point m p s cells texts f.params own) no_temporaries f.body → IsBracketed (function_word m p s cells texts f.params others own f)

-- ---- loops and calls

-- what a result goes to: a temporary that there is, or cells of kinds of the file
abbrev pub MayReceive : Facts → Shape → FileCells → Goal → Type 0
MayReceive p s cells nowhere = Unit {0}
MayReceive p s cells (temporary n) = n < s.temporaries
MayReceive p s cells (place cs type l path es) =
    plain_root s.variables path.root ≡ None → plain_global p.globals path.root ≡ None → cells.has_kind (cell_of type) ≡ true
MayReceive p s cells (variable x) = (v : Variable) → slice_get s.variables x ≡ Some v → v.is_plain ≡ false → cells.has_kind (kind_of v) ≡ true

-- All that stands in the word of a call is good, if its result goes to such a one.
abbrev pub CallsAreGood : Type 0
CallsAreGood =
    (m : sense.World) → Respects m → (p : Facts) (s : Shape) (cells : FileCells) (texts : Texts) (contract : Contract) (functions : ℕ → Option (Function Steps)) (others : Others)
    (bases : List Base) → AreSorted (sizes p s) cells bases → (pt : Point) (cs : List Check) (to : Goal) (n l : ℕ) (es : t.Values) (after : Temporaries)
    → MayReceive p s cells to → IsGood m bases (call_word m p s cells texts contract functions others pt cs to n l es after)

-- The word of a loop does, whatever word its pass has, if that does.
abbrev pub LoopsStay : Type 0
LoopsStay =
    (m : sense.World) (p : Facts) (s : Shape) (cells : FileCells) (texts : Texts) (contract : Contract) (pt : Point) (l : Loop) (ss : Steps) (pass : Step)
    → StaysAt (in_pass l pt) pass → StaysAt pt (loop_word m p s cells texts contract pt l ss pass)

abbrev pub CallsStay : Type 0
CallsStay =
    (m : sense.World) (p : Facts) (s : Shape) (cells : FileCells) (texts : Texts) (contract : Contract) (functions : ℕ → Option (Function Steps)) (others : Others)
    (pt : Point) (cs : List Check) (to : Goal) (n l : ℕ) (es : t.Values) (after : Temporaries)
    → StaysAt pt (call_word m p s cells texts contract functions others pt cs to n l es after)
