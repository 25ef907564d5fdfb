-- Where the word of a function starts and the worlds in which the function is entered.
use Rattle.std.specs.Prelude.{ℕ, List}
use Rattle.qed_terms.specs.Setting.{Setting, world_of}
use Rattle.c_runs.specs.Told.{Value}
use Rattle.c_runs.specs.Program.{Function, Program}
use Rattle.c_runs.specs.States.{World}
use Rattle.c_runs.specs.Entry.{Enters}
use Rattle.c_runs.specs.Tree.{Steps}
use Rattle.memory_steps.specs.State.{State}
use Rattle.memory_steps.specs.Laws.{Starts}
use Rattle.memory_words.specs.Shapes.{FileCells}
use Rattle.memory_words.specs.Readings.{Texts}
use Rattle.memory_words.specs.Seen.{InSetting}
use Rattle.memory_functions.specs.Words.{Written, shape_in, start_in, bases_in}
use Rattle.memory_functions.specs.FunctionFunctions.{EntersAs}
use Rattle.memory_functions.specs.Fitting.{StartFits}

-- Each world in which a function is entered as it asks for has slots that stand for it, in which its word may start.
abbrev pub EntriesStart : Type 0
EntriesStart =
    (s : Setting) (q : Program Steps) (cells : FileCells) (texts : Texts) (own : ℕ) (f : Function Steps) (g : Written) → InSetting (world_of s) q.facts (shape_in f g) cells
    → StartFits (world_of s) q.facts (shape_in f g) cells texts f → (vs : List Value) (w : World) → Enters q f vs w.memory
    → (st : State) × Starts s (bases_in (world_of s) q cells texts own f g) (start_in (world_of s) q cells texts own f g) st
    × EntersAs q.facts (shape_in f g) cells f vs w st

-- And slots in which it may start are those of such a world.
abbrev pub StartsEnter : Type 0
StartsEnter =
    (s : Setting) (q : Program Steps) (cells : FileCells) (texts : Texts) (own : ℕ) (f : Function Steps) (g : Written) → InSetting (world_of s) q.facts (shape_in f g) cells
    → StartFits (world_of s) q.facts (shape_in f g) cells texts f → (st : State)
    → Starts s (bases_in (world_of s) q cells texts own f g) (start_in (world_of s) q cells texts own f g) st
    → (vs : List Value) × (w : World) × Enters q f vs w.memory × EntersAs q.facts (shape_in f g) cells f vs w st
