-- What is so of calls.
use Rattle.std.specs.Prelude.{ℕ, Bool, List}
use Rattle.wp_base.specs.Blocks.{Table}
use Rattle.typed_prog.specs.Tree as t
use Rattle.qed_terms.specs.Meaning as sense
use Rattle.c_runs.specs.Program.{Contract, Program, Facts, Function}
use Rattle.c_runs.specs.States.{Here}
use Rattle.c_runs.specs.CoreRun.{CoreWorld}
use Rattle.c_runs.specs.Checks.{Check}
use Rattle.c_runs.specs.Tree.{Goal, call, Steps}
use Rattle.goal_segments.specs.Segments.{Seg}
use Rattle.plain_states.specs.Slots.{State}
use Rattle.plain_runs.specs.Fitting.{Shape}
use Rattle.std.specs.Prelude.{Option}
use Rattle.walk_steps.specs.Step.{IsGood, places}
use Rattle.program_steps.specs.Temporaries.{Temporaries, live}
use Rattle.program_steps.specs.Terms.{Texts}
use Rattle.program_steps.specs.Words.{Point}
use Rattle.program_steps.specs.Standing.{StandsFor, Ends}
use Rattle.program_steps.specs.Placed.{InSetting, Placed, BothWays}
use Rattle.call_words.specs.Words.{call_word}
use Rattle.call_words.specs.Fits.{CallFits}

-- All that stands in the word of a call is good, so that its goals are exact.
abbrev pub CallsAreGood : Type 0
CallsAreGood =
    (m : sense.World) (p : Facts) (s : Shape) (texts : Texts) (contract : Contract) (functions : ℕ → Option (Function Steps)) (pt : Point) (cs : List Check) (to : Goal)
    (n l : ℕ) (es : t.Values) → IsGood m (call_word m p s texts contract functions pt cs to n l es)

-- From slots that stand for a world, the segment runs of a call are the runs of its word: for each of the ones there is one of the others that ends so.
abbrev pub CallsRun : Type 0
CallsRun =
    (m : sense.World) (q : Program Steps) (s : Shape) (texts : Texts) (contract : Contract) → InSetting m q.facts s → (table : Table) (here : Here) (pt : Point)
    (olds : List State) → Placed m q.facts s texts contract pt here olds → (in_scope : ℕ → Bool) (after : Temporaries) (cs : List Check)
    (to : Goal) (k l : ℕ) (es : t.Values) → CallFits m q.facts s texts contract q.functions in_scope pt.outs after cs to k l es → (n : ℕ) (c : CoreWorld) (st : State)
    → StandsFor q.facts s table in_scope (live (call cs to k l es) pt.outs after) c st
    → BothWays (Seg q s.variables here (call cs to k l es) c)
    (Ends q.facts s table in_scope pt.outs after (places (call_word m q.facts s texts contract q.functions pt cs to k l es)) n) olds n
    (call_word m q.facts s texts contract q.functions pt cs to k l es) st
