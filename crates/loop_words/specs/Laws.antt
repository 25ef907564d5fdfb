-- What is so of the words of loops.
use Rattle.std.specs.Prelude.{ℕ, Bool, List}
use Rattle.wp_base.specs.Blocks.{Table}
use Rattle.qed_terms.specs.Meaning as sense
use Rattle.c_runs.specs.Program.{Contract, Loop, Facts, Program}
use Rattle.c_runs.specs.States.{Here}
use Rattle.c_runs.specs.CoreRun.{CoreWorld}
use Rattle.c_runs.specs.Tree.{Steps, repeat}
use Rattle.goal_segments.specs.Segments.{Seg, AllSeg}
use Rattle.plain_states.specs.Slots.{State}
use Rattle.plain_runs.specs.Fitting.{Shape}
use Rattle.walk_steps.specs.Step.{Step, IsGood, places}
use Rattle.program_steps.specs.Temporaries.{Temporaries, no_temporaries, live, all_live}
use Rattle.program_steps.specs.Terms.{Texts}
use Rattle.program_steps.specs.Words.{Point, in_pass}
use Rattle.program_steps.specs.Standing.{StandsFor, Ends}
use Rattle.program_steps.specs.Placed.{InSetting, Placed, BothWays}
use Rattle.loop_words.specs.Words.{loop_word}
use Rattle.loop_words.specs.Fits.{LoopFits}

-- All that stands in the word of a loop is good, where that of its pass is.
abbrev pub LoopsAreGood : Type 0
LoopsAreGood =
    (m : sense.World) (p : Facts) (s : Shape) (texts : Texts) (contract : Contract) (pt : Point) (l : Loop) (ss : Steps) (pass : Step) → IsGood m pass
    → IsGood m (loop_word m p s texts contract pt l ss pass)

-- Whatever stands for its pass: if the segment runs of the pass are its runs wherever it stands, then the segment runs of the loop are the runs of the
-- loop's word. For each of the ones there is one of the others that ends so, and a failing check is one of the same kind at the same line.
abbrev pub LoopsRun : Type 0
LoopsRun =
    (m : sense.World) (q : Program Steps) (s : Shape) (texts : Texts) (contract : Contract) → InSetting m q.facts s → (table : Table) (here : Here) (pt : Point) (olds : List State)
    → Placed m q.facts s texts contract pt here olds → (in_scope : ℕ → Bool) (after : Temporaries) (l : Loop) (ss : Steps) (pass : Step)
    → LoopFits m q.facts s texts contract in_scope pt.outs l ss
    → ((here' : Here) (olds' : List State) → Placed m q.facts s texts contract (in_pass l pt) here' olds' → (n : ℕ) (c : CoreWorld) (st : State)
    → StandsFor q.facts s table in_scope (all_live ss pt.outs no_temporaries) c st
    → BothWays (AllSeg q s.variables here' ss c) (Ends q.facts s table in_scope pt.outs no_temporaries (places pass) n) olds' n pass st)
    → (n : ℕ) (c : CoreWorld) (st : State) → StandsFor q.facts s table in_scope (live (repeat l ss) pt.outs after) c st
    → BothWays (Seg q s.variables here (repeat l ss) c)
    (Ends q.facts s table in_scope pt.outs after (places (loop_word m q.facts s texts contract pt l ss pass)) n) olds n (loop_word m q.facts s texts contract pt l ss pass) st
