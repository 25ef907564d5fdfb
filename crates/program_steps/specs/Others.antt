-- What is asked of the words of loops and calls: from slots that stand for a world, the segment runs of a loop and of a call are the runs of its word.
use Rattle.std.specs.Prelude.{ℕ, Bool, List}
use Rattle.wp_base.specs.Blocks.{Table}
use Rattle.typed_prog.specs.Tree as t
use Rattle.qed_terms.specs.Meaning as sense
use Rattle.c_runs.specs.Program.{Contract, Loop, Program}
use Rattle.c_runs.specs.States.{Here}
use Rattle.c_runs.specs.CoreRun.{CoreWorld}
use Rattle.c_runs.specs.Checks.{Check}
use Rattle.c_runs.specs.Tree.{Goal, call, repeat, Steps}
use Rattle.goal_segments.specs.Segments.{Seg, AllSeg}
use Rattle.plain_states.specs.Slots.{State}
use Rattle.goal_segments.specs.Told.{Shape}
use Rattle.walk_steps.specs.Step.{Step, places}
use Rattle.program_steps.specs.Temporaries.{Temporaries, no_temporaries, live, all_live}
use Rattle.program_steps.specs.Terms.{Texts}
use Rattle.program_steps.specs.Words.{Point, Others, in_pass}
use Rattle.program_steps.specs.Standing.{StandsFor, Ends}
use Rattle.program_steps.specs.Typed.{OtherFits}
use Rattle.program_steps.specs.Placed.{InSetting, Placed, BothWays}

module _ (m : sense.World) (q : Program Steps) (s : Shape) (texts : Texts) (contract : Contract) (others : Others) (fits : OtherFits) where
  -- of a loop whatever word its pass has, wherever it starts from
  abbrev pub LoopRuns : Type 0
  LoopRuns =
      InSetting m q.facts s → (table : Table) (here : Here) (pt : Point) (olds : List State) → Placed m q.facts s texts contract pt here olds
      → (in_scope : ℕ → Bool) (after : Temporaries) (l : Loop) (ss : Steps) → fits.loop_fits in_scope pt.outs l ss → (pass : Step)
      → ((here : Here) (olds : List State) → Placed m q.facts s texts contract (in_pass l pt) here olds → (n : ℕ) (c : CoreWorld) (st : State)
      → StandsFor q.facts s table in_scope (all_live ss pt.outs no_temporaries) c st
      → BothWays (AllSeg q s.variables here ss c) (Ends q.facts s table in_scope pt.outs no_temporaries (places pass) n) olds n pass st)
      → (n : ℕ) (c : CoreWorld) (st : State) → StandsFor q.facts s table in_scope (live (repeat l ss) pt.outs after) c st
      → BothWays (Seg q s.variables here (repeat l ss) c) (Ends q.facts s table in_scope pt.outs after (places (others.loop_word pt l ss pass)) n) olds n (others.loop_word pt l ss pass) st

  abbrev pub CallRuns : Type 0
  CallRuns =
      InSetting m q.facts s → (table : Table) (here : Here) (pt : Point) (olds : List State) → Placed m q.facts s texts contract pt here olds
      → (in_scope : ℕ → Bool) (after : Temporaries) (cs : List Check) (to : Goal) (k l : ℕ) (es : t.Values) → fits.call_fits in_scope pt.outs after cs to k l es
      → (n : ℕ) (c : CoreWorld) (st : State) → StandsFor q.facts s table in_scope (live (call cs to k l es) pt.outs after) c st
      → BothWays (Seg q s.variables here (call cs to k l es) c) (Ends q.facts s table in_scope pt.outs after (places (others.call_word pt cs to k l es)) n) olds n
      (others.call_word pt cs to k l es) st

  pub record OthersRun : Type 0 where
    pub loop : LoopRuns
    pub call : CallRuns
