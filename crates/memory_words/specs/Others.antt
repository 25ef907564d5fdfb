-- What is asked of the words of loops and calls: from slots that stand for a world, the segment runs of a loop and of a call are the runs of its word.
use Rattle.std.specs.Prelude.{ℕ, List}
use Rattle.typed_prog.specs.Tree as t
use Rattle.qed_terms.specs.Meaning as sense
use Rattle.c_runs.specs.Program.{Contract, Loop, Program}
use Rattle.c_runs.specs.States.{Here}
use Rattle.c_runs.specs.CoreRun.{CoreWorld}
use Rattle.c_runs.specs.Checks.{Check}
use Rattle.c_runs.specs.Tree.{Goal, call, repeat, Steps}
use Rattle.goal_segments.specs.Segments.{Seg, AllSeg}
use Rattle.memory_steps.specs.State.{State}
use Rattle.memory_steps.specs.Step.{Step, places}
use Rattle.program_steps.specs.Temporaries.{Temporaries, no_temporaries, live, all_live}
use Rattle.memory_words.specs.Shapes.{FileCells, Shape}
use Rattle.memory_words.specs.Readings.{Texts}
use Rattle.memory_words.specs.Standing.{Frame, StandsFor}
use Rattle.memory_words.specs.Seen.{InSetting}
use Rattle.memory_words.specs.Points.{Point, uses_of}
use Rattle.memory_words.specs.Words.{Others, in_pass}
use Rattle.memory_words.specs.Typed.{OtherFits}
use Rattle.memory_words.specs.Placed.{Openings, Placed, Ends, BothWays}

module _ (m : sense.World) (q : Program Steps) (s : Shape) (cells : FileCells) (texts : Texts) (contract : Contract) (others : Others) (fits : OtherFits) where
  -- of a loop whatever word its pass has, wherever it starts from
  abbrev pub LoopRuns : Type 0
  LoopRuns =
      InSetting m q.facts s cells → (here : Here) (pt : Point) (olds : List State) (fr : Frame) (os : Openings)
      → Placed m q.facts s cells texts contract pt here olds fr os
      → (after : Temporaries) (l : Loop) (ss : Steps) → fits.loop_fits pt l ss → (pass : Step)
      → ((here : Here) (olds : List State) (fr : Frame) → Placed m q.facts s cells texts contract (in_pass l pt) here olds fr os → (n : ℕ) (c : CoreWorld) (st : State)
      → StandsFor q.facts s cells fr (all_live ss (uses_of pt.outs) no_temporaries) c st
      → BothWays (AllSeg q s.variables here ss c) (Ends q.facts s cells fr os (uses_of pt.outs) no_temporaries (places pass) n) olds n pass st)
      → (n : ℕ) (c : CoreWorld) (st : State) → StandsFor q.facts s cells fr (live (repeat l ss) (uses_of pt.outs) after) c st
      → BothWays (Seg q s.variables here (repeat l ss) c) (Ends q.facts s cells fr os (uses_of pt.outs) after (places (others.loop_word pt l ss pass)) n) olds n
      (others.loop_word pt l ss pass) st

  abbrev pub CallRuns : Type 0
  CallRuns =
      InSetting m q.facts s cells → (here : Here) (pt : Point) (olds : List State) (fr : Frame) (os : Openings)
      → Placed m q.facts s cells texts contract pt here olds fr os
      → (after : Temporaries) (cs : List Check) (to : Goal) (k l : ℕ) (es : t.Values) → fits.call_fits pt after cs to k l es
      → (n : ℕ) (c : CoreWorld) (st : State) → StandsFor q.facts s cells fr (live (call cs to k l es) (uses_of pt.outs) after) c st
      → BothWays (Seg q s.variables here (call cs to k l es) c) (Ends q.facts s cells fr os (uses_of pt.outs) after (places (others.call_word pt cs to k l es after)) n) olds n
      (others.call_word pt cs to k l es after) st

  pub record OthersRun : Type 0 where
    pub loop : LoopRuns
    pub call : CallRuns
