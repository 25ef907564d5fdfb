-- The words of statements, told over what the program holds in memory.
use Rattle.std.specs.Prelude.{ℕ, Option}
use Rattle.wp_base.specs.declared.kinds.Kind.{Kind}
use Rattle.qed_terms.specs.Meaning as sense
use Rattle.c_runs.specs.Program.{Function}
use Rattle.c_runs.specs.Tree as core
use Rattle.program_trees.specs.View.{view_contract}
use Rattle.plain_states.specs.Slots.{sizes_of}
use Rattle.walk_steps.specs.Step.{Step, seq}
use Rattle.program_steps.specs.Temporaries.{Temporaries}
use Rattle.program_steps.specs.Terms.{Texts}
use Rattle.program_steps.specs.Words as words
use Rattle.call_words.specs.Words.{call_word}
use Rattle.loop_words.specs.Words.{loop_word}
use Rattle.walk_frames.specs.declared.frames.Frame.{Frame}
use Rattle.walk_frames.specs.View.{facts_in, shape_in, variables_in}

-- What words are told over, and code doesn't see: a world, and kinds of temporaries.
pub record Over : Type 0 where
  pub world : sense.World
  pub kinds : ℕ → Kind

module _ (g : Over) (x : Frame) (functions : ℕ → Option (Function core.Steps)) (texts : Texts) where
  -- the words of loops and calls in the walk of a function
  abbrev pub others_in : words.Others
  others_in = record {
    loop_word = loop_word g.world (facts_in x) (shape_in x g.kinds) texts (view_contract x.contract.now);
    call_word = call_word g.world (facts_in x) (shape_in x g.kinds) texts (view_contract x.contract.now) functions;
  }

  -- and those of statements
  abbrev pub step_word : words.Point → core.Step → (after : Temporaries) → Step
  step_word pt s f = words.step g.world (facts_in x) (shape_in x g.kinds) texts (view_contract x.contract.now) others_in pt s f

  abbrev pub steps_word : words.Point → core.Steps → (after : Temporaries) → Step
  steps_word pt ss f = words.steps g.world (facts_in x) (shape_in x g.kinds) texts (view_contract x.contract.now) others_in pt ss f

  -- an arm, in which these temporaries aren't used
  abbrev pub arm_word : words.Point → (unused : Temporaries) → core.Steps → (after : Temporaries) → Step
  arm_word pt u ss f = seq (words.drop g.world (sizes_of (facts_in x) (variables_in x)) x.temporaries u) (steps_word pt ss f)
