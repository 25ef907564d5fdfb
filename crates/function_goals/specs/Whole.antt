-- The word of a whole function, told over what the program holds in memory.
use Rattle.std.specs.Prelude.{ℕ, true, List, map, ◌++◌, Option}
use Rattle.wp_base.specs.declared.kinds.Kind.{Kind}
use Rattle.c_runs.specs.Claims.{in_order}
use Rattle.c_runs.specs.Program.{Function}
use Rattle.c_runs.specs.Tree.{Steps}
use Rattle.program_trees.specs.View.{view_contract}
use Rattle.walk_steps.specs.Step.{Step, seq, ask, block, remember}
use Rattle.program_steps.specs.Temporaries.{no_temporaries}
use Rattle.program_steps.specs.Terms.{Texts}
use Rattle.program_steps.specs.Functions.{all_ensured, body_point, ending, ensure_checks, together_check}
use Rattle.program_goals.specs.Words.{Written}
use Rattle.walk_frames.specs.declared.frames.Frame.{Frame}
use Rattle.walk_frames.specs.View.{facts_in, shape_in}
use Rattle.program_walk.specs.View.{Over, steps_word}

-- what a function's text says beside what its runs need
abbrev pub written_in : (temporaries : ℕ) → (kinds : ℕ → Kind) → (bases : List (List ℕ)) → Written
written_in n k bases = record { temporaries = n; temp_kind = k; bases = bases }

module _ (g : Over) (x : Frame) (functions : ℕ → Option (Function Steps)) (texts : Texts) (body : Steps) (end : ℕ) where
  abbrev pub body_word : Step
  body_word = block (seq (steps_word g x functions texts (body_point x.number) body no_temporaries) (ending g.world (facts_in x) (shape_in x g.kinds) texts x.result end))

  abbrev pub whole_word : Step
  whole_word =
      remember
      (seq (ask (map (together_check g.world (facts_in x) (shape_in x g.kinds) texts (view_contract x.contract.now).behaviors) (in_order (view_contract x.contract.now).together)))
      (seq body_word
      (ask (ensure_checks g.world (facts_in x) (shape_in x g.kinds) texts true (view_contract x.contract.now).plain
      ++ all_ensured g.world (facts_in x) (shape_in x g.kinds) texts (view_contract x.contract.now).behaviors))))
