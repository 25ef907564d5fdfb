-- The goals that the walks of a file's bodies pass on, told over what is made of it.
use Rattle.std.specs.Prelude.{◌≡◌, ℕ, List, [], map, Option, Some, None}
use Rattle.wp_base.specs.declared.kinds.Kind.{Kind}
use Rattle.typed_unit.specs.Unit as u
use Rattle.qed_terms.specs.Setting.{Setting}
use Rattle.c_runs.specs.Program.{Function, Program}
use Rattle.c_runs.specs.Tree.{Steps}
use Rattle.plain_runs.specs.Fitting.{shape_of}
use Rattle.plain_words.specs.Temporaries.{temporaries_in}
use Rattle.walk_frames.specs.Words.{StepsClosed}
use Rattle.walk_steps.specs.Walk.{Goal}
use Rattle.program_steps.specs.Terms.{Texts}
use Rattle.program_goals.specs.Programs.{goals_of}
use Rattle.slot_names.specs.Bases.{Name}
use Rattle.logic_sources.specs.Told.{FunctionGoals, written_for, first_names}

module _ (setting : Setting) (t : u.Typed) (q : Program Steps) (texts : Texts) (file : List Name) (kinds : (function number : ℕ) → Kind) where
  abbrev pub goals_by : (function : ℕ) → Option (Function Steps) → List Goal
  goals_by n None = []
  goals_by n (Some f) = goals_of setting q texts n f (written_for file (first_names n t.bodies) f (kinds n))

  abbrev pub body_goals_by : u.Body → FunctionGoals
  body_goals_by b = record { function = b.function; goals = goals_by b.function (q.functions b.function) }

  abbrev pub file_goals_by : List FunctionGoals
  file_goals_by = map body_goals_by t.bodies

-- Terms of all bodies are closed.
abbrev pub AllBodiesClosed : Program Steps → (kinds : (function number : ℕ) → Kind) → Type 0
AllBodiesClosed q kinds = (n : ℕ) (f : Function Steps) → q.functions n ≡ Some f → StepsClosed q.facts (shape_of f (temporaries_in f.body) (kinds n)) f.body
