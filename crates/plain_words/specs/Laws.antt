-- Statements of the core programs of programs over plain integers, with their checks, have words.
use Rattle.std.specs.Prelude.{◌≡◌, ℕ, true, false, [], Some}
use Rattle.wp_base.specs.declared.kinds.Kind.{Kind}
use Rattle.c_runs.specs.Program.{Stmts, Function, Program}
use Rattle.c_runs.specs.Normal.{normal}
use Rattle.c_runs.specs.Adding.{add_checks}
use Rattle.c_runs.specs.Tree.{Steps}
use Rattle.plain_runs.specs.Fitting.{shape_of, is_param}
use Rattle.loop_words.specs.Told.{no_temporaries}
use Rattle.plain_normal.specs.Plain.{IsPlainProgram}
use Rattle.plain_words.specs.Temporaries.{temporaries_in}
use Rattle.plain_words.specs.Standing.{AllStand}
use Rattle.plain_words.specs.Sets.{all_sets_stand}
use Rattle.plain_normal.specs.Jumps.{AllJump}
use Rattle.plain_words.specs.Results.{ResultIsNumber}

-- each function stands, with as many temporaries as it sets, and a kind for each
pub record ProgramStands (q : Program Steps) : Type 0 where
  pub kinds : (function number : ℕ) → Kind
  pub functions : (n : ℕ) (f : Function Steps) → q.functions n ≡ Some f
      → AllStand q.facts (shape_of f (temporaries_in f.body) (kinds n)) q.functions (is_param f.params) [] no_temporaries f.body

-- jumps stand inside of what they leave, sets of loops name what is in scope, and results are numbers
pub record IsInOrder (f : Function Stmts) : Type 0 where
  pub jumps : AllJump false false f.body
  pub sets : all_sets_stand (is_param f.params) f.body ≡ true
  pub result : ResultIsNumber f.result

abbrev pub PlainProgramsStand : Type 0
PlainProgramsStand = (q : Program Stmts) → IsPlainProgram q → ((n : ℕ) (f : Function Stmts) → q.functions n ≡ Some f → IsInOrder f) → ProgramStands (add_checks (normal q))
