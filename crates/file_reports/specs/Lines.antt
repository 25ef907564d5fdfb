-- The lines of a file's goals, as they are put one behind the other.
use Rattle.std.specs.Prelude.{◌≡◌, ℕ, ◌+◌, Bool, List, ◌++◌, length}
use Rattle.wp_base.specs.declared.kinds.Kind.{Kind}
use Rattle.typed_unit.specs.Unit as u
use Rattle.qed_terms.specs.Setting.{Setting}
use Rattle.c_runs.specs.Program.{Function, Program}
use Rattle.c_runs.specs.Tree.{Steps}
use Rattle.slot_names.specs.Bases.{Name}
use Rattle.walk_steps.specs.Walk.{Goal}
use Rattle.program_steps.specs.Terms.{Texts}
use Rattle.program_goals.specs.Programs.{goals_of}
use Rattle.goal_report.specs.Report.{Judged, Reported, goal_lines, all_lines, all_goals, all_proved, proved_in, hypothesis_lines, ignored_lines, report_text}
use Rattle.goal_report.specs.Judging.{EachIsSo, AreJudged}
use Rattle.plain_goals.specs.Files.{FunctionGoals}
use Rattle.wp_words.specs.Command.{Wanted}
use Rattle.plain_reports.specs.Reports.{says, function_name, IsReported}

-- the goals of a function with so many temporaries, whose slots have these base names
abbrev pub function_goals_by : Setting → Program Steps → Texts → (number : ℕ) → Function Steps → (temporaries : ℕ) → (kinds : ℕ → Kind) → (bases : List Name) → List Goal
function_goals_by setting q texts n f temporaries k bases = goals_of setting q texts n f (record { temporaries = temporaries; temp_kind = k; bases = bases })

-- the lines so far, how many goals they tell of, and how many of these are proved
pub record Page : Type 0 where
  pub text : List ℕ
  pub goals : ℕ
  pub proved : ℕ

-- what stands before the goals
abbrev pub headed : (names : List Name) → (lines : List ℕ) → Page
headed names lines = record { text = hypothesis_lines names ++ ignored_lines lines; goals = 0; proved = 0 }

-- Behind the lines before are those of a function's goals.
pub record BodyLines (setting : Setting) (wanted : Wanted) (t : u.Typed) (g : FunctionGoals) (before after : Page) : Type 0 where
  pub reported : Reported
  pub is : IsReported setting wanted t g reported
  pub text : after.text ≡ before.text ++ goal_lines reported.name 1 reported.goals
  pub goals : after.goals ≡ before.goals + length reported.goals
  pub proved : after.proved ≡ before.proved + proved_in reported.goals

-- The same of the function with a number, of which these are the goals.
pub record LinesPut (setting : Setting) (wanted : Wanted) (t : u.Typed) (number : ℕ) (gs : List Goal) (before after : Page) : Type 0 where
  pub judged : List Judged
  pub are : AreJudged (says setting wanted) wanted.shows gs judged
  pub text : after.text ≡ before.text ++ goal_lines (function_name t number) 1 judged
  pub goals : after.goals ≡ before.goals + length judged
  pub proved : after.proved ≡ before.proved + proved_in judged

-- Behind the lines before are those of these functions' goals.
pub record FileLines (setting : Setting) (wanted : Wanted) (t : u.Typed) (gs : List FunctionGoals) (before after : Page) : Type 0 where
  pub reported : List Reported
  pub are : EachIsSo (IsReported setting wanted t) gs reported
  pub text : after.text ≡ before.text ++ all_lines reported
  pub goals : after.goals ≡ before.goals + length (all_goals reported)
  pub proved : after.proved ≡ before.proved + proved_in (all_goals reported)

-- This is the report of these functions, of variables with these names, with parts ignored at these lines; and whether all goals are proved.
pub record IsReport (setting : Setting) (wanted : Wanted) (t : u.Typed) (names : List Name) (lines : List ℕ) (gs : List FunctionGoals) (text : List ℕ) (all : Bool) : Type 0 where
  pub reported : List Reported
  pub are : EachIsSo (IsReported setting wanted t) gs reported
  pub text_is : text ≡ report_text names lines reported
  pub all_is : all ≡ all_proved reported
