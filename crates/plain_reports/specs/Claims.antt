-- What a report says of the runs of its program.
use Rattle.std.specs.Prelude.{◌≡◌, ℕ, Bool, true, List, Some, slice_get}
use Rattle.wp_base.specs.declared.kinds.Kind.{Kind}
use Rattle.c_kinds.specs.declared.models.Machdep.{Machdep}
use Rattle.c_runs.specs.TruthStates.{Value}
use Rattle.qed_terms.specs.declared.verdict.Verdict.TheVariants as verdict
use Rattle.qed_terms.specs.Setting.{Valid}
use Rattle.c_runs.specs.Program.{Stmts, Function}
use Rattle.c_runs.specs.States.{Memory}
use Rattle.c_runs.specs.Entry.{Enters}
use Rattle.c_runs.specs.Run as spelled
use Rattle.c_programs.specs.Files.{program_of}
use Rattle.c_runs.specs.Tree.{Steps}
use Rattle.goal_segments.specs.Laws.{IsClosed}
use Rattle.walk_steps.specs.Walk.{Goal, formula_of}
use Rattle.program_goals.specs.Laws.{RunsWell}
use Rattle.goal_report.specs.Report.{Judged, Reported, goals_proved}
use Rattle.logic_sources.specs.Told.{FunctionGoals, core_of, setting_of_file, file_goals, AreExact, Source}
use Rattle.logic_sources.specs.Built.{names_of}
use Rattle.wp_words.specs.Command.{Wanted}
use Rattle.plain_reports.specs.Reports.{IsReportOf}

module _ (s : Source) (kinds : (function number : ℕ) → Kind) (rs : List Reported) where
  abbrev pub goals_in : List FunctionGoals
  goals_in = file_goals s.typed s.annots (names_of s) kinds

  -- each goal whose line reads proved is valid, whatever the other lines read
  abbrev pub ProvedGoalsAreValid : Type 0
  ProvedGoalsAreValid =
      (i j : ℕ) (g : FunctionGoals) (r : Reported) (x : Goal) (said : Judged) → slice_get goals_in i ≡ Some g → slice_get rs i ≡ Some r → slice_get g.goals j ≡ Some x
      → slice_get r.goals j ≡ Some said → said.verdict ≡ verdict.Proved → Valid (setting_of_file s.typed s.annots (names_of s)) (formula_of x)

  -- every goal of these functions is called proved
  abbrev pub AllProved : (reached : ℕ → Bool) → Type 0
  AllProved reached = (i : ℕ) (g : FunctionGoals) (r : Reported) → slice_get goals_in i ≡ Some g → slice_get rs i ≡ Some r → reached g.function ≡ true → goals_proved r.goals ≡ true

  -- Where every goal of a function and of all that it reaches is called proved, each run of it, from a state in which it is entered as it asks for, and however
  -- often its loops turn and however deep its calls are, meets nothing undefined and no failed annotation, changes only what its clauses allow, and keeps its
  -- promises where it returns.
  abbrev pub ProvedFunctionsRunWell : Type 0
  ProvedFunctionsRunWell =
      (reached : ℕ → Bool) → IsClosed (core_of s.typed s.annots) reached → AllProved reached
      → (n : ℕ) (f : Function Stmts) → reached n ≡ true → (program_of s.typed s.annots).functions n ≡ Some f → (vs : List Value) (w : Memory) → Enters (program_of s.typed s.annots) f vs w
      → (turns : ℕ) (contents : List Value)
      → RunsWell (program_of s.typed s.annots).facts n f.contract vs w (spelled.run_function (program_of s.typed s.annots) n vs w turns contents)

  -- the written goal of each line is valid exactly where no segment run fails at its check
  abbrev pub GoalsAreExactIn : Type 0
  GoalsAreExactIn = (n : ℕ) (f : Function Steps) → (core_of s.typed s.annots).functions n ≡ Some f → AreExact s.typed s.annots (names_of s) kinds n f

  pub record Claims : Type 0 where
    pub valid : ProvedGoalsAreValid
    pub correct : ProvedFunctionsRunWell
    pub exact : GoalsAreExactIn

-- what each report claims of its program is so
abbrev pub ReportsClaim : Type 0
ReportsClaim = (m : Machdep) (wanted : Wanted) (s : Source) (rs : List Reported) (h : IsReportOf m wanted s rs) → Claims s h.kinds rs
