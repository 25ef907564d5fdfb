-- The report of what is read of a text: each function's goals, in the order of its bodies, with what is said of them.
use Rattle.std.specs.Prelude.{◌≡◌, ℕ, Bool, List, [], Option, Some, None, slice_get}
use Rattle.wp_base.specs.declared.kinds.Kind.{Kind}
use Rattle.c_syntax.specs.declared.token.Token.{Token}
use Rattle.c_kinds.specs.declared.models.Machdep.{Machdep}
use Rattle.c_scopes.specs.declared.symbols.Signature.{Signature}
use Rattle.typed_unit.specs.Unit as u
use Rattle.qed_terms.specs.declared.verdict.Verdict.{Verdict}
use Rattle.qed_terms.specs.Tree.{Tree}
use Rattle.qed_terms.specs.Setting.{Setting}
use Rattle.prover.specs.Prover.{IsProverVerdict}
use Rattle.from_lines.specs.Froms.{from_lines}
use Rattle.goal_report.specs.Report.{Reported, report_text}
use Rattle.goal_report.specs.Judging.{EachIsSo, AreJudged}
use Rattle.logic_sources.specs.Told.{FunctionGoals, file_goals, names_in, setting_of_file, IsMet, Source}
use Rattle.logic_sources.specs.Built.{names_of}
use Rattle.wp_words.specs.Command.{Wanted}

-- A verdict that may be given of a goal in this setting, as far as it is to be decided: proved wherever its expansion closes, and only where it is valid;
-- unknown only for the reason for which its expansion ends.
abbrev pub says : Setting → Wanted → Tree → Verdict → Type 0
says setting wanted goal v = IsProverVerdict setting wanted.fuel wanted.branches goal v

-- ---- names

abbrev pub name_or_none : Option Signature → List ℕ
name_or_none (Some f) = f.name
name_or_none None = []

abbrev pub function_name : u.Typed → (function : ℕ) → List ℕ
function_name t n = name_or_none (slice_get t.file.functions n)

-- ---- reports

pub record IsReported (setting : Setting) (wanted : Wanted) (t : u.Typed) (g : FunctionGoals) (r : Reported) : Type 0 where
  pub name : r.name ≡ function_name t g.function
  pub goals : AreJudged (says setting wanted) wanted.shows g.goals r.goals

-- Each function's name and goals, in order. Temporaries are of kinds with which its statements have words; they stand in no goal.
pub record IsReportOf (m : Machdep) (wanted : Wanted) (s : Source) (rs : List Reported) : Type 0 where
  pub tokens : List Token
  pub kinds : (function number : ℕ) → Kind
  pub met : IsMet m tokens s.tree s.typed s.annots (names_of s) kinds
  pub judged : EachIsSo (IsReported (setting_of_file s.typed s.annots (names_of s)) wanted s.typed) (file_goals s.typed s.annots (names_of s) kinds) rs

-- no pointer may lead to a variable of the file; parts with `\from` are ignored
abbrev pub report_of : Source → List Reported → List ℕ
report_of s rs = report_text (names_in s.typed.file.globals) (from_lines s.tree) rs
