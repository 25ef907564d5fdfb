-- What the program answers to a text: its report, or the line that refuses it.
use Rattle.std.specs.Prelude.{◌≡◌, ℕ, ◌<◌, ◌≤◌, true, false, List, length}
use Rattle.wp_base.specs.declared.answers.Refusal.{Refusal}
use Rattle.wp_base.specs.declared.answers.Rule.TheVariants as rule
use Rattle.wp_base.specs.declared.answers.Status.{Status}
use Rattle.wp_base.specs.declared.answers.Status.TheVariants as status
use Rattle.c_kinds.specs.declared.models.Machdep.{Machdep}
use Rattle.c_lexer.specs.Tokens.{most_bytes}
use Rattle.goal_report.specs.Report.{Reported, all_proved}
use Rattle.text_reports.specs.Told.{Source, Spells, IsReportOf, report_of}
use Rattle.text_reports.specs.Told as front
use Rattle.wp_words.specs.Command.{Wanted}
use Rattle.wp_cli.specs.Report.{refusal_line}

-- The one fault of a text with this data model: it is too long, which is said of line 1, or it has a fault of tokens, of grammar, of a limit, of names
-- and types, or isn't verified.
pub data HasFault (m : Machdep) (text : List ℕ) : Refusal → Type 0 where
  too_long : most_bytes < length text → HasFault m text (record { rule = rule.Limit; line = 1 })
  faulty : (r : Refusal) → length text ≤ most_bytes → front.HasFault m text r → HasFault m text r

-- the status and the bytes that answer a text with this data model, as its goals are wanted
pub data Answers (m : Machdep) (wanted : Wanted) (text : List ℕ) : Status → List ℕ → Type 0 where
  proved : (s : Source) (rs : List Reported) → length text ≤ most_bytes → Spells m text s → IsReportOf m wanted s rs → all_proved rs ≡ true → Answers m wanted text status.AllProved (report_of s rs)
  unknown : (s : Source) (rs : List Reported) → length text ≤ most_bytes → Spells m text s → IsReportOf m wanted s rs → all_proved rs ≡ false → Answers m wanted text status.SomeUnknown (report_of s rs)
  refused : (r : Refusal) → HasFault m text r → Answers m wanted text status.Refused (refusal_line r)
