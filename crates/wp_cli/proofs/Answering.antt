-- The answer to a text, from what its parts say.
use Rattle.std.proofs.Common.{◌≡◌, ℕ, ◌<◌, ◌≤◌, Bool, true, false, List, length, refl, sym, ap, ◌∙◌, subst, Option, Some, None, Result, Ok, Err, IfOk}
use Rattle.std.specs.Prelude.{IfSome}
use Rattle.wp_io.specs.Reads.{TakesMore}
use Rattle.wp_base.specs.declared.memory.NoMemory.{NoMemory}
use Rattle.wp_base.specs.declared.answers.Stop.{Stop}
use Rattle.wp_base.specs.declared.answers.Stop.TheVariants as stop
use Rattle.wp_base.specs.declared.answers.Refusal.{Refusal}
use Rattle.wp_base.specs.declared.answers.Rule.TheVariants as rule
use Rattle.wp_base.specs.declared.answers.Status.{Status}
use Rattle.wp_base.specs.declared.answers.Status.TheVariants as status
use Rattle.c_kinds.specs.declared.models.Machdep.{Machdep}
use Rattle.c_lexer.specs.Tokens.{most_bytes}
use Rattle.wp_base.specs.declared.kinds.Kind.{Kind}
use Rattle.goal_report.specs.Report.{Reported, all_proved}
use Rattle.text_reports.specs.Told.{IsMet, Source, names_of, Spells, IsReportOf, report_of, FileReport}
use Rattle.text_reports.proofs.Told.{verified_is_met}
use Rattle.text_reports.specs.Told as front
use Rattle.text_reports.specs.Answered.{TextAnswer}
use Rattle.wp_words.specs.Command.{Wanted}
use Rattle.wp_cli.specs.declared.answer.Answer.{Answer}
use Rattle.wp_cli.specs.Report.{refusal_line}
use Rattle.wp_cli.specs.AnswerView.{status_of}
use Rattle.wp_cli.specs.Top.{AnswersFile}
use Rattle.wp_cli.specs.Answers.{HasFault, too_long, Answers, proved, unknown, refused}

-- what is read of a text that spells it is met, with some kinds for its temporaries
met : (m : Machdep) (text : List ℕ) (s : Source) → (h : Spells m text s) → (kinds : (function number : ℕ) → Kind) × IsMet m h.tokens s.tree s.typed s.annots (names_of s) kinds
met m text s h = verified_is_met m h.tokens h.tree h.spelled.0 s h.spelled.1 h.is h.built

-- a report answers the text that spells its source
pub report_answers : (m : Machdep) (wanted : Wanted) (text : List ℕ) (r : FileReport) (result : Status) (bytes : List ℕ) → length text ≤ most_bytes → TextAnswer m wanted text (Ok r)
    → result ≡ status_of r.all_proved → bytes ≡ r.text → Answers m wanted text result bytes
report_answers m wanted text r result bytes within h status_is bytes_are =
    let s = h.0 in
    let kinds = met m text s h.1 in
    let made = h.2.1 m h.1.tokens kinds.0 kinds.1 in
    let judged : IsReportOf m wanted s made.reported = record { tokens = h.1.tokens; kinds = kinds.0; met = kinds.1; judged = made.are } in
    let same : bytes ≡ report_of s made.reported = bytes_are ∙ made.text_is in
    by s made.reported h.1 judged same (all_proved made.reported) refl (status_is ∙ ap status_of made.all_is)
  where
    by : (s : Source) (rs : List Reported) → Spells m text s → IsReportOf m wanted s rs → bytes ≡ report_of s rs → (b : Bool) → all_proved rs ≡ b → result ≡ status_of b → Answers m wanted text result bytes
    by s rs spelled judged same true e is = subst (λ t. Answers m wanted text result t) (sym same) (subst (λ x. Answers m wanted text x (report_of s rs)) (sym is) (proved s rs within spelled judged e))
    by s rs spelled judged same false e is = subst (λ t. Answers m wanted text result t) (sym same) (subst (λ x. Answers m wanted text x (report_of s rs)) (sym is) (unknown s rs within spelled judged e))

-- a text that was refused has that fault
pub text_refused : (m : Machdep) (wanted : Wanted) (text : List ℕ) (end : Stop) (r : Refusal) → end ≡ stop.Refused r → TextAnswer m wanted text (Err end) → front.HasFault m text r
text_refused m wanted text end r is h = subst (λ e. TextAnswer m wanted text (Err e)) is h

-- a refusal answers a text with that fault
pub refusal_answers : (m : Machdep) (wanted : Wanted) (text : List ℕ) (r : Refusal) (answer : Result Answer NoMemory) → IfOk answer (λ a. a.status ≡ status.Refused) → IfOk answer (λ a. a.text ≡ refusal_line r) → HasFault m text r → IfOk answer (λ a. Answers m wanted text a.status a.text)
refusal_answers m wanted text r (Ok a) s t fault = subst (λ s. Answers m wanted text s a.text) (sym s) (subst (λ t. Answers m wanted text status.Refused t) (sym t) (refused r fault))
refusal_answers m wanted text r (Err e) s t fault = tt

pub too_long_answers : (r : Refusal) (answer : Result Answer NoMemory) → r ≡ record { rule = rule.Limit; line = 1 } → IfOk answer (λ a. a.status ≡ status.Refused) → IfOk answer (λ a. a.text ≡ refusal_line r)
    → IfOk answer (λ a. (text : List ℕ) → most_bytes < length text → (m : Machdep) (wanted : Wanted) → Answers m wanted text a.status a.text)
too_long_answers r (Ok a) is s t = λ text more m wanted. refusal_answers m wanted text r (Ok a) s t (subst (HasFault m text) (sym is) (too_long more))
too_long_answers r (Err e) is s t = tt

-- a file of which too much was taken is answered as too long
pub too_long_file : (m : Machdep) (wanted : Wanted) (told opened left : Option (List ℕ)) (result : Status) (bytes : List ℕ) → IfSome told (λ text. opened ≡ Some text) → TakesMore opened left most_bytes
    → ((text : List ℕ) → most_bytes < length text → (m : Machdep) (wanted : Wanted) → Answers m wanted text result bytes) → AnswersFile m wanted told result bytes
too_long_file m wanted None opened left result bytes whole more says = record { text = more.bytes; read = tt; answer = says more.bytes more.more m wanted }
too_long_file m wanted (Some held) opened left result bytes whole more says =
    let longer : most_bytes < length held = subst (λ (o : Option (List ℕ)). IfSome o (λ text. most_bytes < length text)) whole more.longer in
    record { text = held; read = refl; answer = says held longer m wanted }
