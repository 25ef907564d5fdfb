-- What a report says of the program that it is the report of.
use Rattle.std.proofs.Common.{◌≡◌, inl, inr, ℕ, ◌≤◌, List, length, refl, sym, ap, subst, arith, Option, Some}
use Rattle.std.specs.Prelude.{option_map, option_and_then}
use Rattle.std.specs.Io.KnownBytes.{Appends}
use Rattle.wp_base.specs.declared.answers.Refusal.{Refusal}
use Rattle.wp_base.specs.declared.answers.Status.{Status}
use Rattle.wp_base.specs.declared.answers.Status.TheVariants as status
use Rattle.c_kinds.specs.declared.models.Machdep.{Machdep}
use Rattle.c_lexer.specs.Tokens.{most_bytes}
use Rattle.goal_report.specs.Report.{Reported}
use Rattle.text_reports.specs.Told.{Source, Spells, IsReportOf, Claims}
use Rattle.text_reports.proofs.Told.{no_fault as none_faulty, reports_claim}
use Rattle.wp_cli.specs.Answers.{HasFault, too_long, faulty, Answers, proved, unknown, refused}
use Rattle.wp_words.specs.Command.{Wanted, Command, command_of, asks, model_of, wanted_of, model_asked}
use Rattle.wp_cli.specs.Top.{told, IsRead, AnswersFile, WritesAnswer, IsAnsweredBy}

claims : (m : Machdep) (wanted : Wanted) (text : List ℕ) (s : Source) (rs : List Reported) → Spells m text s → (judged : IsReportOf m wanted s rs) → Claims s judged.kinds rs
claims m wanted text s rs spelled judged = reports_claim m wanted s rs judged

-- an answer that was written whole is a report whose claims are so, or a refusal
pub answer_written : (m : Machdep) (wanted : Wanted) (told before after : Option (List ℕ)) (result : Status) (bytes : List ℕ) → AnswersFile m wanted told result bytes → Appends before after bytes → WritesAnswer m wanted told before after result
answer_written m wanted told before after result bytes file written = by result bytes file.answer written
  where
    by : (result : Status) (bytes : List ℕ) → Answers m wanted file.text result bytes → Appends before after bytes → WritesAnswer m wanted told before after result
    by result bytes (proved s rs within spelled judged all) w =
        record { text = file.text; read = file.read; within = within; source = s; spelled = spelled; report = rs; judged = judged; all = all; written = w; claims = claims m wanted file.text s rs spelled judged }
    by result bytes (unknown s rs within spelled judged all) w =
        record { text = file.text; read = file.read; within = within; source = s; spelled = spelled; report = rs; judged = judged; all = all; written = w; claims = claims m wanted file.text s rs spelled judged }
    by result bytes (refused r fault) w = record { text = file.text; read = file.read; fault = r; broken = fault; written = w }

no_fault : (m : Machdep) (text : List ℕ) (p : Source) (r : Refusal) → length text ≤ most_bytes → Spells m text p → HasFault m text r → ⊥
no_fault m text p r within spelled (too_long more) = omega (arith, within, more)
no_fault m text p r within spelled (faulty x le fault) = none_faulty m text p x spelled fault

answered_by : (m : Machdep) (wanted : Wanted) (text : List ℕ) (result : Status) (bytes : List ℕ) → Answers m wanted text result bytes → IsAnsweredBy m text result
answered_by m wanted text result bytes (proved s rs within spelled judged all) = record { every = inl tt; spelled = λ x w h. inl (inl refl); faulty = λ r fault. absurd (no_fault m text s r within spelled fault) }
answered_by m wanted text result bytes (unknown s rs within spelled judged all) = record { every = inl tt; spelled = λ x w h. inl (inr refl); faulty = λ r fault. absurd (no_fault m text s r within spelled fault) }
answered_by m wanted text result bytes (refused r fault) = record { every = inl tt; spelled = λ x w h. absurd (no_fault m text x r w h fault); faulty = λ r fault. inl refl }

-- a text that is told is the one that was read
pub file_answered : (m : Machdep) (wanted : Wanted) (told : Option (List ℕ)) (text : List ℕ) (result : Status) (bytes : List ℕ) → told ≡ Some text → AnswersFile m wanted told result bytes → IsAnsweredBy m text result
file_answered m wanted told text result bytes is file =
    let read : text ≡ file.text = subst (λ (t : Option (List ℕ)). IsRead t file.text) is file.read in
    subst (λ t. IsAnsweredBy m t result) (sym read) (answered_by m wanted file.text result bytes file.answer)

-- what is told of the file that the words name, and what they ask for
pub told_named : {Self : Type 0} (holds : Self → List ℕ → Option (List ℕ)) (files : Self) (words : List (List ℕ)) (c : Command) → command_of words ≡ Some c → told holds files words ≡ holds files c.file
told_named holds files words c is = ap (λ (o : Option Command). option_and_then (λ name. holds files name) (option_map (λ (c : Command). c.file) o)) is

pub asks_named : (words : List (List ℕ)) (c : Command) → command_of words ≡ Some c → wanted_of words ≡ c.wanted
asks_named words c is = ap asks is

pub model_named : (words : List (List ℕ)) (c : Command) → command_of words ≡ Some c → model_asked words ≡ c.model
model_named words c is = ap model_of is

-- the answer to the file of a command is that to its words
pub words_answered : {Self : Type 0} (holds : Self → List ℕ → Option (List ℕ)) (files : Self) (words : List (List ℕ)) (c : Command) (result : Status) (bytes : List ℕ) → command_of words ≡ Some c
    → AnswersFile c.model c.wanted (holds files c.file) result bytes → AnswersFile (model_asked words) (wanted_of words) (told holds files words) result bytes
words_answered holds files words c result bytes is file =
    subst (λ m. AnswersFile m (wanted_of words) (told holds files words) result bytes) (sym (model_named words c is))
    (subst (λ b. AnswersFile c.model b (told holds files words) result bytes) (sym (asks_named words c is))
    (subst (λ (t : Option (List ℕ)). AnswersFile c.model c.wanted t result bytes) (sym (told_named holds files words c is)) file))

-- no answer ends in a fault of writing
pub no_write_fault : (m : Machdep) (wanted : Wanted) (told : Option (List ℕ)) (result : Status) (bytes : List ℕ) → AnswersFile m wanted told result bytes → result ≡ status.WriteFault → ⊥
no_write_fault m wanted told result bytes file = by result bytes file.answer
  where
    by : (result : Status) (bytes : List ℕ) → Answers m wanted file.text result bytes → result ≡ status.WriteFault → ⊥
    by result bytes (proved s rs within spelled judged all) e = cc
    by result bytes (unknown s rs within spelled judged all) e = cc
    by result bytes (refused r fault) e = cc
