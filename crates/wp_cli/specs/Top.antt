-- What a call of the program leaves, by its status.
use Rattle.std.specs.Prelude.{◌≡◌, ◌⊎◌, ℕ, ◌≤◌, Bool, true, false, List, length, Option, Some, IfSome, option_and_then}
use Rattle.std.specs.Io.KnownBytes.{Appends, IsAtEnd}
use Rattle.wp_base.specs.declared.answers.Refusal.{Refusal}
use Rattle.wp_base.specs.declared.answers.Status.{Status}
use Rattle.wp_base.specs.declared.answers.Status.TheVariants as status
use Rattle.wp_io.specs.Reads.{TakesMore}
use Rattle.wp_io.specs.Writes.{TakesFront}
use Rattle.c_kinds.specs.declared.models.Machdep.{Machdep}
use Rattle.c_lexer.specs.Tokens.{most_bytes}
use Rattle.goal_report.specs.Report.{Reported, all_proved}
use Rattle.text_reports.specs.Told.{Source, Spells, IsReportOf, report_of, Claims}
use Rattle.wp_cli.specs.Report.{refusal_line}
use Rattle.wp_words.specs.Command.{Wanted, file_named}
use Rattle.wp_cli.specs.Answers.{Answers, HasFault}

-- what the file that the words name holds, where the words are a command and that is told
abbrev pub told : {Self : Type 0} → (Self → List ℕ → Option (List ℕ)) → Self → List (List ℕ) → Option (List ℕ)
told holds files words = option_and_then (λ name. holds files name) (file_named words)

-- A text that was read: what the name holds, where that is told.
abbrev pub IsRead : Option (List ℕ) → List ℕ → Type 0
IsRead told text = IfSome told (λ held. held ≡ text)

-- more bytes than the limit were taken from the file that was opened
pub record TookTooMuch (told left : Option (List ℕ)) : Type 0 where
  pub opened : Option (List ℕ)
  pub whole : IfSome told (λ held. opened ≡ Some held)
  pub more : TakesMore opened left most_bytes

-- For a report the text was read to its end; for a refusal it was, or too much of it was taken.
abbrev pub ReadsEnough : Status → Option (List ℕ) → Option (List ℕ) → Type 0
ReadsEnough status.AllProved told left = IsAtEnd left
ReadsEnough status.SomeUnknown told left = IsAtEnd left
ReadsEnough status.Refused told left = IsAtEnd left ⊎ TookTooMuch told left
ReadsEnough _ told left = Unit {0}

-- the answer to the text that was read, with this data model, and with goals shown or not
pub record AnswersFile (m : Machdep) (wanted : Wanted) (told : Option (List ℕ)) (result : Status) (bytes : List ℕ) : Type 0 where
  pub text : List ℕ
  pub read : IsRead told text
  pub answer : Answers m wanted text result bytes

-- a front of an answer was written, and not the whole
pub record WritesFront (m : Machdep) (wanted : Wanted) (told before after : Option (List ℕ)) : Type 0 where
  pub result : Status
  pub bytes : List ℕ
  pub answered : AnswersFile m wanted told result bytes
  pub written : TakesFront before after bytes

-- ---- what was written

-- The report of the program that the text spells was written whole, and what it claims of the program is so. `every`: each verdict in it is proved.
pub record WritesReport (m : Machdep) (wanted : Wanted) (told before after : Option (List ℕ)) (every : Bool) : Type 0 where
  pub text : List ℕ
  pub read : IsRead told text
  pub within : length text ≤ most_bytes
  pub source : Source
  pub spelled : Spells m text source
  pub report : List Reported
  pub judged : IsReportOf m wanted source report
  pub all : all_proved report ≡ every
  pub written : Appends before after (report_of source report)
  pub claims : Claims source judged.kinds report

-- the line of the text's fault was written whole
pub record WritesRefusal (m : Machdep) (told before after : Option (List ℕ)) : Type 0 where
  pub text : List ℕ
  pub read : IsRead told text
  pub fault : Refusal
  pub broken : HasFault m text fault
  pub written : Appends before after (refusal_line fault)

-- by its status, what a call has written
abbrev pub WritesAnswer : Machdep → (wanted : Wanted) → (told before after : Option (List ℕ)) → Status → Type 0
WritesAnswer m wanted told before after status.AllProved = WritesReport m wanted told before after true
WritesAnswer m wanted told before after status.SomeUnknown = WritesReport m wanted told before after false
WritesAnswer m wanted told before after status.Refused = WritesRefusal m told before after
WritesAnswer m wanted told before after _ = Unit {0}

-- ---- what is answered to a text that is told

-- a report or a refusal
abbrev pub IsAnswer : Status → Type 0
IsAnswer status.AllProved = Unit {0}
IsAnswer status.SomeUnknown = Unit {0}
IsAnswer status.Refused = Unit {0}
IsAnswer _ = ⊥

-- Each text is answered: one of the language by its report, a faulty one by its refusal, unless memory runs out.
pub record IsAnsweredBy (m : Machdep) (text : List ℕ) (result : Status) : Type 0 where
  pub every : IsAnswer result ⊎ (result ≡ status.NoMemory)
  pub spelled : (s : Source) → length text ≤ most_bytes → Spells m text s → ((result ≡ status.AllProved) ⊎ (result ≡ status.SomeUnknown)) ⊎ (result ≡ status.NoMemory)
  pub faulty : (r : Refusal) → HasFault m text r → (result ≡ status.Refused) ⊎ (result ≡ status.NoMemory)
