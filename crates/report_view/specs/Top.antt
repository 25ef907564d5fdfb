-- What a call of the program leaves, by its status.
use Rattle.std.specs.Prelude.{◌≡◌, ℕ, List, [], Option, Some, None, option_map, option_and_then, IfSome}
use Rattle.std.specs.Io.KnownBytes.{Appends}
use Rattle.wp_base.specs.declared.answers.Status.{Status}
use Rattle.wp_base.specs.declared.answers.Status.TheVariants as status
use Rattle.view_words.specs.Command.{Command, command_of}
use Rattle.report_view.specs.Answer.{Answer, answer}

abbrev pub file_named : List (List ℕ) → Option (List ℕ)
file_named words = option_map (λ (c : Command). c.file) (command_of words)

abbrev pub report_named : List (List ℕ) → Option (List ℕ)
report_named words = option_map (λ (c : Command). c.report) (command_of words)

-- what the file with a name holds, where there is a name and that is told
abbrev pub told : {Self : Type 0} → (Self → List ℕ → Option (List ℕ)) → Self → Option (List ℕ) → Option (List ℕ)
told holds files name = option_and_then (λ n. holds files n) name

-- the answer to the texts that were read: what the names hold, where that is told
pub record AnswersFiles (c : Command) (file report : Option (List ℕ)) (a : Answer) : Type 0 where
  pub source : List ℕ
  pub text : List ℕ
  pub source_read : IfSome file (λ held. held ≡ source)
  pub text_read : IfSome report (λ held. held ≡ text)
  pub answered : a ≡ answer c source text

-- its text was written whole, its status is the run's, and what it says the run says
pub record Written (c : Command) (file report before after : Option (List ℕ)) (result : Status) (said : List ℕ) : Type 0 where
  pub given : Answer
  pub answered : AnswersFiles c file report given
  pub written : Appends before after given.text
  pub same_status : result ≡ given.status
  pub same_said : said ≡ given.said

-- A run that met no fault and had memory enough answers the command that the words are. Where they are none, and where it met a fault, it says nothing of
-- names.
abbrev pub Answers : Option Command → (file report before after : Option (List ℕ)) → Status → (said : List ℕ) → Type 0
Answers None file report before after result said = (result ≡ status.Usage) × (said ≡ [])
Answers (Some c) file report before after status.ReadFault said = said ≡ []
Answers (Some c) file report before after status.WriteFault said = said ≡ []
Answers (Some c) file report before after status.NoMemory said = said ≡ []
Answers (Some c) file report before after result said = Written c file report before after result said
