-- What a call of the program leaves, by its status.
use Rattle.std.specs.Prelude.{◌≡◌, ℕ, List, Option, IfSome, option_and_then}
use Rattle.std.specs.Io.KnownBytes.{Appends}
use Rattle.wp_base.specs.declared.answers.Status.{Status}
use Rattle.wp_base.specs.declared.answers.Status.TheVariants as status
use Rattle.wpgoal_cli.specs.Command.{Wish, file_named}
use Rattle.wpgoal_cli.specs.Lines.{Answers}

-- what the file that the words name holds, where the words are a command and that is told
abbrev pub told : {Self : Type 0} → (Self → List ℕ → Option (List ℕ)) → Self → List (List ℕ) → Option (List ℕ)
told holds files words = option_and_then (λ name. holds files name) (file_named words)

-- the answer to the text that was read: what the name holds, where that is told
pub record AnswersFile (wish : Wish) (told : Option (List ℕ)) (result : Status) (bytes : List ℕ) : Type 0 where
  pub text : List ℕ
  pub read : IfSome told (λ held. held ≡ text)
  pub answer : Answers wish text result bytes

-- it was written whole
pub record Written (wish : Wish) (told before after : Option (List ℕ)) (result : Status) : Type 0 where
  pub bytes : List ℕ
  pub answered : AnswersFile wish told result bytes
  pub written : Appends before after bytes

abbrev pub WritesAnswer : (wish : Wish) → (told before after : Option (List ℕ)) → Status → Type 0
WritesAnswer wish told before after status.AllProved = Written wish told before after status.AllProved
WritesAnswer wish told before after status.Refused = Written wish told before after status.Refused
WritesAnswer wish told before after _ = Unit {0}
