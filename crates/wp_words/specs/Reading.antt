-- The words read one after the other, from the left.
use Rattle.std.specs.Prelude.{ℕ, Bool, true, not, ◌&&◌, if◌then◌else◌, List, [], ◌∷◌, ◌++◌, codes, is_some, Option, Some, None, option_and_then}
use Rattle.std.specs.Option.{unwrap_or}
use Rattle.std.specs.Str.{bytes_eq, is_utf8}
use Rattle.c_kinds.specs.declared.models.Machdep.TheVariants as machdep
use Rattle.wp_words.specs.Command.{Command, Asked, begins_with_dash, ends_options, takes_value, with_option, wanted_by}

-- an option that wants its value, whether the options have ended, what they asked for, and the file
pub record Reading : Type 0 where
  pub wants : Option (List ℕ)
  pub ended : Bool
  pub asked : Asked
  pub file : Option (List ℕ)

abbrev pub reading_of : (wants : Option (List ℕ)) → (ended : Bool) → Asked → (file : Option (List ℕ)) → Reading
reading_of o e a f = record { wants = o; ended = e; asked = a; file = f }

abbrev pub go_on : Option Asked → (Asked → Option Reading) → Option Reading
go_on None f = None
go_on (Some a) f = f a

-- a word that is no value
abbrev pub plain_read : (ended : Bool) → Asked → (file : Option (List ℕ)) → List ℕ → Option Reading
plain_read e a f w =
    if not e && ends_options w then Some (reading_of None true a f)
    else if not e && takes_value w then Some (reading_of (Some w) e a f)
    else if not e && begins_with_dash w then go_on (with_option a w) (λ b. Some (reading_of None e b f))
    else if is_some f then None else Some (reading_of None e a (Some w))

abbrev pub read_by : (wants : Option (List ℕ)) → (ended : Bool) → Asked → (file : Option (List ℕ)) → List ℕ → Option Reading
read_by (Some o) e a f w = go_on (with_option a (o ++ (codes "=" ++ w))) (λ b. Some (reading_of None e b f))
read_by None e a f w = plain_read e a f w

-- one more word
abbrev pub word_read : Reading → List ℕ → Option Reading
word_read r w = if is_utf8 w then read_by r.wants r.ended r.asked r.file w else None

-- the words end: a file was named, and isn't `-` alone
abbrev pub at_end : Asked → Option (List ℕ) → Option Command
at_end a None = None
at_end a (Some file) = if bytes_eq file (codes "-") then None else Some (record { file = file; model = unwrap_or a.model machdep.X86_64; wanted = wanted_by a })

abbrev pub ends_by : (wants : Option (List ℕ)) → Asked → (file : Option (List ℕ)) → Option Command
ends_by (Some o) a f = None
ends_by None a f = at_end a f

abbrev pub all_read : Reading → Option Command
all_read r = ends_by r.wants r.asked r.file

-- the words to come
abbrev pub read_on : Reading → List (List ℕ) → Option Command
read_on r [] = all_read r
read_on r (w ∷ ws) = option_and_then (λ s. read_on s ws) (word_read r w)
