-- The words of a command, by the guidelines for utilities (POSIX, base definitions 12.2): an option begins with `-`, the first `--`
-- ends the options, and each other word is an operand. Here an operand may also stand before an option.
use Rattle.std.specs.Prelude.{ℕ, ◌+◌, ◌*◌, ◌-◌, ◌==◌, nat_le, Bool, true, false, not, ◌&&◌, ◌||◌, if◌then◌else◌, List, [], ◌∷◌, ◌++◌, codes, fold, filter, length, take, drop, is_some, Option, Some, None, option_map, option_and_then}
use Rattle.std.specs.List.{list_all}
use Rattle.std.specs.Option.{unwrap_or}
use Rattle.std.specs.Str.{bytes_eq, is_utf8}
use Rattle.c_kinds.specs.declared.models.Machdep.{Machdep}
use Rattle.c_kinds.specs.declared.models.Machdep.TheVariants as machdep

-- whether goals are to be shown, and how far each is decided: how many rounds of instances a branch has, and into how many branches it may come apart
pub record Wanted : Type 0 where
  pub shows : Bool
  pub fuel : ℕ
  pub branches : ℕ

-- the file to verify, its data model, and what is wanted of its goals
pub record Command : Type 0 where
  pub file : List ℕ
  pub model : Machdep
  pub wanted : Wanted

abbrev pub begins_with_dash : List ℕ → Bool
begins_with_dash [] = false
begins_with_dash (b ∷ bytes) = b == 45

abbrev pub ends_options : List ℕ → Bool
ends_options word = bytes_eq word (codes "--")

abbrev pub takes_value : List ℕ → Bool
takes_value word = bytes_eq word (codes "--machdep") || bytes_eq word (codes "--fuel") || bytes_eq word (codes "--branches")

-- The words with each option that takes a value and that value as one word, `--machdep NAME` as `--machdep=NAME`; behind such an option, the first
-- word is its value.
abbrev pub joined : (behind : Option (List ℕ)) → List (List ℕ) → List (List ℕ)
joined None [] = []
joined (Some option) [] = option ∷ []
joined (Some option) (value ∷ words) = (option ++ (codes "=" ++ value)) ∷ joined None words
joined None (word ∷ words) = if ends_options word then word ∷ words else if takes_value word then joined (Some word) words else word ∷ joined None words

-- the words before the first `--`, and those after it
abbrev pub before_end : List (List ℕ) → List (List ℕ)
before_end [] = []
before_end (word ∷ words) = if ends_options word then [] else word ∷ before_end words

abbrev pub after_end : List (List ℕ) → List (List ℕ)
after_end [] = []
after_end (word ∷ words) = if ends_options word then words else after_end words

abbrev pub options : List (List ℕ) → List (List ℕ)
options words = filter begins_with_dash (before_end words)

abbrev pub operands : List (List ℕ) → List (List ℕ)
operands words = filter (λ word. not (begins_with_dash word)) (before_end words) ++ after_end words

-- ---- numbers

abbrev pub is_digit : ℕ → Bool
is_digit b = nat_le 48 b && nat_le b 57

abbrev pub with_digit : ℕ → ℕ → ℕ
with_digit n b = n * 10 + (b - 48)

abbrev pub digits_value : List ℕ → ℕ
digits_value digits = fold with_digit 0 digits

abbrev pub is_number : List ℕ → Bool
is_number text = nat_le 1 (length text) && nat_le (length text) 5 && list_all is_digit text

-- one to five decimal digits
abbrev pub number_of : List ℕ → Option ℕ
number_of text = if is_number text then Some (digits_value text) else None

abbrev pub within : (low high : ℕ) → ℕ → Option ℕ
within low high n = if nat_le low n && nat_le n high then Some n else None

abbrev pub number_in : (low high : ℕ) → List ℕ → Option ℕ
number_in low high text = option_and_then (within low high) (number_of text)

-- ---- options

-- what the options ask for, each once at most
pub record Asked : Type 0 where
  pub shows : Bool
  pub model : Option Machdep
  pub fuel : Option ℕ
  pub branches : Option ℕ

abbrev pub nothing : Asked
nothing = record { shows = false; model = None; fuel = None; branches = None }

abbrev pub model_named : List ℕ → Option Machdep
model_named name = if bytes_eq name (codes "x86_32") then Some machdep.X86_32 else if bytes_eq name (codes "x86_64") then Some machdep.X86_64 else None

abbrev pub with_model : Asked → Option Machdep → Option Asked
with_model a None = None
with_model a (Some m) = if is_some a.model then None else Some (record a { model = Some m })

abbrev pub with_fuel : Asked → Option ℕ → Option Asked
with_fuel a None = None
with_fuel a (Some n) = if is_some a.fuel then None else Some (record a { fuel = Some n })

abbrev pub with_branches : Asked → Option ℕ → Option Asked
with_branches a None = None
with_branches a (Some n) = if is_some a.branches then None else Some (record a { branches = Some n })

abbrev pub with_goals : Asked → Option Asked
with_goals a = if a.shows then None else Some (record a { shows = true })

-- the word begins so
abbrev pub begins : (front word : List ℕ) → Bool
begins front word = bytes_eq (take (length front) word) front

-- the options are `--goals`, `--machdep=NAME`, where NAME is that of a data model, `--fuel=N`, with N up to 4, and `--branches=N`, with N from 1 to 65536
abbrev pub with_option : Asked → List ℕ → Option Asked
with_option a option =
    if bytes_eq option (codes "--goals") then with_goals a
    else if begins (codes "--machdep=") option then with_model a (model_named (drop 10 option))
    else if begins (codes "--fuel=") option then with_fuel a (number_in 0 4 (drop 7 option))
    else if begins (codes "--branches=") option then with_branches a (number_in 1 65536 (drop 11 option))
    else None

abbrev pub asked_behind : Asked → List (List ℕ) → Option Asked
asked_behind a [] = Some a
asked_behind a (option ∷ options) = option_and_then (λ b. asked_behind b options) (with_option a option)

-- ---- commands

-- The one operand is the file; `-` alone is none.
abbrev pub file_in : List (List ℕ) → Option (List ℕ)
file_in (file ∷ []) = if bytes_eq file (codes "-") then None else Some file
file_in _ = None

-- where no number is asked for, fuel is 2, and branches are 4096
abbrev pub wanted_by : Asked → Wanted
wanted_by a = record { shows = a.shows; fuel = unwrap_or a.fuel 2; branches = unwrap_or a.branches 4096 }

-- where no data model is named, it is that of 64 bits
abbrev pub command : Option (List ℕ) → Option Asked → Option Command
command (Some file) (Some a) = Some (record { file = file; model = unwrap_or a.model machdep.X86_64; wanted = wanted_by a })
command _ _ = None

abbrev pub command_in : (words : List (List ℕ)) → Option Command
command_in words = command (file_in (operands words)) (asked_behind nothing (options words))

-- What the words `[--machdep NAME] [--fuel N] [--branches N] [--goals] [--] FILE` ask for, all of them UTF-8; none where they are no command.
unfoldable pub command_of : List (List ℕ) → Option Command
command_of words = if list_all is_utf8 words then command_in (joined None words) else None

-- the file that the words name, where they are a command
abbrev pub file_named : List (List ℕ) → Option (List ℕ)
file_named words = option_map (λ (c : Command). c.file) (command_of words)

abbrev pub asks : Option Command → Wanted
asks None = wanted_by nothing
asks (Some c) = c.wanted

-- what the words want of the goals
abbrev pub wanted_of : List (List ℕ) → Wanted
wanted_of words = asks (command_of words)

abbrev pub model_of : Option Command → Machdep
model_of None = machdep.X86_64
model_of (Some c) = c.model

-- the data model that the words ask for
abbrev pub model_asked : List (List ℕ) → Machdep
model_asked words = model_of (command_of words)
