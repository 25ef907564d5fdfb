-- The words of the command `wpview`, by the guidelines for utilities (POSIX, base definitions 12.2): an option begins with `-`, the first `--` ends the
-- options, and each other word is an operand. Here an operand may also stand before an option.
use Rattle.std.specs.Prelude.{ℕ, ◌==◌, Bool, true, false, not, ◌||◌, if◌then◌else◌, List, [], ◌∷◌, ◌++◌, codes, filter, is_some, Option, Some, None, option_and_then}
use Rattle.std.specs.Option.{unwrap_or}
use Rattle.std.specs.Str.{bytes_eq}
use Rattle.report_read.specs.Bytes.{after}
use Rattle.report_shown.specs.declared.wanted.Only.{Only}
use Rattle.report_shown.specs.declared.wanted.Only.TheVariants as only
use Rattle.report_shown.specs.Shown.{Wanted}
use Rattle.wp_words.specs.Command.{ends_options, options, operands}
use Rattle.view_words.specs.declared.commands.Form.{Form}
use Rattle.view_words.specs.declared.commands.Form.TheVariants as form
use Rattle.view_words.specs.declared.words.Key.{Key}
use Rattle.view_words.specs.declared.words.Key.TheVariants as key

-- the source and its report, which goals are shown, in which form, and whether in colour
pub record Command : Type 0 where
  pub file : List ℕ
  pub report : List ℕ
  pub wanted : Wanted
  pub form : Form
  pub color : Bool

-- the options that take a value
abbrev pub key_text : Key → List ℕ
key_text key.Function = codes "--fct"
key_text key.Check = codes "--check"
key_text key.Verdict = codes "--only"

abbrev pub key_of : List ℕ → Option Key
key_of word =
    if bytes_eq word (codes "--fct") then Some key.Function
    else if bytes_eq word (codes "--check") then Some key.Check
    else if bytes_eq word (codes "--only") then Some key.Verdict
    else None

-- The words with each option that takes a value and that value as one word, `--fct NAME` as `--fct=NAME`; behind such an option, the first word is its
-- value.
abbrev pub joined : (behind : Option Key) → List (List ℕ) → List (List ℕ)
joined None [] = []
joined (Some k) [] = key_text k ∷ []
joined (Some k) (value ∷ words) = (key_text k ++ 61 ∷ value) ∷ joined None words
joined None (word ∷ words) = if ends_options word then word ∷ words else if is_some (key_of word) then joined (key_of word) words else word ∷ joined None words

-- ---- options

-- what the options ask for: which goals, a form, if one is named, and colours or not
pub record Asked : Type 0 where
  pub wanted : Wanted
  pub form : Option Form
  pub color : Bool

abbrev pub nothing : Asked
nothing = record { wanted = record { function = None; check = None; only = only.All }; form = None; color = false }

-- each option stands at most once
abbrev pub with_function : Asked → List ℕ → Option Asked
with_function a name = if is_some a.wanted.function then None else Some (record a { wanted = record a.wanted { function = Some name } })

abbrev pub with_check : Asked → List ℕ → Option Asked
with_check a name = if is_some a.wanted.check then None else Some (record a { wanted = record a.wanted { check = Some name } })

abbrev pub only_of : List ℕ → Option Only
only_of word = if bytes_eq word (codes "unknown") then Some only.Unknown else if bytes_eq word (codes "proved") then Some only.Proved else None

abbrev pub is_all : Only → Bool
is_all only.All = true
is_all only.Proved = false
is_all only.Unknown = false

abbrev pub with_only : Asked → Option Only → Option Asked
with_only a None = None
with_only a (Some o) = if is_all a.wanted.only then Some (record a { wanted = record a.wanted { only = o } }) else None

abbrev pub with_value : Asked → Key → List ℕ → Option Asked
with_value a key.Function name = with_function a name
with_value a key.Check name = with_check a name
with_value a key.Verdict word = with_only a (only_of word)

abbrev pub form_of : List ℕ → Option Form
form_of option =
    if bytes_eq option (codes "--text") then Some form.Text
    else if bytes_eq option (codes "--html") then Some form.Html
    else if bytes_eq option (codes "--json") then Some form.Json
    else if bytes_eq option (codes "--csv") then Some form.Csv
    else None

-- one form is named at most
abbrev pub with_form : Asked → Option Form → Option Asked
with_form a None = None
with_form a (Some f) = if is_some a.form then None else Some (record a { form = Some f })

abbrev pub with_color : Asked → Option Asked
with_color a = if a.color then None else Some (record a { color = true })

-- the value behind `=`, where the option is this one
abbrev pub assigned : Key → List ℕ → Option (List ℕ)
assigned k option = after (key_text k ++ 61 ∷ []) option

abbrev pub with_assigned : Asked → (option : List ℕ) → (function check verdict : Option (List ℕ)) → Option Asked
with_assigned a option (Some name) c v = with_value a key.Function name
with_assigned a option None (Some name) v = with_value a key.Check name
with_assigned a option None None (Some word) = with_value a key.Verdict word
with_assigned a option None None None = with_form a (form_of option)

abbrev pub with_option : Asked → List ℕ → Option Asked
with_option a option =
    if bytes_eq option (codes "--color") then with_color a else with_assigned a option (assigned key.Function option) (assigned key.Check option) (assigned key.Verdict option)

abbrev pub asked_behind : Asked → List (List ℕ) → Option Asked
asked_behind a [] = Some a
asked_behind a (option ∷ options) = option_and_then (λ b. asked_behind b options) (with_option a option)

-- ---- commands

abbrev pub is_dash : List ℕ → Bool
is_dash word = bytes_eq word (codes "-")

-- The two operands are the source and its report; `-` alone is neither.
abbrev pub files_in : List (List ℕ) → Option (List ℕ × List ℕ)
files_in [] = None
files_in (file ∷ []) = None
files_in (file ∷ report ∷ []) = if is_dash file || is_dash report then None else Some (file, report)
files_in (file ∷ report ∷ word ∷ words) = None

-- where no form is named, it is the text
abbrev pub command : Option (List ℕ × List ℕ) → Option Asked → Option Command
command (Some files) (Some a) = Some (record { file = files.0; report = files.1; wanted = a.wanted; form = unwrap_or a.form form.Text; color = a.color })
command _ _ = None

-- What the words `[--fct NAME] [--check NAME] [--only unknown|proved] [--text|--html|--json|--csv] [--color] [--] FILE REPORT` ask for; none where they
-- are no command.
unfoldable pub command_of : List (List ℕ) → Option Command
command_of words = let ws = joined None words in command (files_in (operands ws)) (asked_behind nothing (options ws))
