-- The words of the command: a file, and `--normal` before or behind it; or the words by which a file is verified.
use Rattle.std.specs.Prelude.{ℕ, ◌==◌, Bool, true, false, if◌then◌else◌, List, [], ◌∷◌, codes, Option, Some, None, option_map}
use Rattle.std.specs.Str.{bytes_eq}
use Rattle.c_kinds.specs.declared.models.Machdep.{Machdep}
use Rattle.c_kinds.specs.declared.models.Machdep.TheVariants as machdep
use Rattle.wp_words.specs.Command as verify
use Rattle.wp_words.specs.Command.{Wanted}

abbrev pub begins_with_dash : List ℕ → Bool
begins_with_dash [] = false
begins_with_dash (b ∷ bytes) = b == 45

abbrev pub is_normal : List ℕ → Bool
is_normal word = bytes_eq word (codes "--normal")

-- what is wanted of each formula: its normal form, or the verdict on it
pub data Wish : Type 0 where
  normal : Wish
  verdict : Machdep → Wanted → Wish

-- the file, and what is wanted of its formulas
pub record Command : Type 0 where
  pub file : List ℕ
  pub wish : Wish

-- no file of which normal forms are wanted begins with `-`
abbrev pub normal_of : (file : List ℕ) → Option Command
normal_of file = if begins_with_dash file then None else Some (record { file = file; wish = normal })

abbrev pub verdicts_by : verify.Command → Command
verdicts_by c = record { file = c.file; wish = verdict c.model c.wanted }

-- `[--machdep NAME] [--fuel N] [--branches N] [--goals] [--] FILE`
abbrev pub verdicts_of : List (List ℕ) → Option Command
verdicts_of words = option_map verdicts_by (verify.command_of words)

abbrev pub command_of : List (List ℕ) → Option Command
command_of (a ∷ b ∷ []) = if is_normal a then normal_of b else (if is_normal b then normal_of a else verdicts_of (a ∷ b ∷ []))
command_of words = verdicts_of words

abbrev pub file_named : List (List ℕ) → Option (List ℕ)
file_named words = option_map (λ c. c.file) (command_of words)

abbrev pub wish_of : Option Command → Wish
wish_of None = normal
wish_of (Some c) = c.wish

abbrev pub wish_in : List (List ℕ) → Wish
wish_in words = wish_of (command_of words)
