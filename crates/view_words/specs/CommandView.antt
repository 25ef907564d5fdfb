-- A command in memory, as a plain one.
use Rattle.std.specs.Prelude.{ℕ, List, [], ◌∷◌, Option, Some, None}
use Rattle.report_shown.specs.View.{view_wanted}
use Rattle.view_words.specs.declared.commands.Command as memory
use Rattle.view_words.specs.declared.words.Asked as asked
use Rattle.view_words.specs.declared.words.Operands.{Operands}
use Rattle.view_words.specs.declared.words.Operands.TheVariants as held
use Rattle.view_words.specs.Command.{Command, Asked}

abbrev pub view_command : memory.Command → Command
view_command c = record { file = c.file.now; report = c.report.now; wanted = view_wanted c.wanted; form = c.form; color = c.color }

abbrev pub view_asked : asked.Asked → Asked
view_asked a = record { wanted = view_wanted a.wanted; form = a.form; color = a.color }

abbrev pub view_operands : Operands → List (List ℕ)
view_operands held.Nothing = []
view_operands (held.One file) = file.now ∷ []
view_operands (held.Two file report) = file.now ∷ report.now ∷ []

-- one operand more, two at most
abbrev pub with_operand : List (List ℕ) → List ℕ → Option (List (List ℕ))
with_operand [] word = Some (word ∷ [])
with_operand (file ∷ []) word = Some (file ∷ word ∷ [])
with_operand (file ∷ report ∷ words) word = None
