-- The command that the program holds, as the plain one.
use Rattle.wp_words.specs.CommandView.{view_wanted}
use Rattle.wpgoal_cli.specs.declared.words.Asked.{Asked}
use Rattle.wpgoal_cli.specs.declared.words.Wish as memory
use Rattle.wpgoal_cli.specs.declared.words.Wish.TheVariants as wish
use Rattle.wpgoal_cli.specs.Command.{Command, Wish, normal, verdict}

abbrev pub view_wish : memory.Wish → Wish
view_wish wish.Normal = normal
view_wish (wish.Verdict m w) = verdict m (view_wanted w)

abbrev pub view_command : Asked → Command
view_command c = record { file = c.file.now; wish = view_wish c.wish }
