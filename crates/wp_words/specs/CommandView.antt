-- A command in memory, as a plain one.
use Rattle.std.specs.Prelude.{ℕ, List, codes, Option, option_map}
use Rattle.wp_words.specs.declared.words.Command as memory
use Rattle.wp_words.specs.declared.words.Wanted as wanted
use Rattle.wp_words.specs.declared.words.Asked as asked
use Rattle.wp_words.specs.declared.words.Valued.{Valued}
use Rattle.wp_words.specs.declared.words.Valued.TheVariants as valued
use Rattle.std.specs.Prelude.{◌≡◌}
use Rattle.std.specs.Option.{option_copied}
use Rattle.wp_words.specs.declared.words.Reading as reading
use Rattle.wp_words.specs.Command.{Command, Wanted, Asked}
use Rattle.wp_words.specs.Reading.{Reading, reading_of}

abbrev pub view_wanted : wanted.Wanted → Wanted
view_wanted w = record { shows = w.shows_goals; fuel = w.fuel; branches = w.branches }

abbrev pub view_command : memory.Command → Command
view_command c = record { file = c.file.now; model = c.model; wanted = view_wanted c.wanted }

abbrev pub view_asked : asked.Asked → Asked
view_asked a = record { shows = a.shows; model = a.model; fuel = a.fuel; branches = a.branches }

-- the name of an option that takes a value
abbrev pub name_of : Valued → List ℕ
name_of valued.Machdep = codes "--machdep"
name_of valued.Fuel = codes "--fuel"
name_of valued.Branches = codes "--branches"

abbrev pub view_reading : reading.Reading → Reading
view_reading r = reading_of (option_map name_of r.wants) r.ended (view_asked r.asked) (option_copied r.file)

-- what a call that reads on answers
abbrev pub ReadsOn : Option reading.Reading → Option Reading → Type 0
ReadsOn result r = option_map view_reading result ≡ r
