-- What a body is read with, as it is in memory.
use Rattle.std.specs.Prelude.{List, map}
use Rattle.std.specs.Borrow.{Bor}
use Rattle.program_trees.specs.View.{view_facts}
use Rattle.logic_trees.specs.Told.{shared}
use Rattle.acsl_encode.specs.Readings as r
use Rattle.acsl_encode.specs.Encode.{Names}
use Rattle.acsl_encode.specs.Setting.{Known, names_of}
use Rattle.annotation_words.specs.View.{view_named, view_global, called_in}
use Rattle.annotation_words.specs.declared.readings.GlobalName.{GlobalName}
use Rattle.logic_bodies.specs.Bodies.{reading_with}
use Rattle.logic_bodies.specs.declared.readings.BodyReading.{BodyReading}

abbrev pub lent_global : Bor GlobalName → r.Global
lent_global g = view_global g.now

abbrev pub globals_in : BodyReading → List r.Global
globals_in x = map view_global x.globals.now

abbrev pub known_in : BodyReading → Known
known_in x = called_in x.called.now

abbrev pub reading_in : BodyReading → r.Reading
reading_in x = reading_with (shared (view_facts x.facts.now)) (known_in x) (globals_in x)

abbrev pub names_in : BodyReading → Names
names_in x = names_of (map view_named x.params.now)
