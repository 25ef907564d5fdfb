-- The base names of the slots of a file's bodies.
use Rattle.std.specs.Prelude.{ℕ, List, [], map, Option, Some, None}
use Rattle.typed_unit.specs.Unit as u
use Rattle.c_runs.specs.Program.{Function, Program}
use Rattle.c_runs.specs.Tree.{Steps}
use Rattle.plain_words.specs.Temporaries.{temporaries_in}
use Rattle.slot_names.specs.Bases.{Name, slot_bases}
use Rattle.plain_sources.specs.Built.{first_names}

-- of a function whose own variables have these names
abbrev pub function_bases : (file own : List Name) → Function Steps → List Name
function_bases file own f = slot_bases file f.params own (temporaries_in f.body)

abbrev pub bases_if : (file own : List Name) → Option (Function Steps) → List Name
bases_if file own None = []
bases_if file own (Some f) = function_bases file own f

module _ (t : u.Typed) (q : Program Steps) (file : List Name) where
  abbrev pub body_bases_by : u.Body → List Name
  body_bases_by b = bases_if file (first_names b.function t.bodies) (q.functions b.function)

  abbrev pub bases_by : List (List Name)
  bases_by = map body_bases_by t.bodies
