-- What is so of the programs of plain files, field by field.
use Rattle.std.specs.Prelude.{◌≡◌, ℕ, true, Some}
use Rattle.std.specs.List.{list_all}
use Rattle.typed_unit.specs.Unit as u
use Rattle.typed_prog.specs.Tree as t
use Rattle.c_sequence.specs.Sequence.{Plain, sequenced}
use Rattle.c_programs.specs.Told.{Annotations}
use Rattle.c_runs.specs.Program.{Stmts, Function}
use Rattle.c_programs.specs.Files.{program_of}
use Rattle.plain_states.specs.Scopes.{is_integer}
use Rattle.plain_normal.specs.Single.{is_single}
use Rattle.plain_test.specs.Plain.{is_plain_file}

-- the variables of the file are integers that no pointer leads to
abbrev pub GlobalsAreIntegers : Type 0
GlobalsAreIntegers = (t : u.Typed) (a : Annotations) → is_plain_file t ≡ true → list_all is_integer (program_of t a).facts.globals ≡ true

-- and so are those of each function
abbrev pub VariablesAreIntegers : Type 0
VariablesAreIntegers =
    (t : u.Typed) (a : Annotations) → is_plain_file t ≡ true → (n : ℕ) (f : Function Stmts) → (program_of t a).functions n ≡ Some f → list_all is_integer f.variables ≡ true

-- ---- expressions

-- one value is left of what comes first in a full expression
abbrev pub SequencedAreSingle : Type 0
SequencedAreSingle = (plain : Plain) (v : t.Value) → sequenced plain v ≡ true → is_single v ≡ true
