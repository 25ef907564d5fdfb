-- What the tests say.
use Rattle.std.specs.Prelude.{◌≡◌}
use Rattle.c_programs.specs.Files.{program_of}
use Rattle.logic_sources.specs.Told.{core_of, names_in, Source, table_in}
use Rattle.logic_sources.specs.Built.{is_verified}
use Rattle.verified_sources.specs.Tests.{is_verified_by}

-- A source is verified exactly where what is made of it passes.
abbrev pub TestsAreOfSources : Type 0
TestsAreOfSources = (s : Source) → is_verified s ≡ is_verified_by s.typed (program_of s.typed s.annots) (core_of s.typed s.annots) (table_in s) (names_in s.typed.file.globals)
