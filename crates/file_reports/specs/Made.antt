-- The report that is made of a source.
use Rattle.std.specs.Prelude.{◌≡◌, ℕ, true, false, List, Option, Some, None}
use Rattle.wp_base.specs.declared.kinds.Kind.{Kind}
use Rattle.c_kinds.specs.declared.models.Machdep.{Machdep}
use Rattle.c_syntax.specs.declared.token.Token.{Token}
use Rattle.c_syntax.specs.Decl as d
use Rattle.typed_unit.specs.Unit as u
use Rattle.acsl_typing.specs.Annotations.{Annotations}
use Rattle.from_lines.specs.Froms.{from_lines}
use Rattle.plain_goals.specs.Files.{file_goals, names_in, setting_of_file}
use Rattle.plain_goals.specs.Laws.{IsMet}
use Rattle.plain_sources.specs.Sources.{Source}
use Rattle.plain_reports.specs.Told.{names_of, is_verified}
use Rattle.wp_words.specs.Command.{Wanted}
use Rattle.file_reports.specs.declared.reports.FileReport.{FileReport}
use Rattle.file_reports.specs.Lines.{IsReport}

abbrev pub source_by : d.Program → u.Typed → Annotations → Source
source_by p t a = record { tree = p; typed = t; annots = a }

-- of a verified source its report, with whichever kinds for temporaries it is met; none of another
abbrev pub Makes : Wanted → Source → Option FileReport → Type 0
Makes wanted s None = is_verified s ≡ false
Makes wanted s (Some r) =
    (is_verified s ≡ true)
    × ((m : Machdep) (ts : List Token) (kinds : (function number : ℕ) → Kind) → IsMet m ts s.tree s.typed s.annots (names_of s) kinds
    → IsReport (setting_of_file s.typed s.annots (names_of s)) wanted s.typed (names_in s.typed.file.globals) (from_lines s.tree) (file_goals s.typed s.annots (names_of s) kinds) r.text r.all_proved)
