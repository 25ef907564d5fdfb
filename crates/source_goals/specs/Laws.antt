-- What is so of walks of sources that are met.
use Rattle.std.specs.Prelude.{◌≡◌, ℕ, List}
use Rattle.wp_base.specs.declared.kinds.Kind.{Kind}
use Rattle.c_kinds.specs.declared.models.Machdep.{Machdep}
use Rattle.c_syntax.specs.declared.token.Token.{Token}
use Rattle.logic_sources.specs.Told.{core_of, names_in, setting_of_file, file_goals, IsMet, Source}
use Rattle.logic_sources.specs.Built.{names_of, texts_in}
use Rattle.source_goals.specs.Walked.{AllBodiesClosed, file_goals_by}

-- The walks of its bodies may be made, and what they pass on are its goals.
pub record WalksAreOf (s : Source) (kinds : (function number : ℕ) → Kind) : Type 0 where
  pub closed : AllBodiesClosed (core_of s.typed s.annots) kinds
  pub goals : file_goals_by (setting_of_file s.typed s.annots (names_of s)) s.typed (core_of s.typed s.annots) (texts_in s) (names_in s.typed.file.globals) kinds
      ≡ file_goals s.typed s.annots (names_of s) kinds

abbrev pub WalksAreOfSources : Type 0
WalksAreOfSources =
    (m : Machdep) (ts : List Token) (s : Source) (kinds : (function number : ℕ) → Kind) → IsMet m ts s.tree s.typed s.annots (names_of s) kinds → WalksAreOf s kinds
