-- What typing makes of a text, with its annotations, is in order for programs with blocks and pointers.
use Rattle.std.specs.Prelude.{◌≡◌, true, List, Ok}
use Rattle.c_kinds.specs.declared.models.Machdep.{Machdep}
use Rattle.c_syntax.specs.declared.token.Token.{Token}
use Rattle.c_syntax.specs.Decl as d
use Rattle.c_grammar.specs.Decls.{Lines, SpellsLines}
use Rattle.c_typing.specs.Typing.{typed_program}
use Rattle.typed_unit.specs.Unit as u
use Rattle.acsl_typing.specs.Annotations.{Annotations}
use Rattle.acsl_annotated.specs.Annotated.{file_expanded}
use Rattle.plain_programs.specs.Told.{program_of}
use Rattle.plain_programs.specs.Files.{BodiesStand}
use Rattle.c_runs.specs.Normal.{normal}
use Rattle.c_runs.specs.Adding.{add_checks}
use Rattle.typed_runs.specs.Fitting.{FitsProgram}
use Rattle.typed_normal.specs.Spelled.{IsKindedProgram}
use Rattle.kinded_programs.specs.Files.{BodiesAreTyped, ValuesStand}
use Rattle.kinded_files.specs.Holding.{constants_hold}

-- A typed file with the annotations that typing made of it; the program is one that tokens spell.
pub record IsOfText (m : Machdep) (ts : List Token) (p : d.Program) (t : u.Typed) (a : Annotations) : Type 0 where
  pub lines : List Lines
  pub spelled : SpellsLines ts p lines
  pub typed : typed_program m p ≡ Ok t
  pub annotated : file_expanded t ≡ Ok a

-- each body is typed in declarations that are in the program, with layouts, and objects are short enough for pointers to be apart
abbrev pub BodiesOfTextsAreTyped : Type 0
BodiesOfTextsAreTyped = (m : Machdep) (ts : List Token) (p : d.Program) (t : u.Typed) (a : Annotations) → IsOfText m ts p t a → BodiesAreTyped t a

-- each body keeps its scopes
abbrev pub ScopesOfTextsStand : Type 0
ScopesOfTextsStand = (m : Machdep) (ts : List Token) (p : d.Program) (t : u.Typed) (a : Annotations) → IsOfText m ts p t a → BodiesStand (program_of t a)

-- Variables are named in scope, ways stay in the variables that they begin at, addresses are those of variables in blocks, and null pointers have known types;
-- so the values stand where the test of the file shows that constants are numbers of their kinds.
abbrev pub ValuesOfTextsStand : Type 0
ValuesOfTextsStand =
    (m : Machdep) (ts : List Token) (p : d.Program) (t : u.Typed) (a : Annotations) → IsOfText m ts p t a → constants_hold t ≡ true → ValuesStand t a

-- So the program has the kinds that are asked of one with blocks and pointers,
abbrev pub KindedTextsAreKinded : Type 0
KindedTextsAreKinded =
    (m : Machdep) (ts : List Token) (p : d.Program) (t : u.Typed) (a : Annotations) → IsOfText m ts p t a → constants_hold t ≡ true → IsKindedProgram (program_of t a)

-- and its core program, with its checks, fits what the laws on runs ask.
abbrev pub KindedTextsFit : Type 0
KindedTextsFit =
    (m : Machdep) (ts : List Token) (p : d.Program) (t : u.Typed) (a : Annotations) → IsOfText m ts p t a → constants_hold t ≡ true
    → FitsProgram (add_checks (normal (program_of t a)))
