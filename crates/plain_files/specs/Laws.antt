-- What typing makes of a text, with its annotations, is in order for programs over plain integers.
use Rattle.std.specs.Prelude.{◌≡◌, true, List, Ok}
use Rattle.c_kinds.specs.declared.models.Machdep.{Machdep}
use Rattle.c_syntax.specs.declared.token.Token.{Token}
use Rattle.c_syntax.specs.Decl as d
use Rattle.c_grammar.specs.Decls.{Lines, SpellsLines}
use Rattle.c_typing.specs.Typing.{typed_program}
use Rattle.typed_unit.specs.Unit as u
use Rattle.acsl_typing.specs.Annotations.{Annotations}
use Rattle.acsl_annotated.specs.Annotated.{file_expanded}
use Rattle.plain_programs.specs.Told.{program_of}
use Rattle.c_runs.specs.Normal.{normal}
use Rattle.c_runs.specs.Adding.{add_checks}
use Rattle.plain_runs.specs.Fitting.{FitsProgram}
use Rattle.plain_normal.specs.Plain.{IsPlainProgram}
use Rattle.plain_test.specs.Plain.{is_plain_file}
use Rattle.plain_programs.specs.Files.{BodiesAreTyped, BodiesStand}
use Rattle.plain_normal.specs.Jumps.{BodiesJump}

-- A typed file that is plain, with the annotations that typing made of it; the program is one that tokens spell.
pub record IsOfText (m : Machdep) (ts : List Token) (p : d.Program) (t : u.Typed) (a : Annotations) : Type 0 where
  pub lines : List Lines
  pub spelled : SpellsLines ts p lines
  pub typed : typed_program m p ≡ Ok t
  pub annotated : file_expanded t ≡ Ok a
  pub plain : is_plain_file t ≡ true

-- each body is typed in declarations that are in the program
abbrev pub BodiesOfTextsAreTyped : Type 0
BodiesOfTextsAreTyped = (m : Machdep) (ts : List Token) (p : d.Program) (t : u.Typed) (a : Annotations) → IsOfText m ts p t a → BodiesAreTyped t a

-- each body keeps its scopes
abbrev pub BodiesOfTextsStand : Type 0
BodiesOfTextsStand = (m : Machdep) (ts : List Token) (p : d.Program) (t : u.Typed) (a : Annotations) → IsOfText m ts p t a → BodiesStand (program_of t a)

-- in each body jumps stand inside of what they leave
abbrev pub BodiesOfTextsJump : Type 0
BodiesOfTextsJump = (m : Machdep) (ts : List Token) (p : d.Program) (t : u.Typed) (a : Annotations) → IsOfText m ts p t a → BodiesJump (program_of t a)

-- So the program is one over plain integers,
abbrev pub PlainTextsArePlain : Type 0
PlainTextsArePlain = (m : Machdep) (ts : List Token) (p : d.Program) (t : u.Typed) (a : Annotations) → IsOfText m ts p t a → IsPlainProgram (program_of t a)

-- and its core program, with its checks, fits what the laws on runs ask.
abbrev pub PlainTextsFit : Type 0
PlainTextsFit = (m : Machdep) (ts : List Token) (p : d.Program) (t : u.Typed) (a : Annotations) → IsOfText m ts p t a → FitsProgram (add_checks (normal (program_of t a)))
