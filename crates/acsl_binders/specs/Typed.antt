-- Typing keeps annotations as they are spelled, so each quantifier of a typed file binds a name, and the ends of its ranges are integers.
use Rattle.std.specs.Prelude.{◌≡◌, true, List, Ok}
use Rattle.c_kinds.specs.declared.models.Machdep.{Machdep}
use Rattle.c_syntax.specs.declared.token.Token.{Token}
use Rattle.c_syntax.specs.Stmt as p
use Rattle.c_syntax.specs.Decl as d
use Rattle.c_grammar.specs.Decls.{Lines, SpellsLines}
use Rattle.c_variables.specs.declared.context.Context.{Context}
use Rattle.typed_unit.specs.Stmt as s
use Rattle.typed_unit.specs.Unit as u
use Rattle.c_stmts.specs.Statements.{stmt}
use Rattle.c_typing.specs.Typing.{typed_program}
use Rattle.acsl_rules.specs.Laws.{Holds}
use Rattle.acsl_typing.specs.Annotations.{file_annotated}
use Rattle.acsl_well_typed.specs.Files.{FileFits, StmtBinds, FileBinds}
use Rattle.acsl_binders.specs.Spelled.{SpelledBinds, ProgramBinds}

abbrev pub TypedStatementsBind : Type 0
TypedStatementsBind = (c : Context) (x : p.Stmt) (y : s.Stmt) (behind : Context) → stmt c x ≡ Ok (y, behind) → SpelledBinds x → StmtBinds y

abbrev pub TypedProgramsBind : Type 0
TypedProgramsBind = (m : Machdep) (p : d.Program) (t : u.Typed) → typed_program m p ≡ Ok t → ProgramBinds p → FileBinds t

-- what typing makes of the annotations of a program that is spelled is well typed, the ends of ranges too
abbrev pub SpelledProgramsAreWellTyped : Type 0
SpelledProgramsAreWellTyped = (ts : List Token) (p : d.Program) (ls : List Lines) (m : Machdep) (t : u.Typed)
    → SpellsLines ts p ls → typed_program m p ≡ Ok t → Holds (FileFits true t) (file_annotated t)
