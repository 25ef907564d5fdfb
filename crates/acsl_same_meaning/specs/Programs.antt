-- Files that come from a text are spelled as the grammar has it (C11 6.9, ACSL 2).
use Rattle.std.specs.Prelude.{◌≡◌, List, Ok}
use Rattle.c_kinds.specs.declared.models.Machdep.{Machdep}
use Rattle.c_syntax.specs.declared.token.Token.{Token}
use Rattle.c_syntax.specs.Decl as d
use Rattle.c_grammar.specs.Decls.{Lines, SpellsLines}
use Rattle.typed_unit.specs.Unit as u
use Rattle.c_typing.specs.Typing.{typed_program}
use Rattle.acsl_clauses.specs.Items.{contract_items}
use Rattle.acsl_typing.specs.Annotations.{Annotations, file_annotated}
use Rattle.acsl_annotated.specs.Annotated.{file_expanded}
use Rattle.acsl_well_typed.specs.Clauses.{All, ItemBinds}
use Rattle.acsl_same_meaning.specs.Spelled.{IsSpelled, FileIsSpelled}
use Rattle.acsl_binders.specs.Spelled.{BodySpelledBinds}
use Rattle.acsl_same_meaning.specs.Laws.{MeanTheSame}

-- ---- programs

abbrev pub DeclIsSpelled : d.Decl → Type 0
DeclIsSpelled (d.struct_decl x) = Unit {0}
DeclIsSpelled (d.enum_decl x) = Unit {0}
DeclIsSpelled (d.typedef_decl x) = Unit {0}
DeclIsSpelled (d.globals xs) = Unit {0}
DeclIsSpelled (d.function f) = All ItemBinds (contract_items f.contract) × BodySpelledBinds f.body
DeclIsSpelled (d.logic_decl l) = IsSpelled l

abbrev pub ProgramIsSpelled : d.Program → Type 0
ProgramIsSpelled q = All DeclIsSpelled q

-- ---- laws

-- typing leaves annotations as they are spelled
abbrev pub TypedFilesAreSpelled : Type 0
TypedFilesAreSpelled = (m : Machdep) (q : d.Program) (t : u.Typed) → ProgramIsSpelled q → typed_program m q ≡ Ok t → FileIsSpelled t

abbrev pub ProgramsAreSpelled : Type 0
ProgramsAreSpelled = (tokens : List Token) (q : d.Program) (ls : List Lines) → SpellsLines tokens q ls → ProgramIsSpelled q

-- Of each program that tokens spell and that has no fault, each annotation that is expanded means what it means with its calls.
abbrev pub ProgramsMeanTheSame : Type 0
ProgramsMeanTheSame =
    (tokens : List Token) (q : d.Program) (ls : List Lines) (m : Machdep) (t : u.Typed) (a b : Annotations) → SpellsLines tokens q ls → typed_program m q ≡ Ok t
    → file_annotated t ≡ Ok a → file_expanded t ≡ Ok b → MeanTheSame a b
