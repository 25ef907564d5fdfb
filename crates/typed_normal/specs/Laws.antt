-- What is promised of spelled programs with blocks and pointers.
use Rattle.c_runs.specs.Program.{Stmts, Program}
use Rattle.c_runs.specs.Core.{Cores}
use Rattle.c_runs.specs.Normal.{normal}
use Rattle.c_runs.specs.Adding.{add_checks}
use Rattle.typed_runs.specs.Fitting.{FitsProgram}
use Rattle.typed_normal.specs.Spelled.{IsKindedProgram}
use Rattle.typed_normal.specs.Typed.{ProgramIsTyped}
use Rattle.typed_normal.specs.Order.{AllSetFirst}

-- In the core program each expression is typed, each temporary has the kind of what is put into it, and variables keep their scopes.
abbrev pub KindedProgramsAreTyped : Type 0
KindedProgramsAreTyped = (q : Program Stmts) → IsKindedProgram q → ProgramIsTyped (normal q)

-- In the core program of any program temporaries are set before they are used.
abbrev pub TemporariesAreSetFirst : Type 0
TemporariesAreSetFirst = (q : Program Stmts) → AllSetFirst (add_checks (normal q))

-- A core program whose expressions are typed, and whose temporaries are set first, fits, with its checks, what the laws on runs ask.
abbrev pub TypedProgramsFit : Type 0
TypedProgramsFit = (q : Program Cores) → ProgramIsTyped q → AllSetFirst (add_checks q) → FitsProgram (add_checks q)

-- So the core program with its checks fits.
abbrev pub KindedProgramsFit : Type 0
KindedProgramsFit = (q : Program Stmts) → IsKindedProgram q → FitsProgram (add_checks (normal q))
