-- What is promised of programs over plain integers.
use Rattle.c_runs.specs.Program.{Stmts, Program}
use Rattle.c_runs.specs.Core.{Cores}
use Rattle.c_runs.specs.Normal.{normal}
use Rattle.c_runs.specs.Adding.{add_checks}
use Rattle.plain_runs.specs.Fitting.{FitsProgram}
use Rattle.plain_normal.specs.Plain.{IsPlainProgram}
use Rattle.plain_normal.specs.Typed.{ProgramIsTyped}

-- The core program is one over plain integers too: each expression is typed, each temporary has the kind of what is put into it, and variables keep their
-- scopes.
abbrev pub PlainProgramsAreTyped : Type 0
PlainProgramsAreTyped = (q : Program Stmts) → IsPlainProgram q → ProgramIsTyped (normal q)

-- A core program whose expressions are typed fits, with its checks, what the laws on runs ask.
abbrev pub TypedProgramsFit : Type 0
TypedProgramsFit = (q : Program Cores) → ProgramIsTyped q → FitsProgram (add_checks q)

-- So the core program with its checks fits.
abbrev pub PlainProgramsFit : Type 0
PlainProgramsFit = (q : Program Stmts) → IsPlainProgram q → FitsProgram (add_checks (normal q))
