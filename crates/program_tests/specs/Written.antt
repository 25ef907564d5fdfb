-- With which temporaries functions are written: as many as are set or used, each of the kind that is told of it.
use Rattle.std.specs.Prelude.{ℕ, List, Option, Some, None}
use Rattle.wp_base.specs.declared.kinds.CellKind.{CellKind}
use Rattle.c_runs.specs.Program.{Function, Program}
use Rattle.c_runs.specs.Tree.{Steps, end}
use Rattle.memory_words.specs.Places.{Place}
use Rattle.memory_functions.specs.Words.{Written}
use Rattle.temporary_kinds.specs.Kinds.{or_int, steps_kind, steps_count, results_of}

-- a body, where functions give these, by names of its places
abbrev pub body_written : (results : ℕ → Option CellKind) → (name : Place → List ℕ) → Steps → Written
body_written results name ss = record { temporaries = steps_count ss; temp_kind = λ n. or_int (steps_kind results ss n); name = name }

abbrev pub body_of : Option (Function Steps) → Steps
body_of (Some f) = f.body
body_of None = end

-- each function of a program
abbrev pub all_written : Program Steps → (name : (function : ℕ) → Place → List ℕ) → (function : ℕ) → Written
all_written q name n = body_written (results_of q) (name n) (body_of (q.functions n))
