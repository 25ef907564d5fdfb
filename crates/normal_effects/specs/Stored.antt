-- A value that was made is stored.
use Rattle.std.specs.Prelude.{ℕ, List}
use Rattle.typed_prog.specs.declared.types.CoreType.{CoreType}
use Rattle.typed_prog.specs.declared.operators.Path.{Path}
use Rattle.typed_prog.specs.Tree as t
use Rattle.c_runs.specs.Program.{Variable}
use Rattle.c_runs.specs.Core.{store, join, one}
use Rattle.c_runs.specs.Plans.{pures}
use Rattle.c_runs.specs.Normal.{Did}

-- behind what the operands of its way become, in which the effect is done and left the value d
abbrev pub stored_behind : List Variable → CoreType → (line : ℕ) → Path → (value d : t.Value) → t.Values → ℕ → Did
stored_behind xs type l path e d es n =
    let y = pures xs d es n in
    record { did = join y.before (one (store type l path (t.more e y.values))); next_temp = y.next_temp }
