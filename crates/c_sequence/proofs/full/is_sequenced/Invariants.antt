use Rattle.std.proofs.Common.{◌≡◌}
use Rattle.typed_prog.specs.View.{view_value}
use Rattle.c_sequence.specs.Sequence.{plain_of, sequenced}
use Rattle.c_sequence.proofs.full.is_sequenced.Given as goal

abbrev pub invariant-loop-rest : goal.invariant-loop-rest
invariant-loop-rest l = sequenced (plain_of l.globals l.locals) (view_value l.rest) ≡ sequenced (plain_of l.globals l.locals) (view_value l.value)
