use Rattle.std.proofs.Common.{◌≡◌}
use Rattle.typed_prog.specs.View.{view_value}
use Rattle.c_decls.specs.Constants.{is_address}
use Rattle.c_decls.proofs.constants.is_address.Given as goal

-- the operand that is left tells
abbrev pub invariant-loop-value : goal.invariant-loop-value
invariant-loop-value l = is_address l.or_null (view_value l.value) ≡ is_address l.fn.or_null (view_value l.fn.value)
