use Rattle.std.proofs.Common.{◌≡◌}
use Rattle.c_syntax.specs.View.{view_ctype}
use Rattle.acsl_names.specs.Names as spec
use Rattle.acsl_names.proofs.names.Around.tags_are_before.Given as goal

-- what is left has the tag of the whole
abbrev pub invariant-loop-name : goal.invariant-loop-name
invariant-loop-name l = spec.tags_before (spec.view_around l.self) l.line (view_ctype l.inner) ≡ spec.tags_before (spec.view_around l.self) l.line (view_ctype l.ty)
