use Rattle.std.proofs.Common.{◌≡◌}
use Rattle.c_syntax.specs.View.{view_ctype}
use Rattle.c_scopes.specs.Meanings.{named}
use Rattle.c_scopes.proofs.Leveling.{around_all}
use Rattle.c_scopes.proofs.meanings.named.Given as goal

-- what stands around what is left makes the whole
abbrev pub invariant-loop-head : goal.invariant-loop-head
invariant-loop-head l = around_all l.is_array l.levels.items l.is_const (named l.file l.line (view_ctype l.inner)) ≡ named l.file l.line (view_ctype l.fn.ty)
