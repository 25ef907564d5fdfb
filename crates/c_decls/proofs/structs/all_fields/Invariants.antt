use Rattle.std.proofs.Common.{◌≡◌, map, drop}
use Rattle.c_syntax.specs.View.{view_var}
use Rattle.c_decls.specs.Each.{each}
use Rattle.c_decls.specs.Structs.{with_field, all_fields}
use Rattle.c_decls.proofs.structs.all_fields.Given as goal

-- what is there, and the fields that are left, make the whole
abbrev pub invariant-loop-decl : goal.invariant-loop-decl
invariant-loop-decl l = each (with_field l.context) l.fields (map view_var (drop l.decl-index l.decls)) ≡ all_fields l.fn.context (map view_var l.fn.decls)
