use Rattle.std.proofs.Common.{◌≡◌, map, drop}
use Rattle.c_syntax.specs.View.{view_var}
use Rattle.c_decls.specs.Each.{each}
use Rattle.c_decls.specs.Enums.{item, items}
use Rattle.c_decls.proofs.enums.declare_items.Given as goal

-- what is there, and the enumerators that are left, make the whole
abbrev pub invariant-loop-decl : goal.invariant-loop-decl
invariant-loop-decl l = each item (l.context, l.counted) (map view_var (drop l.decl-index l.decls)) ≡ items l.fn.context (map view_var l.fn.decls)
