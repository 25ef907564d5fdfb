use Rattle.std.proofs.Common.{◌≡◌, drop, map}
use Rattle.c_syntax.specs.View.{view_decl}
use Rattle.c_typing.specs.Typing.{declarations}
use Rattle.c_typing.specs.View.{view_facts, view_unit}
use Rattle.c_typing.proofs.typing.declarations.Given as goal

-- those to come, behind those that are declared, are all
abbrev pub invariant-loop-i : goal.invariant-loop-i
invariant-loop-i l = declarations (view_facts l.facts) (view_unit l.unit) (map view_decl (drop l.i l.decls)) ≡ declarations (view_facts l.facts) (view_unit l.initial.unit) (map view_decl l.decls)
