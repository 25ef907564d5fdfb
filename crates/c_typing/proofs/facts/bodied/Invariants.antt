use Rattle.std.proofs.Common.{◌≡◌, [], drop, map}
use Rattle.c_syntax.specs.View.{view_decl}
use Rattle.c_typing.specs.Typing.{bodied}
use Rattle.c_typing.proofs.facts.bodied.Given as goal

abbrev pub invariant-loop-i : goal.invariant-loop-i
invariant-loop-i l = bodied l.names (map view_decl (drop l.i l.decls)) ≡ bodied [] (map view_decl l.decls)
