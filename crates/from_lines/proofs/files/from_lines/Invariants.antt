use Rattle.std.proofs.Common.{◌≡◌, [], map, drop}
use Rattle.c_syntax.specs.View.{view_decl}
use Rattle.from_lines.specs.Froms.{in_decls}
use Rattle.from_lines.proofs.files.from_lines.Given as goal

abbrev pub invariant-loop-decl : goal.invariant-loop-decl
invariant-loop-decl l = in_decls (map view_decl (drop l.decl-index l.program.decls)) l.lines.items ≡ in_decls (map view_decl l.program.decls) []
