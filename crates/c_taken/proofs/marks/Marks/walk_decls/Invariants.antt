use Rattle.std.proofs.Common.{◌≡◌, drop, map}
use Rattle.c_syntax.specs.View.{view_decl}
use Rattle.c_taken.specs.Walks.{decls_walked}
use Rattle.c_taken.proofs.marks.Marks.walk_decls.Given as goal

-- with those that are left, all are gone through
abbrev pub invariant-loop-decl : goal.invariant-loop-decl
invariant-loop-decl l = decls_walked (map view_decl (drop l.decl-index l.decls)) l.self ≡ decls_walked (map view_decl l.decls) l.initial.self
