use Rattle.std.proofs.Common.{◌≡◌, ◌++◌, length, map}
use Rattle.c_syntax.specs.Decl as d
use Rattle.c_syntax.specs.View.{view_decl, view_logic}
use Rattle.parse_file.proofs.decls.logic_decls.Given as goal

-- the definitions so far, and those that are to come
abbrev pub invariant-loop-logic : goal.invariant-loop-logic
invariant-loop-logic l = record {
  count : l.logic-iterator.rest.len ≡ length l.logic-iterator.rest.items;
  so_far : map view_decl l.decls ++ map d.logic_decl (map view_logic l.logic-iterator.rest.items) ≡ map d.logic_decl (map view_logic l.fn.logics);
}
