use Rattle.std.proofs.Common.{◌≡◌, ◌++◌, drop, map}
use Rattle.std.specs.Option.{option_map}
use Rattle.program_trees.specs.Files.{at}
use Rattle.program_trees.specs.View.{view_function}
use Rattle.typed_unit.specs.View.{view_part}
use Rattle.binder_names.specs.Tables.{decls_named}
use Rattle.binder_tables.specs.View.{view_all_known, view_entries}
use Rattle.binder_tables.proofs.files.put_decls.Given as goal

abbrev pub invariant-loop-place : goal.invariant-loop-place
invariant-loop-place l =
    view_entries l.out.items ++ decls_named (view_all_known l.known) (at (map (option_map view_function) l.functions)) (map view_part (drop l.place l.parts))
    ≡ view_entries l.initial.out.items ++ decls_named (view_all_known l.known) (at (map (option_map view_function) l.functions)) (map view_part l.parts)
