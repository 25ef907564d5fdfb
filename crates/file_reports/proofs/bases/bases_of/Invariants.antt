use Rattle.std.proofs.Common.{◌≡◌, ◌++◌, map, drop}
use Rattle.checked_trees.specs.View.{view_checked_program}
use Rattle.typed_unit.specs.View.{view_body, view_typed}
use Rattle.file_reports.specs.Bases.{body_bases_by}
use Rattle.file_reports.proofs.bases.bases_of.Given as goal

-- those so far, and those of the bodies that are left
abbrev pub invariant-loop-body : goal.invariant-loop-body
invariant-loop-body l =
    l.made ++ map (body_bases_by (view_typed l.fn.typed) (view_checked_program l.fn.program) l.fn.file) (map view_body (drop l.body-index l.body-items))
    ≡ map (body_bases_by (view_typed l.fn.typed) (view_checked_program l.fn.program) l.fn.file) (map view_body l.body-items)
