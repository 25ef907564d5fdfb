use Rattle.std.proofs.Common.{◌≡◌, ◌++◌, map, drop}
use Rattle.file_spellings.specs.Spelled as spec
use Rattle.file_spellings.proofs.names.object_names.Given as goal

-- the names so far, and those of the objects that are left
abbrev pub invariant-loop-object : goal.invariant-loop-object
invariant-loop-object l = l.made ++ map spec.object_name (drop l.object-index l.objects) ≡ map spec.object_name l.objects
