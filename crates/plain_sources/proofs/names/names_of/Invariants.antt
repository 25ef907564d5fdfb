use Rattle.std.proofs.Common.{◌≡◌, ◌++◌, drop}
use Rattle.plain_goals.specs.Files.{names_in}
use Rattle.plain_sources.proofs.names.names_of.Given as goal

-- the names so far, and those of the objects that are left
abbrev pub invariant-loop-object : goal.invariant-loop-object
invariant-loop-object l = l.made ++ names_in (drop l.object-index l.objects) ≡ names_in l.objects
