use Rattle.std.proofs.Common.{◌≡◌, ◌++◌, drop}
use Rattle.slot_names.specs.Bases.{pairs_of}
use Rattle.slot_names.proofs.bases.push_file.Given as goal

abbrev pub invariant-loop-name : goal.invariant-loop-name
invariant-loop-name l = l.bases.items ++ pairs_of (drop l.name-index l.file) ≡ l.initial.bases.items ++ pairs_of l.file
