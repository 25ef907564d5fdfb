use Rattle.std.proofs.Common.{◌≡◌, ◌++◌, drop}
use Rattle.acsl_typing.specs.Annotations.{none_of}
use Rattle.acsl_typing.proofs.files.at_start.Given as goal

abbrev pub invariant-loop-i : goal.invariant-loop-i
invariant-loop-i l = l.contracted.items ++ none_of (drop l.i l.file.functions) ≡ none_of l.file.functions
