use Rattle.std.proofs.Common.{◌≡◌, drop}
use Rattle.plain_test.specs.Plain as spec
use Rattle.plain_test.proofs.files.are_plain_objects.Given as goal

abbrev pub invariant-loop-i : goal.invariant-loop-i
invariant-loop-i l = spec.are_plain_objects l.plain l.i (drop l.i l.objects) ≡ spec.are_plain_objects l.plain 0 l.objects
