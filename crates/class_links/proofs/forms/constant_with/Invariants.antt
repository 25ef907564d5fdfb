use Rattle.std.proofs.Common.{◌≡◌, drop}
use Rattle.std.specs.Prelude.{◌+ℤ◌}
use Rattle.same_places.specs.Same.{at}
use Rattle.wide_sums.specs.Sums.{wide_value}
use Rattle.class_links.specs.ClassForms.{number_for, numbers_of}
use Rattle.class_links.proofs.forms.constant_with.Given as goal

abbrev pub invariant-loop-part : goal.invariant-loop-part
invariant-loop-part l = wide_value l.sum +ℤ numbers_of (at l.classes) (number_for l.numbers.entries) (drop l.part-index l.parts) ≡ l.constant +ℤ numbers_of (at l.classes) (number_for l.numbers.entries) l.parts
