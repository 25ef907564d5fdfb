use Rattle.std.proofs.Common.{◌≡◌, drop}
use Rattle.std.specs.Prelude.{◌+ℤ◌}
use Rattle.same_places.specs.Same.{at}
use Rattle.wide_sums.specs.Sums.{wide_value}
use Rattle.class_links.specs.ClassForms.{number_for, times_of}
use Rattle.class_links.proofs.forms.times_of.Given as goal

abbrev pub invariant-loop-part : goal.invariant-loop-part
invariant-loop-part l = wide_value l.sum +ℤ times_of (at l.classes) (number_for l.numbers.entries) (drop l.part-index l.parts) l.class ≡ times_of (at l.classes) (number_for l.numbers.entries) l.parts l.class
