use Rattle.std.proofs.Common.{◌-◌, ◌^◌}
use Rattle.same_places.specs.Same.{at}
use Rattle.class_links.specs.ClassForms.{number_for, times_of, IsFormBelow}
use Rattle.class_links.proofs.forms.class_form.Given as goal

abbrev pub invariant-loop-class : goal.invariant-loop-class
invariant-loop-class l = IsFormBelow (times_of (at l.classes) (number_for l.numbers.entries) l.parts) l.form.items l.from

abbrev pub decreases-loop-class : goal.decreases-loop-class
decreases-loop-class l = 2 ^ 64 - l.from
