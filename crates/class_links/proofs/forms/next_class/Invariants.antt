use Rattle.std.proofs.Common.{take}
use Rattle.same_places.specs.Same.{at}
use Rattle.class_links.specs.ClassForms.{number_for, times_of, IsNext}
use Rattle.class_links.proofs.forms.next_class.Given as goal

abbrev pub invariant-loop-part : goal.invariant-loop-part
invariant-loop-part l = IsNext (times_of (at l.classes) (number_for l.numbers.entries) (take l.part-index l.parts)) l.from l.best
