use Rattle.same_places.specs.Same.{at}
use Rattle.wide_sums.specs.Sums.{wide_value}
use Rattle.class_links.specs.ClassForms.{number_for, times_of}
use Rattle.class_links.proofs.Stepping.{starts_at, times_next, times_all}
use Rattle.class_links.proofs.forms.times_of.Goals as goal

pub loop-part-init : goal.loop-part-init
loop-part-init c = starts_at (wide_value c.of-sum.result) (times_of (at c.args.classes.now) (number_for c.args.numbers.now.entries) c.args.parts.now c.args.class) c.of-sum.ensures

pub loop-part-preserved : goal.loop-part-preserved
loop-part-preserved c =
    let class = at c.args.classes.now in
    let look = number_for c.args.numbers.now.entries in
    times_next class look c.args.parts.now c.loop-part.part-index (wide_value c.loop-part.sum) c.args.class (wide_value c.in_ok-sum.sum) (times_of class look c.args.parts.now c.args.class) c.loop-part-test.true c.in_ok-sum.ensures c.loop-part.invariant

pub returns : goal.returns
returns c =
    let class = at c.args.classes.now in
    let look = number_for c.args.numbers.now.entries in
    times_all class look c.args.parts.now c.loop-part.part-index (wide_value c.loop-part.sum) c.args.class (times_of class look c.args.parts.now c.args.class) c.loop-part-test.false c.loop-part.invariant
