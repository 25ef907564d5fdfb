use Rattle.std.specs.Prelude.{◌+ℤ◌}
use Rattle.same_places.specs.Same.{at}
use Rattle.wide_sums.specs.Sums.{wide_value}
use Rattle.class_links.specs.ClassForms.{number_for, numbers_of}
use Rattle.class_links.proofs.Stepping.{numbers_next, numbers_all}
use Rattle.class_links.proofs.forms.constant_with.Goals as goal

pub loop-part-preserved : goal.loop-part-preserved
loop-part-preserved c =
    let class = at c.args.classes.now in
    let look = number_for c.args.numbers.now.entries in
    numbers_next class look c.args.parts.now c.loop-part.part-index (wide_value c.loop-part.sum) (wide_value c.in_ok-sum.sum) (c.args.constant.now +ℤ numbers_of class look c.args.parts.now) c.loop-part-test.true c.in_ok-sum.ensures c.loop-part.invariant

pub returns : goal.returns
returns c =
    let class = at c.args.classes.now in
    let look = number_for c.args.numbers.now.entries in
    numbers_all class look c.args.parts.now c.loop-part.part-index (wide_value c.loop-part.sum) (c.args.constant.now +ℤ numbers_of class look c.args.parts.now) c.loop-part-test.false c.loop-part.invariant
