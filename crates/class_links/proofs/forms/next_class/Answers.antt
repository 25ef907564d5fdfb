use Rattle.std.proofs.Common.{pos, ◌+◌, get_or, take, sym}
use Rattle.std.specs.Prelude.{◌+ℤ◌}
use Rattle.same_places.specs.Same.{at}
use Rattle.class_links.specs.ClassForms.{number_for, part_at, times_of}
use Rattle.class_links.proofs.Forming.{times_more, next_same, next_whole}
use Rattle.class_links.proofs.forms.next_class.Goals as goal

pub loop-part-preserved : goal.loop-part-preserved
loop-part-preserved c =
    let class = at c.args.classes.now in
    let look = number_for c.args.numbers.now.entries in
    let ps = c.args.parts.now in
    let i = c.loop-part.part-index in
    let f = times_of class look (take i ps) in
    let g = part_at class look (get_or ps i (0, pos 0)) in
    next_same (λ d. f d +ℤ g d) (times_of class look (take (i + 1) ps)) c.args.from c.nearer-best.result (λ d. sym (times_more class look ps i d c.loop-part-test.true)) (c.nearer-best.ensures f g c.loop-part.invariant c.atom_class.ensures.class)

pub returns : goal.returns
returns c =
    let class = at c.args.classes.now in
    let look = number_for c.args.numbers.now.entries in
    next_whole class look c.args.parts.now c.loop-part.part-index c.args.from c.loop-part.best c.loop-part-test.false c.loop-part.invariant
