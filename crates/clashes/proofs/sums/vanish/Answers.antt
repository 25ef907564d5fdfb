use Rattle.same_places.specs.Same.{at}
use Rattle.clashes.specs.Sums.{sum_in}
use Rattle.clashes.proofs.Adding.{no_sums, between_sums, not_gone, gone_told}
use Rattle.clashes.proofs.sums.vanish.Goals as goal

pub returns-then-not-are_nothing : goal.returns-then-not-are_nothing
returns-then-not-are_nothing c =
    let class_of = at c.args.classes.now in
    let first = c.args.first.now in
    let second = c.args.second.now in
    let e0 = c.new-sums.result.entries in
    let e1 = c.put_parts.new.sums.entries in
    let e2 = c.put_parts-2.new.sums.entries in
    let told = between_sums class_of first second (sum_in e0) (sum_in e1) (sum_in e2) (no_sums e0 c.new-sums.ensures.empty) c.in_ok-put_parts.ensures c.in_ok-put_parts-2.ensures in
    not_gone class_of first second (sum_in e2) told c.if-not-are_nothing.ensures

pub returns : goal.returns
returns c =
    let class_of = at c.args.classes.now in
    let first = c.args.first.now in
    let second = c.args.second.now in
    let e0 = c.new-sums.result.entries in
    let e1 = c.put_parts.new.sums.entries in
    let e2 = c.put_parts-2.new.sums.entries in
    let told = between_sums class_of first second (sum_in e0) (sum_in e1) (sum_in e2) (no_sums e0 c.new-sums.ensures.empty) c.in_ok-put_parts.ensures c.in_ok-put_parts-2.ensures in
    gone_told class_of first second (sum_in e2) told c.are_nothing-answer.result c.if-not-are_nothing.ensures c.are_nothing-answer.ensures
