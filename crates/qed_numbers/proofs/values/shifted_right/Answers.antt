use Rattle.std.proofs.Common.{◌/◌, ◌^◌, ◌∙◌, ap, rules, FitsSigned}
use Rattle.std.specs.Int.{w128}
use Rattle.std.proofs.lemmas.Int.{to_z-of_z}
use Rattle.qed_numbers.proofs.Shifts.{shift_is}
use Rattle.qed_numbers.proofs.values.shifted_right.Goals as goal

pub returns : goal.returns
returns c =
    let b = c.bits_of-bits.result in
    let z = c.number_of.result in
    let fits : FitsSigned w128 z = search rules in
    let v = rw (to_z-of_z w128 c.args.value c.ranges.value) at c.bits_of-bits.ensures.is in
    let n = rw (to_z-of_z w128 c.args.by c.ranges.by) at c.places.ensures in
    to_z-of_z w128 z fits ∙ shift_is b (b.ones / 2 ^ c.places.result) c.args.value c.args.by z v c.bits_of-bits.ensures.small (ap (λ i. b.ones / 2 ^ i) n) c.number_of.ensures
