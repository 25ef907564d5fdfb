use Rattle.std.proofs.Common.{pos, ◌+ℤ◌, ◌*ℤ◌, ◌∙◌, FitsSigned, rules}
use Rattle.std.specs.Int.{w128}
use Rattle.std.proofs.lemmas.Int.{to_z-of_z}
use Rattle.wide_sums.proofs.Doubling.{turns_add}
use Rattle.wide_sums.proofs.wide.Wide.plus.Goals as goal

pub returns-in-Some-checked_add : goal.returns-in-Some-checked_add
returns-in-Some-checked_add c =
    let low : FitsSigned w128 c.add_low-sum.result.low = search rules in
    let turns : FitsSigned w128 c.in-Some-checked_add.turns = search rules in
    let turn : FitsSigned w128 c.add_low-sum.result.turns = search rules in
    let more : FitsSigned w128 c.in-Some.turns = search rules in
    let low1 : FitsSigned w128 c.args.self.low = search rules in
    let low2 : FitsSigned w128 c.args.other.low = search rules in
    let turns1 : FitsSigned w128 c.args.self.turns = search rules in
    let turns2 : FitsSigned w128 c.args.other.turns = search rules in
    let l = to_z-of_z w128 c.add_low-sum.result.low low in
    let t = to_z-of_z w128 c.in-Some-checked_add.turns turns in
    let sums = simp to_z-of_z at c.add_low-sum.ensures in
    let first = simp to_z-of_z at c.in-Some.ensures in
    let second = simp to_z-of_z at c.in-Some-checked_add.ensures in
    (λ i. l i +ℤ t i *ℤ pos 340282366920938463463374607431768211456)
    ∙ turns_add c.add_low-sum.result.low c.add_low-sum.result.turns c.args.self.low c.args.self.turns c.args.other.low c.args.other.turns c.in-Some.turns c.in-Some-checked_add.turns
    sums first.1 second.1
