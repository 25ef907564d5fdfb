use Rattle.std.proofs.Common.{pos, ◌+ℤ◌, ◌*ℤ◌, ap, ◌∙◌, FitsSigned, rules}
use Rattle.std.specs.Int.{w128}
use Rattle.std.proofs.lemmas.Int.{to_z-of_z}
use Rattle.term_forms.specs.Forms.{signed_number}
use Rattle.clashes.proofs.Adding.{turns_more}
use Rattle.clashes.proofs.totals.Total.with.Goals as goal

pub returns-in-Some : goal.returns-in-Some
returns-in-Some c =
    let low : FitsSigned w128 c.step-next.result.low = search rules in
    let turns : FitsSigned w128 c.in-Some.turns = search rules in
    let turn : FitsSigned w128 c.step-next.result.turns = search rules in
    let low1 : FitsSigned w128 c.args.self.low = search rules in
    let turns1 : FitsSigned w128 c.args.self.turns = search rules in
    let l = to_z-of_z w128 c.step-next.result.low low in
    let t = to_z-of_z w128 c.in-Some.turns turns in
    let first = simp to_z-of_z at c.step-next.ensures in
    let sums = first ∙ ap (λ z. c.args.self.low +ℤ signed_number c.args.turned z) (to_z-of_z w128 c.args.number c.ranges.number) in
    let all = simp to_z-of_z at c.in-Some.ensures in
    (λ i. l i +ℤ t i *ℤ pos 340282366920938463463374607431768211456)
    ∙ turns_more c.args.self.low c.args.self.turns c.step-next.result.low c.step-next.result.turns c.in-Some.turns (signed_number c.args.turned c.args.number) sums all.1
