use Rattle.std.proofs.Common.{◌∙◌}
use Rattle.std.specs.Int.{w128}
use Rattle.std.proofs.lemmas.Int.{to_z-of_z}
use Rattle.std.specs.Prelude.{◌+ℤ◌}
use Rattle.term_forms.specs.Forms.{signed_number}
use Rattle.clashes.proofs.Adding.{sum_put}
use Rattle.clashes.proofs.sums.put_number.Goals as goal

pub returns : goal.returns
returns c =
    let number = signed_number c.args.turned c.args.number in
    sum_put c.args.sums.now.entries c.insert.new.self.entries c.args.class number c.in_ok-sum.sum (c.in_ok-sum.ensures ∙ (λ i. c.sum_at.ensures i +ℤ signed_number c.args.turned (to_z-of_z w128 c.args.number c.ranges.number i))) c.in_ok-insert.ensures.updates.1 c.in_ok-insert.ensures.updates.2
