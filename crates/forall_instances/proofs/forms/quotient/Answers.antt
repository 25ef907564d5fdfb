use Rattle.std.specs.Int.{w128}
use Rattle.std.proofs.lemmas.Int.{to_z-of_z}
use Rattle.forall_instances.proofs.Parts.{quotient_is}
use Rattle.forall_instances.proofs.forms.quotient.Goals as goal

pub returns : goal.returns
returns c =
    let a = to_z-of_z w128 c.args.value c.ranges.value in
    let b = to_z-of_z w128 c.args.by c.ranges.by in
    quotient_is c.checked_div.result c.args.value c.args.by c.ranges.by c.requires (rw (a, b) at c.checked_div.ensures)
