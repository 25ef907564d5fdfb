use Rattle.std.proofs.Common.{rules, FitsSigned, sym, ap, ◌∙◌}
use Rattle.std.specs.Prelude.{pos}
use Rattle.std.specs.Int.{w128}
use Rattle.std.specs.Ordering.{int_eq}
use Rattle.std.proofs.lemmas.Int.{to_z-of_z}
use Rattle.term_forms.specs.Forms.{tree_of}
use Rattle.term_rests.proofs.Shapes.{nothing_told}
use Rattle.linear_prover.proofs.literals.is_nothing.Goals as goal

pub returns-in-Some : goal.returns-in-Some
returns-in-Some c =
    let given : FitsSigned w128 c.in-Some.number = search rules in
    nothing_told (tree_of c.args.table.now) c.node_at-node.result.now.kids.items (tree_of c.args.table.now c.args.place) c.node_at-node.result.now.head c.in-Some.number c.are_equal.result (c.are_equal.ensures ∙ ap (λ z. int_eq z (pos 0)) (to_z-of_z w128 c.in-Some.number given)) c.node_at-node.ensures.head c.node_at-node.ensures.kids (search rules) (sym c.number_in.ensures ∙ c.in-Some.is)
