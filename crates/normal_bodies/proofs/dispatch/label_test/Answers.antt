use Rattle.std.proofs.Common.{rules, FitsSigned, to_z, of_z, ap, ◌∙◌}
use Rattle.std.specs.Int.{w128}
use Rattle.std.proofs.lemmas.Int.{to_z-of_z}
use Rattle.typed_prog.specs.View.{view_value}
use Rattle.qed_terms.specs.Operators.{is_equal}
use Rattle.normal_bodies.proofs.Dispatching.{known_test}
use Rattle.normal_bodies.proofs.dispatch.label_test.Goals as goal

pub returns-in-Constant : goal.returns-in-Constant
returns-in-Constant c =
    let fits : FitsSigned w128 c.in-Constant.known = search rules in
    let fits' : FitsSigned w128 c.args.number = search rules in
    let same = ap (λ y. is_equal y (to_z w128 (of_z w128 c.args.number))) (to_z-of_z w128 c.in-Constant.known fits) ∙ ap (is_equal c.in-Constant.known) (to_z-of_z w128 c.args.number fits') in
    known_test c.args.value.now.node c.args.value.now.ty c.args.value.now.line c.in-Constant.known c.args.number c.is_same.result (view_value c.truth.result) c.in-Constant.is
    (c.is_same.ensures ∙ same) c.truth.ensures
