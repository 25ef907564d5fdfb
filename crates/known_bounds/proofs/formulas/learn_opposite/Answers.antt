use Rattle.std.proofs.Common.{false}
use Rattle.known_bounds.proofs.Values.{relation_of}
use Rattle.known_bounds.proofs.formulas.learn_opposite.Goals as goal

pub returns-in-Rel-clause-kept : goal.returns-in-Rel-clause-kept
returns-in-Rel-clause-kept c w env kept e =
    c.learn_relation.ensures.kept w env kept (relation_of w env c.args.formula.now c.in-Rel.op c.in-Rel.terms c.as_slice.result.now false c.in-Rel.is c.as_slice.ensures e)
