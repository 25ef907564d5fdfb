use Rattle.std.proofs.Common.{false}
use Rattle.known_bounds.proofs.Values.{of_relation}
use Rattle.known_bounds.proofs.formulas.is_opposite_told.Goals as goal

pub returns-in-Rel : goal.returns-in-Rel
returns-in-Rel c so w env kept = of_relation w env c.args.formula.now c.in-Rel.op c.in-Rel.terms c.as_slice.result.now false c.in-Rel.is c.as_slice.ensures (c.is_relation_told.ensures so w env kept)
