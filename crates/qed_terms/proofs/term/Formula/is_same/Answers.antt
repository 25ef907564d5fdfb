use Rattle.std.proofs.Common.{rules}
use Rattle.qed_terms.proofs.Injective.{formula_exact}
use Rattle.qed_terms.proofs.term.Formula.is_same.Goals as goal

pub returns-clause-exact : goal.returns-clause-exact
returns-clause-exact c = formula_exact c.args.self.now c.args.other.now c.eq.result (search rules)
