use Rattle.qed_rules.proofs.FormulaPasses.{operands_and, operands_or}
use Rattle.qed_rules.proofs.junctions.operands_of.Goals as goal

pub returns-then-all : goal.returns-then-all
returns-then-all c = operands_and c.in-And.operands c.args.formula c.args.all c.in-And.is c.if-all.true

pub returns-then-not-all : goal.returns-then-not-all
returns-then-not-all c = operands_or c.in-Or.operands c.args.formula c.args.all c.in-Or.is c.if-not-all.true
