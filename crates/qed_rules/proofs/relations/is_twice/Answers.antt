use Rattle.std.proofs.Common.{sym, arith}
use Rattle.qed_rules.proofs.RelationPasses.{not_twice}
use Rattle.qed_rules.proofs.relations.is_twice.Goals as goal

pub returns-then-terms-lt2 : goal.returns-then-terms-lt2
returns-then-terms-lt2 c = sym (not_twice c.args.terms.now (omega (arith, c.if-terms-lt2.true)))
