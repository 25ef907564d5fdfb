use Rattle.std.proofs.Common.{length, ap, arith}
use Rattle.qed_rules.proofs.RelationPasses.{not_two}
use Rattle.qed_rules.proofs.relations.negated_relation.Goals as goal

pub returns-then-pair-ne2 : goal.returns-then-pair-ne2
returns-then-pair-ne2 c =
    let e = ap length c.as_slice-pair.ensures in
    (not_two c.args.op.now c.args.terms.now (λ k. omega arith)).1
