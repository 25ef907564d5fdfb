use Rattle.std.proofs.Common.{arith}
use Rattle.qed_terms.specs.declared.head.TermOp.TheVariants as op
use Rattle.qed_terms.proofs.Equations.{term_tree-Op}
use Rattle.qed_linear.proofs.Built.{sum_long}
use Rattle.qed_linear.proofs.terms.sum_of.Goals as goal

pub returns-then-len-ge2 : goal.returns-then-len-ge2
returns-then-len-ge2 c =
    let e = term_tree-Op op.Add c.from_vec.result in
    let l = sum_long c.args.terms.items (omega arith) in
    let k = c.from_vec.ensures in
    cc
