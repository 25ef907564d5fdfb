use Rattle.std.proofs.Common.{◌++◌, map, drop, length, sym, ap, ◌∙◌, arith}
use Rattle.qed_terms.specs.View.{formula_tree}
use Rattle.qed_rules.specs.Marked.{kept_by}
use Rattle.qed_rules.proofs.Marked.{kept_more}
use Rattle.qed_rules.proofs.junctions.keep_marked.Goals as goal

pub loop-operand-preserved : goal.loop-operand-preserved
loop-operand-preserved c =
    let marks = c.args.marks.now in
    let at = c.loop-operand.at in
    let done = map formula_tree c.loop-operand.kept in
    let rest = map formula_tree c.next.new.self.rest.items in
    let taken = c.in-Some.ensures.steps.0 in
    record {
      count = omega (arith, ap length taken);
      place = omega (arith, ap length taken);
      so_far = kept_more marks at c.is_marked.result (formula_tree c.in-Some.operand) rest done (map formula_tree c.keep_if.new.kept) (kept_by marks (map formula_tree c.args.operands))
          c.is_marked.ensures c.in_ok-keep_if.ensures
          (ap (λ fs. done ++ kept_by (drop at marks) (map formula_tree fs)) (sym taken) ∙ c.loop-operand.invariant.so_far);
    }
