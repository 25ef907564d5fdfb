use Rattle.std.proofs.Common.{List, map, subst, ◌∙◌}
use Rattle.qed_terms.specs.View.{formula_tree}
use Rattle.qed_terms.specs.declared.term.Formula.{Formula}
use Rattle.goal_text.specs.Views.{known_of, check_of}
use Rattle.goal_text.specs.Writer.{WritesAll}
use Rattle.goal_text.proofs.Writing.{goal_put}
use Rattle.goal_text.proofs.write.write_goal.Goals as goal

pub returns-clause-text : goal.returns-clause-text
returns-clause-text c =
    let known = subst (λ (fs : List Formula). WritesAll c.put_open-2.new.text.items c.put_formulas.new.text.items (map formula_tree fs)) c.as_slice.ensures c.in_ok-put_formulas.ensures in
    c.from_vec.ensures
    ∙ goal_put (known_of c.args.goal.now) (check_of c.args.goal.now) _ _ _ _ _ _ _ _ _ c.new-text.ensures.items c.in_ok-put_open.ensures c.in_ok-put.ensures c.in_ok-put_open-2.ensures known
    c.in_ok-put_close.ensures c.in_ok-put-2.ensures c.in_ok-put_node.ensures c.in_ok-put_close-2.ensures
