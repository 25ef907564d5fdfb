use Rattle.std.proofs.Common.{ap, subst, ◌∙◌}
use Rattle.check_lists.specs.View.{view_checks}
use Rattle.checked_trees.specs.View.{view_step, view_steps}
use Rattle.checked_trees.proofs.Equations.{view_step-Branch}
use Rattle.typed_prog.specs.View.{view_value}
use Rattle.temporary_kinds.specs.Kinds.{steps_kind, steps_count}
use Rattle.temporary_kinds.specs.View.{Tells, results_in}
use Rattle.temporary_kinds.proofs.Telling.{onward_turn, onward_ends}
use Rattle.temporary_kinds.proofs.Statements.{code_kind, code_count, branch_told, steps_told}
use Rattle.temporary_kinds.proofs.steps.+mention_step.Goals as goal

pub mention_step-returns-in_ok-mention_steps-in-Branch-2 : goal.mention_step-returns-in_ok-mention_steps-in-Branch-2
mention_step-returns-in_ok-mention_steps-in-Branch-2 t c =
    branch_told (results_in c.args.functions.now) (view_step c.args.step.now) (view_checks c.in-Branch.field-0) (view_value c.in-Branch.test.now)
    (view_steps c.in-Branch.first) (view_steps c.in-Branch.second) c.args.kinds.now.items c.mention_value-in-Branch.new.kinds.items c.mention_steps.new.kinds.items
    c.mention_steps-in-Branch.new.kinds.items (ap view_step c.in-Branch.is ∙ view_step-Branch c.in-Branch.field-0 c.in-Branch.test c.in-Branch.first c.in-Branch.second)
    c.in_ok-mention_value-in-Branch.ensures
    (subst (λ ss. Tells c.mention_value-in-Branch.new.kinds.items c.mention_steps.new.kinds.items (steps_kind (results_in c.args.functions.now) (view_steps ss))
    (steps_count (view_steps ss))) c.as_slice-in-Branch.ensures c.in_ok-mention_steps-in-Branch.ensures)
    (subst (λ ss. Tells c.mention_steps.new.kinds.items c.mention_steps-in-Branch.new.kinds.items (steps_kind (results_in c.args.functions.now) (view_steps ss))
    (steps_count (view_steps ss))) c.as_slice-in-Branch-2.ensures c.in_ok-mention_steps-in-Branch-2.ensures)

pub mention_steps-loop-at-preserved : goal.mention_steps-loop-at-preserved
mention_steps-loop-at-preserved t c =
    onward_turn (code_kind (results_in c.args.functions.now)) (code_count (results_in c.args.functions.now)) c.args.kinds.now.items c.loop-at.kinds.items
    c.mention_step.new.kinds.items c.args.steps.now c.loop-at.at c.index-steps-at.result c.loop-at-test.true c.loop-at.invariant
    (subst (λ s. Tells c.loop-at.kinds.items c.mention_step.new.kinds.items (code_kind (results_in c.args.functions.now) s) (code_count (results_in c.args.functions.now) s))
    c.index-steps-at.is c.in_ok-mention_step.ensures)

pub mention_steps-returns : goal.mention_steps-returns
mention_steps-returns t c =
    steps_told (results_in c.args.functions.now) c.args.steps.now c.args.kinds.now.items c.loop-at.kinds.items
    (onward_ends (code_kind (results_in c.args.functions.now)) (code_count (results_in c.args.functions.now)) c.args.kinds.now.items c.loop-at.kinds.items
    c.args.steps.now c.loop-at.at c.loop-at-test.false c.loop-at.invariant)
