use Rattle.std.proofs.Common.{ap, subst, ◌∙◌}
use Rattle.check_lists.specs.View.{view_checks}
use Rattle.checked_trees.specs.View.{view_step, view_steps}
use Rattle.checked_trees.proofs.Equations.{view_step-Branch, view_step-Repeat}
use Rattle.core_trees.specs.View.{view_loop, view_variables}
use Rattle.program_trees.specs.View.{view_facts}
use Rattle.typed_prog.specs.View.{view_value}
use Rattle.program_cells.specs.View.{Adds, view_declared}
use Rattle.program_cells.specs.Programs.{steps_parts}
use Rattle.program_cells.proofs.Statements.{branch_added, loop_added}
use Rattle.program_cells.proofs.steps.+add_step.Goals as goal

pub add_step-returns-in_ok-add_steps-in-Branch-2 : goal.add_step-returns-in_ok-add_steps-in-Branch-2
add_step-returns-in_ok-add_steps-in-Branch-2 t c =
    branch_added (view_facts c.args.facts.now) (view_variables c.args.own.now) (view_declared c.args.declared) (view_step c.args.step.now)
    (view_checks c.in-Branch.field-0) (view_value c.in-Branch.test.now) (view_steps c.in-Branch.first) (view_steps c.in-Branch.second)
    c.args.cells.now c.add_value-in-Branch.new.cells c.add_steps.new.cells c.add_steps-in-Branch.new.cells
    (ap view_step c.in-Branch.is ∙ view_step-Branch c.in-Branch.field-0 c.in-Branch.test c.in-Branch.first c.in-Branch.second)
    c.in_ok-add_value-in-Branch.ensures
    (subst (λ ss. Adds c.add_value-in-Branch.new.cells c.add_steps.new.cells (steps_parts (view_facts c.args.facts.now) (view_variables c.args.own.now)
    (view_declared c.args.declared) (view_steps ss))) c.as_slice-in-Branch.ensures c.in_ok-add_steps-in-Branch.ensures)
    (subst (λ ss. Adds c.add_steps.new.cells c.add_steps-in-Branch.new.cells (steps_parts (view_facts c.args.facts.now) (view_variables c.args.own.now)
    (view_declared c.args.declared) (view_steps ss))) c.as_slice-in-Branch-2.ensures c.in_ok-add_steps-in-Branch-2.ensures)

pub add_step-returns-in_ok-add_steps-in-Repeat : goal.add_step-returns-in_ok-add_steps-in-Repeat
add_step-returns-in_ok-add_steps-in-Repeat t c =
    loop_added (view_facts c.args.facts.now) (view_variables c.args.own.now) (view_declared c.args.declared) (view_step c.args.step.now)
    (view_loop c.in-Repeat.l.now) (view_steps c.in-Repeat.body) c.args.cells.now c.add_loop.new.cells c.add_steps-in-Repeat.new.cells
    (ap view_step c.in-Repeat.is ∙ view_step-Repeat c.in-Repeat.l c.in-Repeat.body) c.in_ok-add_loop-in-Repeat.ensures
    (subst (λ ss. Adds c.add_loop.new.cells c.add_steps-in-Repeat.new.cells (steps_parts (view_facts c.args.facts.now) (view_variables c.args.own.now)
    (view_declared c.args.declared) (view_steps ss))) c.as_slice-in-Repeat.ensures c.in_ok-add_steps-in-Repeat.ensures)
