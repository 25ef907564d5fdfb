use Rattle.std.proofs.Common.{rules}
use Rattle.core_trees.specs.View.{view_variables}
use Rattle.program_trees.specs.View.{view_facts}
use Rattle.plain_trees.specs.Taking.{taking, shape_with}
use Rattle.plain_trees.proofs.Passing.{step_turn, step_fault, steps_done}
use Rattle.plain_trees.proofs.steps.+step_claims.Goals as goal

pub all_claim-returns-then-not-fits : goal.all_claim-returns-then-not-fits
all_claim-returns-then-not-fits t c =
    step_fault (view_facts c.args.facts.now) (taking c.args.takes.now) (shape_with (view_variables c.args.own.now) c.args.gives)
    c.args.steps.now c.loop-at.at c.index-steps-at.result c.step_claims-fits.result _ (search rules) c.index-steps-at.is c.step_claims-fits.ensures
    c.if-not-fits.true c.loop-at.invariant

pub all_claim-loop-at-preserved : goal.all_claim-loop-at-preserved
all_claim-loop-at-preserved t c =
    step_turn (view_facts c.args.facts.now) (taking c.args.takes.now) (shape_with (view_variables c.args.own.now) c.args.gives)
    c.args.steps.now c.loop-at.at c.index-steps-at.result c.step_claims-fits.result _ (search rules) c.index-steps-at.is c.step_claims-fits.ensures
    c.if-not-fits.false c.loop-at.invariant

pub all_claim-returns : goal.all_claim-returns
all_claim-returns t c =
    steps_done (view_facts c.args.facts.now) (taking c.args.takes.now) (shape_with (view_variables c.args.own.now) c.args.gives)
    c.args.steps.now c.loop-at.at _ (search rules) c.loop-at.invariant
