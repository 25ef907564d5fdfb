use Rattle.std.proofs.Common.{◌++◌, map, ◌∙◌, ap, arith}
use Rattle.qed_terms.proofs.Kept.{kept_over, held_more}
use Rattle.instance_rounds.specs.declared.steps.TheConstants.{STEPS}
use Rattle.instance_rounds.proofs.StepLaws.{row_put, rows_done, table_in_order}
use Rattle.instance_rounds.proofs.steps.put_rows.Goals as goal

pub loop-step-preserved : goal.loop-step-preserved
loop-step-preserved g c =
    let held = g.S.TermStore.held in
    let tree = g.S.TermStore.tree in
    let first = c.args.store.now in
    let old = c.loop-step.store in
    let new = c.put_step.new.store in
    let so_far = c.loop-step.invariant.older in
    let kept = c.in_ok-put_step.ensures.older in
    record {
      older = kept_over (held first) (held old) (held new) (tree first) (tree old) (tree new) so_far kept;
      held = c.in_ok-put_step.ensures.held;
      rows = row_put (held old) (held new) (tree old) (tree new) c.args.long_bits STEPS c.loop-step.step-index _ c.args.literals.now c.args.nodes.now (map (tree old) c.loop-step.out.items) (map (tree new) c.put_step.new.out.items) _
          (omega arith) kept (held_more (held first) (held old) (tree first) (tree old) c.args.literals.now so_far c.requires.literals_held)
          (held_more (held first) (held old) (tree first) (tree old) c.args.nodes.now so_far c.requires.nodes_held) c.in_ok-put_step.ensures.stand c.loop-step.invariant.rows;
    }

pub returns-clause-stand : goal.returns-clause-stand
returns-clause-stand g c =
    let tree = g.S.TermStore.tree in
    let first = c.args.store.now in
    let last = c.loop-step.store in
    rows_done c.args.long_bits STEPS c.loop-step.step-index (map (tree last) c.args.literals.now) (map (tree last) c.args.nodes.now) (map (tree last) c.loop-step.out.items) _ c.loop-step-test.false c.loop-step.invariant.rows
    ∙ ap (λ fs. map (tree first) c.args.out.now.items ++ fs) (table_in_order c.args.long_bits (map (tree first) c.args.literals.now) (map (tree first) c.args.nodes.now))
