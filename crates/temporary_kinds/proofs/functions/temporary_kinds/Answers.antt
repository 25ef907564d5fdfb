use Rattle.std.proofs.Common.{map, subst, ap, ◌∙◌}
use Rattle.checked_trees.specs.View.{view_checked_program, view_steps}
use Rattle.temporary_kinds.specs.Kinds.{or_int, steps_kind, steps_count, results_of}
use Rattle.temporary_kinds.specs.View.{Tells, results_in}
use Rattle.temporary_kinds.proofs.Settled.{all_settled}
use Rattle.temporary_kinds.proofs.functions.temporary_kinds.Goals as goal

pub returns : goal.returns
returns c =
    c.in_ok-made.ensures ∙ ap (map or_int) c.as_slice-2.ensures.value
    ∙ all_settled c.mention_steps.new.kinds.items (steps_kind (results_of (view_checked_program c.args.program.now)) (view_steps c.args.body.now))
    (steps_count (view_steps c.args.body.now))
    (subst (λ xs. Tells xs c.mention_steps.new.kinds.items (steps_kind (results_of (view_checked_program c.args.program.now)) (view_steps c.args.body.now))
    (steps_count (view_steps c.args.body.now))) c.new-kinds.ensures.items
    (subst (λ fs. Tells c.new-kinds.result.items c.mention_steps.new.kinds.items (steps_kind (results_in fs) (view_steps c.args.body.now))
    (steps_count (view_steps c.args.body.now))) c.as_slice.ensures c.in_ok-mention_steps.ensures))
