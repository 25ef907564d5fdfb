use Rattle.std.proofs.Common.{sym, subst}
use Rattle.typed_prog.specs.Tree.{values_of}
use Rattle.typed_prog.specs.View.{view_value, view_values}
use Rattle.core_trees.specs.View.{view_variables}
use Rattle.c_runs.specs.Plans.{kept, effect_plan, called_sent, operands}
use Rattle.normal_steps.specs.Into.{MadeInto}
use Rattle.normal_effects.proofs.Calling.{sent_value_done}
use Rattle.normal_effects.proofs.effects.effect_made_from.Goals as goal

pub returns-in_ok-left-in-Call : goal.returns-in_ok-left-in-Call
returns-in_ok-left-in-Call c =
    let xs = view_variables c.args.variables.now in
    let es = values_of (view_values c.args.operands.now) in
    let first = kept (view_value c.args.done.now) in
    subst
    (λ e. MadeInto c.args.out.now c.put_sent.new.out ((effect_plan xs c.args.like.now.ty c.args.like.now.line e es first).made c.args.next) c.in_ok-left-in-Call.left c.in_ok-left-in-Call.next) (sym c.in-Call.is)
    (sent_value_done c.args.out.now c.called_from.new.out c.put_sent.new.out c.args.like.now.ty c.args.like.now.line (called_sent c.args.like.now.line c.in-Call.function (operands xs es first c.args.next))
    c.in_ok-put-in-Call.put c.in_ok-left-in-Call.left c.in_ok-put-in-Call.slot c.in_ok-left-in-Call.next c.in_ok-put-in-Call.ensures c.in_ok-left-in-Call.ensures.0 c.in_ok-left-in-Call.ensures.1
    c.in_ok-left-in-Call.ensures.2)
