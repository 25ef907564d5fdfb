use Rattle.std.proofs.Common.{◌∙◌}
use Rattle.instance_rows.specs.Triggers.{call_to, instance_by_call}
use Rattle.forall_instances.specs.Foralls.{forall_of}
use Rattle.trigger_instances.specs.Ids.{call_of}
use Rattle.trigger_instances.proofs.Given.{all_instance}
use Rattle.trigger_instances.proofs.by_calls.put_call.Goals as goal

pub returns : goal.returns
returns g c =
    let tree = g.S.TermStore.tree in
    let held = g.S.TermStore.held in
    let s = c.args.store.now in
    let s' = c.instance_by_call.new.store in
    let q = forall_of (tree s) c.args.quantified.now in
    let t = c.args.trigger.now in
    let u = c.args.there.now in
    let made = c.in_ok-made.ensures in
    all_instance (held s) (held s') (tree s) (tree s') (instance_by_call q (call_of (tree s) t) (call_of (tree s) u)) c.in_ok-made.made c.args.out.now.items c.put_some.new.out.items made.older c.requires.out made.held
    (made.instance ∙ (λ i. instance_by_call q (call_to (c.bytes.ensures i) (tree s t.number)) (call_to (c.bytes-2.ensures i) (tree s u.number)))) c.in_ok-put_some.ensures
