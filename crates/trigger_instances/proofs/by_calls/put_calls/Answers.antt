use Rattle.std.proofs.Common.{◌≡◌, refl, sym, ap, ◌∙◌, ◌+◌, ◌++◌, map, take}
use Rattle.instance_rows.specs.Candidates.{by_call}
use Rattle.drawn_instances.proofs.KidLaws.{kid_held}
use Rattle.forall_instances.specs.Foralls.{forall_of}
use Rattle.trigger_instances.specs.Ids.{by_one_call, call_of, CallHeld}
use Rattle.trigger_instances.proofs.Given.{all_none, all_then}
use Rattle.trigger_instances.proofs.Lists.{call_push, seen_more}
use Rattle.trigger_instances.proofs.Same.{call_same, forall_same}
use Rattle.trigger_instances.proofs.by_calls.put_calls.Goals as goal

pub loop-there-init : goal.loop-there-init
loop-there-init g c = all_none (g.S.TermStore.held c.args.store.now) (g.S.TermStore.tree c.args.store.now) c.args.out.now.items _ c.requires.out refl

pub loop-there-preserved : goal.loop-there-preserved
loop-there-preserved g c =
    let tree = g.S.TermStore.tree in
    let held = g.S.TermStore.held in
    let s = c.args.store.now in
    let s' = c.loop-there.store in
    let s'' = c.put_call.new.store in
    let view = call_of (tree s) in
    let q = forall_of (tree s) c.args.quantified.now in
    let t = view c.args.trigger.now in
    let xs = c.args.calls.now in
    let i = c.loop-there.there-index in
    let x = c.there-item.result in
    let k = c.loop-there.invariant.older in
    let there = kid_held (CallHeld (held s)) xs i x c.requires.calls c.loop-there-test.true c.there-item.is in
    let before = by_call q t (map view (take i xs)) in
    let now = by_one_call (forall_of (tree s') c.args.quantified.now) (call_of (tree s') c.args.trigger.now) (call_of (tree s') x) in
    let same : now ≡ by_one_call q t (view x) = λ j. by_one_call (forall_same (held s) (held s') (tree s) (tree s') k c.args.quantified.now c.requires.quantified j)
    (call_same (held s) (held s') (tree s) (tree s') k c.args.trigger.now c.requires.trigger j) (call_same (held s) (held s') (tree s) (tree s') k x there j) in
    let whole = ap (by_call q t) (seen_more view xs i x c.loop-there-test.true c.there-item.is) ∙ call_push q t (map view (take i xs)) (view x) ∙ ap (λ d. before ++ d) (sym same) in
    all_then (held s) (held s') (held s'') (tree s) (tree s') (tree s'') c.args.out.now.items c.loop-there.out.items c.put_call.new.out.items
    before now (by_call q t (map view (take (i + 1) xs))) whole c.loop-there.invariant c.in_ok-put_call.ensures
