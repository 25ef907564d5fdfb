use Rattle.std.proofs.Common.{◌≡◌, refl, sym, ap, ◌∙◌, ◌+◌, ◌++◌, map, take}
use Rattle.instance_rows.specs.Candidates.{by_access}
use Rattle.branch_accesses.specs.Ids.{access_of, AccessHeld}
use Rattle.drawn_instances.proofs.KidLaws.{kid_held}
use Rattle.forall_instances.specs.Foralls.{forall_of}
use Rattle.trigger_instances.specs.Ids.{by_one_access}
use Rattle.trigger_instances.proofs.Given.{puts_none, puts_then}
use Rattle.trigger_instances.proofs.Lists.{access_push, seen_more}
use Rattle.trigger_instances.proofs.Same.{access_same, forall_same}
use Rattle.trigger_instances.proofs.accesses.put_accesses.Goals as goal

pub loop-there-init : goal.loop-there-init
loop-there-init g c =
    puts_none c.args.closed.now (g.S.TermStore.held c.args.store.now) (g.S.TermStore.tree c.args.store.now) c.args.table.now c.args.out.now.items _ c.requires.kept c.requires.out refl

pub loop-there-preserved : goal.loop-there-preserved
loop-there-preserved g c =
    let tree = g.S.TermStore.tree in
    let held = g.S.TermStore.held in
    let s = c.args.store.now in
    let s' = c.loop-there.store in
    let s'' = c.put_access.new.store in
    let view = access_of (tree s) in
    let q = forall_of (tree s) c.args.quantified.now in
    let t = view c.args.trigger in
    let xs = c.args.accesses.now in
    let i = c.loop-there.there-index in
    let x = c.there-item.result in
    let k = c.loop-there.invariant.older in
    let there = kid_held (AccessHeld (held s)) xs i x c.requires.accesses c.loop-there-test.true c.there-item.is in
    let before = by_access q t (map view (take i xs)) in
    let now = by_one_access (forall_of (tree s') c.args.quantified.now) (access_of (tree s') c.args.trigger) (access_of (tree s') x) in
    let same : now ≡ by_one_access q t (view x) = λ j. by_one_access (forall_same (held s) (held s') (tree s) (tree s') k c.args.quantified.now c.requires.quantified j)
    (access_same (held s) (held s') (tree s) (tree s') k c.args.trigger c.requires.trigger j) (access_same (held s) (held s') (tree s) (tree s') k x there j) in
    let whole = ap (by_access q t) (seen_more view xs i x c.loop-there-test.true c.there-item.is) ∙ access_push q t (map view (take i xs)) (view x) ∙ ap (λ d. before ++ d) (sym same) in
    puts_then (held s) (held s') (held s'') (tree s) (tree s') (tree s'') c.args.closed.now c.args.table.now c.loop-there.table c.put_access.new.table c.args.out.now.items c.loop-there.out.items c.put_access.new.out.items
    before now (by_access q t (map view (take (i + 1) xs))) whole c.loop-there.invariant c.in_ok-put_access.ensures
