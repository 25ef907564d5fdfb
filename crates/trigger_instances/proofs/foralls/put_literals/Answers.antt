use Rattle.std.proofs.Common.{◌≡◌, refl, sym, ap, ◌∙◌, ◌+◌, ◌++◌, map, take}
use Rattle.qed_terms.specs.View.{view_logic}
use Rattle.instance_rows.specs.Candidates.{by_literal, forall_candidates}
use Rattle.instance_rows.specs.Triggers.{quantified_at}
use Rattle.branch_accesses.specs.Ids.{access_of}
use Rattle.drawn_instances.proofs.KidLaws.{kid_held}
use Rattle.trigger_instances.specs.Ids.{call_of}
use Rattle.trigger_instances.proofs.Given.{puts_none, puts_then}
use Rattle.trigger_instances.proofs.Lists.{literal_push, seen_more}
use Rattle.trigger_instances.proofs.Same.{accesses_same, calls_same, calls_still}
use Rattle.trigger_instances.proofs.foralls.put_literals.Goals as goal

pub loop-literal-init : goal.loop-literal-init
loop-literal-init g c =
    puts_none c.args.closed.now (g.S.TermStore.held c.args.store.now) (g.S.TermStore.tree c.args.store.now) c.args.table.now c.args.out.now.items _ c.requires.kept c.requires.out refl

pub put_literal-requires-clause-calls : goal.put_literal-requires-clause-calls
put_literal-requires-clause-calls g c =
    let tree = g.S.TermStore.tree in
    let held = g.S.TermStore.held in
    calls_still (held c.args.store.now) (held c.loop-literal.store) (tree c.args.store.now) (tree c.loop-literal.store) c.loop-literal.invariant.older c.args.calls.now c.requires.calls

pub loop-literal-preserved : goal.loop-literal-preserved
loop-literal-preserved g c =
    let tree = g.S.TermStore.tree in
    let held = g.S.TermStore.held in
    let s = c.args.store.now in
    let s' = c.loop-literal.store in
    let s'' = c.put_literal.new.store in
    let fs = map view_logic c.args.functions.now in
    let accesses = map (access_of (tree s)) c.args.accesses.now in
    let calls = map (call_of (tree s)) c.args.calls.now in
    let xs = c.args.literals.now in
    let i = c.loop-literal.literal-index in
    let x = c.literal-item.result in
    let k = c.loop-literal.invariant.older in
    let there = kid_held (held s) xs i x c.requires.literals c.loop-literal-test.true c.literal-item.is in
    let before = forall_candidates fs accesses calls (map (tree s) (take i xs)) in
    let now = by_literal fs (map (access_of (tree s')) c.args.accesses.now) (map (call_of (tree s')) c.args.calls.now) (quantified_at (tree s' x)) in
    let same : now ≡ by_literal fs accesses calls (quantified_at (tree s x)) = λ j. by_literal fs (accesses_same (held s) (held s') (tree s) (tree s') k c.args.accesses.now c.requires.accesses j) (calls_same (held s) (held s') (tree s) (tree s') k c.args.calls.now c.requires.calls j)
    (quantified_at (k.same_tree x there j)) in
    let whole = ap (forall_candidates fs accesses calls) (seen_more (tree s) xs i x c.loop-literal-test.true c.literal-item.is) ∙ literal_push fs accesses calls (map (tree s) (take i xs)) (tree s x) ∙ ap (λ d. before ++ d) (sym same) in
    puts_then (held s) (held s') (held s'') (tree s) (tree s') (tree s'') c.args.closed.now c.args.table.now c.loop-literal.table c.put_literal.new.table c.args.out.now.items c.loop-literal.out.items c.put_literal.new.out.items
    before now (forall_candidates fs accesses calls (map (tree s) (take (i + 1) xs))) whole c.loop-literal.invariant c.in_ok-put_literal.ensures
