use Rattle.std.proofs.Common.{map, sym, ◌∙◌, ap, subst}
use Rattle.qed_terms.specs.View.{view_setting}
use Rattle.qed_terms.proofs.Kept.{kept_over}
use Rattle.qed_rules.specs.Rules.{step}
use Rattle.qed_simplify.specs.Normal.{Normal}
use Rattle.branch_changes.specs.Givens.{put, may_put, may_stand_for}
use Rattle.branch_changes.specs.Ids.{given_of}
use Rattle.variable_changes.proofs.Firsts.{given_same}
use Rattle.variable_changes.proofs.Replaced.{held_more, put_more, put_done, test_at}
use Rattle.variable_changes.proofs.putting.put_all.Goals as goal

pub put-requires-clause-stands : goal.put-requires-clause-stands
put-requires-clause-stands g c = ap (may_stand_for c.args.given.now.sort) (c.loop-at.invariant.older.same_tree c.args.given.now.term c.requires.term) ∙ c.requires.stands

pub put-requires-clause-may : goal.put-requires-clause-may
put-requires-clause-may g c =
    let tree = g.S.TermStore.tree in
    let held = g.S.TermStore.held in
    let s = c.args.store.now in
    let s' = c.loop-at.store in
    let id = c.index-ids-at.result in
    let older = c.loop-at.invariant.older in
    let id_held = subst (held s) (sym c.index-ids-at.is) (c.requires.held c.loop-at.at id c.loop-at-test.true) in
    let same = given_same (held s) (held s') (tree s) (tree s') older c.args.given.now c.requires.term in
    (λ i. may_put (same i) (older.same_tree id id_held i)) ∙ test_at (tree s) (put (given_of (tree s) c.args.given.now)) c.args.ids.now c.loop-at.at id c.loop-at-test.true c.index-ids-at.is (may_put (given_of (tree s) c.args.given.now)) c.requires.may

pub loop-at-preserved : goal.loop-at-preserved
loop-at-preserved g c =
    let tree = g.S.TermStore.tree in
    let held = g.S.TermStore.held in
    let s = c.args.store.now in
    let s' = c.loop-at.store in
    let s'' = c.put.new.store in
    let id = c.index-ids-at.result in
    let at = c.loop-at.at in
    let new = c.in_ok-id.id in
    let older = c.loop-at.invariant.older in
    let later = c.in_ok-id.ensures.older in
    let normal = Normal (step (view_setting c.args.world.now)) in
    let id_held = subst (held s) (sym c.index-ids-at.is) (c.requires.held at id c.loop-at-test.true) in
    let same = given_same (held s) (held s') (tree s) (tree s') older c.args.given.now c.requires.term in
    let told = subst (λ t. normal t (tree s'' new)) (λ i. put (same i) (older.same_tree id id_held i)) c.in_ok-id.ensures.normal in
    record {
      ready = c.in_ok-id.ensures.ready;
      older = kept_over (held s) (held s') (held s'') (tree s) (tree s') (tree s'') older later;
      held = held_more (held s') (held s'') (tree s') (tree s'') later c.loop-at.made.items c.push.new.self.items new c.in_ok-push.ensures.items c.loop-at.invariant.held c.in_ok-id.ensures.held;
      normals = put_more (tree s) (put (given_of (tree s) c.args.given.now)) c.args.ids.now at id c.loop-at-test.true c.index-ids-at.is normal (held s') (held s'') (tree s') (tree s'') later c.loop-at.made.items c.push.new.self.items new c.in_ok-push.ensures.items c.loop-at.invariant.held c.loop-at.invariant.normals told;
    }

pub returns-clause-normals : goal.returns-clause-normals
returns-clause-normals g c =
    let tree = g.S.TermStore.tree in
    let s = c.args.store.now in
    put_done (tree s) (put (given_of (tree s) c.args.given.now)) c.args.ids.now c.loop-at.at (Normal (step (view_setting c.args.world.now))) (map (tree c.loop-at.store) c.loop-at.made.items) c.loop-at-test.false c.loop-at.invariant.normals
