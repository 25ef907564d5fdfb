use Rattle.std.proofs.Common.{sym, ◌∙◌, ap, subst}
use Rattle.qed_terms.specs.Tree.{at_most, less}
use Rattle.qed_terms.specs.View.{view_setting}
use Rattle.qed_terms.specs.WellFormed.{fits, int}
use Rattle.qed_terms.proofs.Kept.{kept_over}
use Rattle.qed_rules.specs.Rules.{step}
use Rattle.qed_simplify.specs.Normal.{Normal}
use Rattle.branch_changes.specs.Givens.{may_put, may_stand_for, put}
use Rattle.branch_changes.specs.Ids.{given_of}
use Rattle.changed_branches.proofs.Relating.{at_most_fits, less_fits, same_given, each_three}
use Rattle.changed_branches.proofs.relations.witness_normals.Goals as goal

pub related-requires-clause-fit : goal.related-requires-clause-fit
related-requires-clause-fit g c = let tree = g.S.TermStore.tree c.args.store.now in at_most_fits (tree c.args.low) (tree c.args.given.now.term) c.requires.low_fits c.requires.term_fits

pub related-requires-2-clause-fit : goal.related-requires-2-clause-fit
related-requires-2-clause-fit g c =
    let older = c.in_ok-first.ensures.older in
    let tree' = g.S.TermStore.tree c.related.new.store in
    less_fits (tree' c.args.given.now.term) (tree' c.args.high) (ap (fits int) (older.same_tree c.args.given.now.term c.requires.term) ∙ c.requires.term_fits) (ap (fits int) (older.same_tree c.args.high c.requires.high) ∙ c.requires.high_fits)

pub put-requires-clause-stands : goal.put-requires-clause-stands
put-requires-clause-stands g c =
    let k = kept_over _ _ _ _ _ _ c.in_ok-first.ensures.older c.in_ok-second.ensures.older in
    ap (may_stand_for c.args.given.now.sort) (k.same_tree c.args.given.now.term c.requires.term) ∙ c.requires.stands

pub put-requires-clause-may : goal.put-requires-clause-may
put-requires-clause-may g c =
    let tree = g.S.TermStore.tree in
    let s = c.args.store.now in
    let s'' = c.related-2.new.store in
    let k = kept_over _ _ _ _ _ _ c.in_ok-first.ensures.older c.in_ok-second.ensures.older in
    let given = same_given (tree s) (tree s'') c.args.given.now (k.same_tree c.args.given.now.term c.requires.term) in
    (λ i. may_put (given i) (k.same_tree c.args.body c.requires.body i)) ∙ c.requires.may

pub returns-clause-normals : goal.returns-clause-normals
returns-clause-normals g c =
    let tree = g.S.TermStore.tree in
    let s = c.args.store.now in
    let s' = c.related.new.store in
    let s'' = c.related-2.new.store in
    let s3 = c.put.new.store in
    let first = c.in_ok-first.first in
    let second = c.in_ok-second.second in
    let third = c.in_ok-third.third in
    let normal = Normal (step (view_setting c.args.world.now)) in
    let k1 = c.in_ok-first.ensures.older in
    let k2 = c.in_ok-second.ensures.older in
    let k3 = c.in_ok-third.ensures.older in
    let k12 = kept_over _ _ _ _ _ _ k1 k2 in
    let k23 = kept_over _ _ _ _ _ _ k2 k3 in
    let term = k1.same_tree c.args.given.now.term c.requires.term in
    let high = k1.same_tree c.args.high c.requires.high in
    let given = same_given (tree s) (tree s'') c.args.given.now (k12.same_tree c.args.given.now.term c.requires.term) in
    let body = k12.same_tree c.args.body c.requires.body in
    each_three normal (tree s3) (at_most (tree s c.args.low) (tree s c.args.given.now.term)) (less (tree s c.args.given.now.term) (tree s c.args.high)) (put (given_of (tree s) c.args.given.now) (tree s c.args.body)) first second third c.in_ok-made.made.items c.in_ok-made.ensures
    (subst (normal (at_most (tree s c.args.low) (tree s c.args.given.now.term))) (sym (k23.same_tree first c.in_ok-first.ensures.held)) c.in_ok-first.ensures.normal)
    (subst (normal (less (tree s c.args.given.now.term) (tree s c.args.high))) (sym (k3.same_tree second c.in_ok-second.ensures.held)) (subst (λ z. normal z (tree s'' second)) (λ i. less (term i) (high i)) c.in_ok-second.ensures.normal))
    (subst (λ z. normal z (tree s3 third)) (λ i. put (given i) (body i)) c.in_ok-third.ensures.normal)
