use Rattle.std.proofs.Common.{◌++◌, map, ap, ◌∙◌, subst}
use Rattle.std.proofs.lemmas.List.{map-append}
use Rattle.qed_terms.specs.View.{view_setting}
use Rattle.qed_terms.proofs.Kept.{kept_trees}
use Rattle.branches.specs.Ids.{branch_of}
use Rattle.instance_rounds.specs.Formulas.{AreFormulas}
use Rattle.instance_rounds.proofs.RoundLaws.{round_made}
use Rattle.instance_rounds.proofs.rounds.round_of.Goals as goal

pub returns-clause-adds : goal.returns-clause-adds
returns-clause-adds g c =
    let held = g.S.TermStore.held in
    let tree = g.S.TermStore.tree in
    let first = c.args.store.now in
    let second = c.formulas_of.new.store in
    let older = c.in_ok-formulas.ensures.older in
    let s = view_setting c.args.world.now in
    let b = c.args.branch.now in
    let fs = map (tree second) c.in_ok-formulas.formulas.items in
    let nodes = map (tree first) c.as_slice.result.now in
    let literals = kept_trees (held first) (held second) (tree first) (tree second) b.literals older c.requires.held.0 in
    let waiting = kept_trees (held first) (held second) (tree first) (tree second) b.waiting older c.requires.held.1 in
    let there = ap (map (tree second)) (c.as_slice-2.ensures.value ∙ c.in_ok-there.ensures) ∙ map-append (tree second) b.literals b.waiting ∙ (λ i. literals i ++ waiting i) in
    round_made s (branch_of (tree first) b) nodes fs _ _ _
    (subst (λ ls. AreFormulas s (map (tree first) ls) nodes fs) c.as_slice-literals.ensures c.in_ok-formulas.ensures.formulas)
    (ap (map (tree first)) c.as_slice.ensures.value ∙ c.in_ok-nodes.ensures.trees)
    (ap (map (tree second)) c.as_slice-3.ensures.value) there c.in_ok-made.ensures.adds
