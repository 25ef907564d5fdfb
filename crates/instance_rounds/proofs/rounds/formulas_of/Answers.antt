use Rattle.std.proofs.Common.{map, ap}
use Rattle.qed_terms.specs.View.{view_setting}
use Rattle.qed_terms.proofs.Kept.{kept_trees}
use Rattle.instance_rounds.proofs.RoundLaws.{formulas_made}
use Rattle.instance_rounds.proofs.rounds.formulas_of.Goals as goal

pub returns-clause-formulas : goal.returns-clause-formulas
returns-clause-formulas g c =
    let held = g.S.TermStore.held in
    let tree = g.S.TermStore.tree in
    let first = c.args.store.now in
    let second = c.given_formulas.new.store in
    let older = c.in_ok-given.ensures.older in
    formulas_made (view_setting c.args.world.now) _ _ _ _ _ _ _ _ _
    (kept_trees (held first) (held second) (tree first) (tree second) c.args.literals.now older c.requires.literals)
    (kept_trees (held first) (held second) (tree first) (tree second) c.args.nodes.now older c.requires.nodes)
    (ap (map (tree second)) c.as_slice.ensures.value) (ap (map (tree second)) c.as_slice-2.ensures.value)
    c.in_ok-given.ensures.given c.in_ok-made.ensures.stand
