use Rattle.qed_terms.specs.View.{view_setting}
use Rattle.qed_rules.specs.Rules.{step}
use Rattle.qed_simplify.specs.Normal.{Normal}
use Rattle.branch_changes.specs.Changes.{Witnesses, FromEliminates}
use Rattle.branch_steps.proofs.Tails.{made_first, tried_next}
use Rattle.branch_steps.proofs.changing.from_witnesses.Goals as goal

pub returns-in-Some-clause-tried : goal.returns-in-Some-clause-tried
returns-in-Some-clause-tried g c =
    let tree = g.S.TermStore.tree in
    let normal = Normal (step (view_setting c.args.world.now)) in
    made_first (tree c.args.store.now) (tree c.witness_exists.new.store) (Witnesses normal) (FromEliminates normal g.R.ChangeRules.closed) c.args.branch.now c.in_ok-first.first c.in-Some.made c.in-Some.is c.in_ok-first.ensures.tried

pub returns-in_ok-next-in-None-clause-tried : goal.returns-in_ok-next-in-None-clause-tried
returns-in_ok-next-in-None-clause-tried g c =
    let tree = g.S.TermStore.tree in
    let held = g.S.TermStore.held in
    let s = c.args.store.now in
    let normal = Normal (step (view_setting c.args.world.now)) in
    tried_next (tree s) (tree c.witness_exists.new.store) (Witnesses normal) (FromEliminates normal g.R.ChangeRules.closed) c.args.branch.now c.in_ok-first.first c.in_ok-next-in-None.next (tree c.from_eliminates.new.store) (held s) (held c.witness_exists.new.store) c.in_ok-first.ensures.older c.requires.held c.in-None.is c.in_ok-first.ensures.tried c.in_ok-next-in-None.ensures.tried
