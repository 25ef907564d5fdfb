use Rattle.qed_terms.specs.Store.{KeepsOlder}
use Rattle.qed_terms.specs.View.{view_setting}
use Rattle.qed_rules.specs.Rules.{step}
use Rattle.qed_simplify.specs.Normal.{Normal}
use Rattle.tree_places.specs.View.{nodes_of, IsKept}
use Rattle.added_instances.proofs.Kept.{AreAdded}
use Rattle.added_instances.proofs.additions.added.Given as goal

abbrev pub invariant-loop-formula : goal.invariant-loop-formula
invariant-loop-formula g l =
    let tree = g.S.TermStore.tree in
    let held = g.S.TermStore.held in
    record {
      ready : g.R.ChangeRules.ready l.rules l.store;
      older : KeepsOlder (held l.initial.store) (held l.store) (tree l.initial.store) (tree l.store);
      kept : IsKept l.table;
      added : AreAdded (Normal (step (view_setting l.world))) (tree l.initial.store) (tree l.store) (held l.store) (nodes_of l.table) l.there l.formulas l.formula-index l.made l.marks.items;
    }
