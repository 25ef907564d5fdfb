use Rattle.std.proofs.Common.{take, map, All}
use Rattle.qed_terms.specs.Store.{KeepsOlder}
use Rattle.qed_terms.specs.View.{view_setting}
use Rattle.qed_rules.specs.Rules.{step}
use Rattle.qed_simplify.specs.Normal.{Normal}
use Rattle.branch_changes.specs.Changes.{EachTo}
use Rattle.branch_changes.specs.Givens.{put}
use Rattle.branch_changes.specs.Ids.{given_of}
use Rattle.variable_changes.proofs.putting.put_all.Given as goal

abbrev pub invariant-loop-at : goal.invariant-loop-at
invariant-loop-at g l =
    let tree = g.S.TermStore.tree in
    let held = g.S.TermStore.held in
    let s = l.initial.store in
    record {
      ready : g.R.ChangeRules.ready l.rules l.store;
      older : KeepsOlder (held s) (held l.store) (tree s) (tree l.store);
      held : All (held l.store) l.made.items;
      normals : EachTo (Normal (step (view_setting l.world))) (map (put (given_of (tree s) l.given)) (map (tree s) (take l.at l.ids))) (map (tree l.store) l.made.items);
    }
