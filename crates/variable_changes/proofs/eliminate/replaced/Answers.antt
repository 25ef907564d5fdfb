use Rattle.std.proofs.Common.{◌++◌, ◌+◌, take, drop, map, sym, subst, ◌∙◌, ap}
use Rattle.std.specs.List.{list_all}
use Rattle.qed_terms.specs.View.{view_setting}
use Rattle.qed_terms.proofs.Kept.{kept_trees}
use Rattle.qed_rules.specs.Rules.{step}
use Rattle.qed_simplify.specs.Normal.{Normal}
use Rattle.branches.specs.Branch.{branch}
use Rattle.branch_changes.specs.Changes.{EachTo, literals_of, others_of}
use Rattle.branch_changes.specs.Givens.{put, may_put, may_stand_for}
use Rattle.branch_changes.specs.Ids.{given_of}
use Rattle.variable_changes.proofs.Firsts.{given_same}
use Rattle.variable_changes.proofs.Replaced.{trees_without, held_without, others_may, waiting_may}
use Rattle.variable_changes.proofs.eliminate.replaced.Goals as goal

pub put_all-requires-clause-held : goal.put_all-requires-clause-held
put_all-requires-clause-held g c =
    let b = c.args.branch.now in
    let at = c.args.at in
    let rest = c.as_slice-2.ensures.value ∙ c.in_ok-others.ensures ∙ ap (λ xs. take at xs ++ drop (at + 1) xs) c.as_slice.ensures in
    held_without (g.S.TermStore.held c.args.store.now) b.literals _ at rest c.requires.held.0

pub put_all-requires-clause-may : goal.put_all-requires-clause-may
put_all-requires-clause-may g c =
    let tree = g.S.TermStore.tree c.args.store.now in
    let b = c.args.branch.now in
    let at = c.args.at in
    let rest = c.as_slice-2.ensures.value ∙ c.in_ok-others.ensures ∙ ap (λ xs. take at xs ++ drop (at + 1) xs) c.as_slice.ensures in
    others_may tree b (given_of tree c.args.given.now) _ at rest c.requires.can

pub put_all-requires-2-clause-stands : goal.put_all-requires-2-clause-stands
put_all-requires-2-clause-stands g c = ap (may_stand_for c.args.given.now.sort) (c.in_ok-literals.ensures.older.same_tree c.args.given.now.term c.requires.term) ∙ c.requires.stands

pub put_all-requires-2-clause-may : goal.put_all-requires-2-clause-may
put_all-requires-2-clause-may g c =
    let held = g.S.TermStore.held in
    let tree = g.S.TermStore.tree in
    let s = c.args.store.now in
    let s' = c.put_all.new.store in
    let b = c.args.branch.now in
    let older = c.in_ok-literals.ensures.older in
    let given = given_same (held s) (held s') (tree s) (tree s') older c.args.given.now c.requires.term in
    let waiting = ap (map (tree s')) c.as_slice-3.ensures ∙ kept_trees (held s) (held s') (tree s) (tree s') b.waiting older c.requires.held.1 in
    (λ i. list_all (may_put (given i)) (waiting i)) ∙ waiting_may (tree s) b (given_of (tree s) c.args.given.now) c.requires.can

pub returns-clause-replaced : goal.returns-clause-replaced
returns-clause-replaced g c =
    let held = g.S.TermStore.held in
    let tree = g.S.TermStore.tree in
    let s = c.args.store.now in
    let s' = c.put_all.new.store in
    let s'' = c.put_all-2.new.store in
    let b = c.args.branch.now in
    let at = c.args.at in
    let normal = Normal (step (view_setting c.args.world.now)) in
    let older = c.in_ok-literals.ensures.older in
    let later = c.in_ok-waiting.ensures.older in
    let literals = c.in_ok-literals.literals.items in
    let given = given_same (held s) (held s') (tree s) (tree s') older c.args.given.now c.requires.term in
    let rest = c.as_slice-2.ensures.value ∙ c.in_ok-others.ensures ∙ ap (λ xs. take at xs ++ drop (at + 1) xs) c.as_slice.ensures in
    let others = trees_without (tree s) b.literals _ at rest in
    let same = kept_trees (held s') (held s'') (tree s') (tree s'') literals later c.in_ok-literals.ensures.held in
    let waiting = ap (map (tree s')) c.as_slice-3.ensures ∙ kept_trees (held s) (held s') (tree s) (tree s') b.waiting older c.requires.held.1 in
    let made = c.in_ok-made.ensures in
    let read = c.as_slice-4.ensures.value in
    record {
      literals_now = map (tree s'') literals;
      waiting_now = map (tree s'') c.in_ok-waiting.waiting.items;
      new_literals = subst (EachTo normal _) (sym same) (subst (λ ts. EachTo normal (map (put (given_of (tree s) c.args.given.now)) ts) (map (tree s') literals)) others c.in_ok-literals.ensures.normals);
      new_waiting = subst (λ ts. EachTo normal ts (map (tree s'') c.in_ok-waiting.waiting.items)) (λ i. map (put (given i)) (waiting i)) c.in_ok-waiting.ensures.normals;
      now = (λ i. branch (made.literals i) (made.waiting i)) ∙ (λ i. branch (literals_of (map (tree s'') (read i))) (map (tree s'') c.in_ok-waiting.waiting.items ++ others_of (map (tree s'') (read i))));
    }
