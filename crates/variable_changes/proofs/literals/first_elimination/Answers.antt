use Rattle.std.proofs.Common.{◌≡◌, ◌<◌, None, length, get_or, refl, sym, ◌∙◌, ap, subst}
use Rattle.std.specs.Prelude.{option_map}
use Rattle.qed_terms.proofs.Kept.{kept_over}
use Rattle.branches.specs.Ids.{branch_of}
use Rattle.branches.proofs.Stores.{branch_same}
use Rattle.branch_changes.specs.Changes.{Gives}
use Rattle.branch_changes.specs.Givens.{first_put, givens}
use Rattle.branch_changes.specs.Ids.{given_of}
use Rattle.changed_branches.proofs.Firsts.{one_more}
use Rattle.variable_changes.proofs.Firsts.{gives_none, gives_at}
use Rattle.variable_changes.proofs.literals.first_elimination.Goals as goal

pub loop-at-preserved : goal.loop-at-preserved
loop-at-preserved g c =
    let tree = g.S.TermStore.tree in
    let held = g.S.TermStore.held in
    let s = c.args.store.now in
    let s' = c.loop-at.store in
    let s'' = c.first_given.new.store in
    let b = c.args.branch.now in
    let id = c.index-literals-at.result in
    let at = c.loop-at.at in
    let older = c.loop-at.invariant.older in
    let same = branch_same (held s) (held s') (tree s) (tree s') older b c.requires.held in
    let below = subst (λ z. at < length z) c.as_slice-literals.ensures c.loop-at-test.true in
    let is = c.index-literals-at.is ∙ ap (λ z. get_or z at id) c.as_slice-literals.ensures in
    let id_held = subst (held s) (sym is) (c.requires.held.0 at id below) in
    let told : None ≡ first_put (branch_of (tree s) b) (givens (tree s id)) = sym (ap (option_map (given_of (tree s''))) c.in-None.is) ∙ c.in_ok-first.ensures.first ∙ (λ i. first_put (same i) (givens (older.same_tree id id_held i))) in
    record {
      ready = c.in_ok-first.ensures.ready;
      older = kept_over (held s) (held s') (held s'') (tree s) (tree s') (tree s'') older c.in_ok-first.ensures.older;
      none = one_more (tree s) (Gives (branch_of (tree s) b)) b.literals at id c.loop-at.invariant.none below is (gives_none (branch_of (tree s) b) (tree s id) told);
    }

pub returns-in-Some-clause-first : goal.returns-in-Some-clause-first
returns-in-Some-clause-first g c =
    let tree = g.S.TermStore.tree in
    let held = g.S.TermStore.held in
    let s = c.args.store.now in
    let s' = c.loop-at.store in
    let s'' = c.first_given.new.store in
    let b = c.args.branch.now in
    let id = c.index-literals-at.result in
    let at = c.loop-at.at in
    let older = c.loop-at.invariant.older in
    let same = branch_same (held s) (held s') (tree s) (tree s') older b c.requires.held in
    let below = subst (λ z. at < length z) c.as_slice-literals.ensures c.loop-at-test.true in
    let is = c.index-literals-at.is ∙ ap (λ z. get_or z at id) c.as_slice-literals.ensures in
    let id_held = subst (held s) (sym is) (c.requires.held.0 at id below) in
    let told = sym (ap (option_map (given_of (tree s''))) c.in-Some.is) ∙ c.in_ok-first.ensures.first ∙ (λ i. first_put (same i) (givens (older.same_tree id id_held i))) in
    gives_at (tree s) (tree s'') (branch_of (tree s) b) b.literals at id c.in-Some.given c.elimination_of.result c.elimination_of.ensures.at c.elimination_of.ensures.given c.loop-at.invariant.none below is told refl
