use Rattle.std.proofs.Common.{get_or, subst, ◌∙◌, ap, arith}
use Rattle.std.proofs.lemmas.List.{length-map}
use Rattle.qed_terms.specs.View.{view_setting}
use Rattle.qed_rules.specs.Rules.{step}
use Rattle.qed_simplify.specs.Normal.{Normal}
use Rattle.branches.specs.Ids.{branch_of}
use Rattle.branches.proofs.Stores.{branch_same}
use Rattle.branch_changes.specs.Givens.{can_put}
use Rattle.branch_changes.specs.Ids.{given_of}
use Rattle.variable_changes.specs.Found.{IsFirstElimination, EliminationHeld}
use Rattle.variable_changes.proofs.Firsts.{can_found}
use Rattle.variable_changes.proofs.Replaced.{eliminated, none_eliminated}
use Rattle.variable_changes.proofs.eliminate.eliminate_variable.Goals as goal

pub returns-in-None-clause-tried : goal.returns-in-None-clause-tried
returns-in-None-clause-tried g c =
    let tree = g.S.TermStore.tree in
    let b = branch_of (tree c.args.store.now) c.args.branch.now in
    none_eliminated (Normal (step (view_setting c.args.world.now))) b (subst (IsFirstElimination (tree c.first_elimination.new.store) b) c.in-None.is c.in_ok-found.ensures.first)

pub replaced-requires-clause-at : goal.replaced-requires-clause-at
replaced-requires-clause-at g c =
    let tree = g.S.TermStore.tree in
    let ids = c.args.branch.now.literals in
    let b = branch_of (tree c.args.store.now) c.args.branch.now in
    let first = subst (IsFirstElimination (tree c.first_elimination.new.store) b) c.in-Some.is c.in_ok-found.ensures.first in
    let long = length-map ids (tree c.args.store.now) in
    let k = first.0 in
    omega (arith, k, long)

pub replaced-requires-clause-term : goal.replaced-requires-clause-term
replaced-requires-clause-term g c =
    let s' = c.first_elimination.new.store in
    (subst (EliminationHeld (g.S.TermStore.held s') (g.S.TermStore.tree s')) c.in-Some.is c.in_ok-found.ensures.held).0

pub replaced-requires-clause-stands : goal.replaced-requires-clause-stands
replaced-requires-clause-stands g c =
    let s' = c.first_elimination.new.store in
    (subst (EliminationHeld (g.S.TermStore.held s') (g.S.TermStore.tree s')) c.in-Some.is c.in_ok-found.ensures.held).1

pub replaced-requires-clause-can : goal.replaced-requires-clause-can
replaced-requires-clause-can g c =
    let held = g.S.TermStore.held in
    let tree = g.S.TermStore.tree in
    let s = c.args.store.now in
    let s' = c.first_elimination.new.store in
    let b = branch_of (tree s) c.args.branch.now in
    let first = subst (IsFirstElimination (tree s') b) c.in-Some.is c.in_ok-found.ensures.first in
    let same = branch_same (held s) (held s') (tree s) (tree s') c.in_ok-found.ensures.older c.args.branch.now c.requires.held in
    ap (λ z. can_put z (given_of (tree s') c.in-Some.found.given)) same ∙ can_found b (given_of (tree s') c.in-Some.found.given) (get_or b.literals c.in-Some.found.at) first.2

pub returns-in_ok-made-in-Some-clause-tried : goal.returns-in_ok-made-in-Some-clause-tried
returns-in_ok-made-in-Some-clause-tried g c =
    let held = g.S.TermStore.held in
    let tree = g.S.TermStore.tree in
    let s = c.args.store.now in
    let s' = c.first_elimination.new.store in
    let s'' = c.replaced.new.store in
    let b = branch_of (tree s) c.args.branch.now in
    let b' = branch_of (tree s') c.args.branch.now in
    let found = c.in-Some.found in
    let first = subst (IsFirstElimination (tree s') b) c.in-Some.is c.in_ok-found.ensures.first in
    let same = branch_same (held s) (held s') (tree s) (tree s') c.in_ok-found.ensures.older c.args.branch.now c.requires.held in
    eliminated (Normal (step (view_setting c.args.world.now))) b b' (branch_of (tree s'') c.in_ok-made-in-Some.made) found.at (given_of (tree s') found.given) same first.0 first.1 first.2 c.in_ok-made-in-Some.ensures.replaced
