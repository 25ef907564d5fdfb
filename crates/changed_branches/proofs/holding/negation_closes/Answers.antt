use Rattle.std.proofs.Common.{map, ◌∙◌, ap, subst}
use Rattle.qed_terms.specs.declared.head.Head.TheVariants as h
use Rattle.qed_terms.specs.Store.{is_well_formed, over}
use Rattle.qed_terms.specs.View.{view_setting}
use Rattle.qed_terms.proofs.Kept.{kept_over}
use Rattle.qed_rules.specs.Rules.{step}
use Rattle.qed_simplify.specs.Normal.{Normal}
use Rattle.branches.specs.Ids.{branch_of}
use Rattle.branches.proofs.Stores.{branch_same}
use Rattle.changed_branches.proofs.Fitting.{not_fits}
use Rattle.changed_branches.proofs.Told.{told_negation}
use Rattle.changed_branches.proofs.holding.negation_closes.Goals as goal

pub make-requires-clause-fit : goal.make-requires-clause-fit
make-requires-clause-fit g c =
    let tree = g.S.TermStore.tree c.args.store.now in
    let kids = c.as_slice.ensures.value ∙ c.in_ok-kids.ensures in
    ap (λ z. is_well_formed (over h.Not (map tree z))) kids ∙ not_fits (tree c.args.id) c.requires.formula

pub returns-clause-told : goal.returns-clause-told
returns-clause-told g c =
    let s = c.args.store.now in
    let s' = c.make.new.self in
    let s'' = c.normal.new.store in
    let tree = g.S.TermStore.tree in
    let held = g.S.TermStore.held in
    let setting = view_setting c.args.world.now in
    let b = c.args.branch.now in
    let kids = c.as_slice.ensures.value ∙ c.in_ok-kids.ensures in
    let kept = kept_over (held s) (held s') (held s'') (tree s) (tree s') (tree s'') c.in_ok-negation.ensures.older c.in_ok-normal.ensures.older in
    let same = branch_same (held s) (held s'') (tree s) (tree s'') kept b c.requires.held in
    let negation = c.in_ok-negation.ensures.stands ∙ ap (λ z. over h.Not (map (tree s) z)) kids in
    let normal = subst (λ z. Normal (step setting) z (tree s'' c.in_ok-normal.normal)) negation c.in_ok-normal.ensures.normal in
    told_negation g.R.ChangeRules.closed setting (branch_of (tree s) b) (branch_of (tree s'') b) (tree s c.args.id) (tree s'' c.in_ok-normal.normal) c.in_ok-closes.closes same normal c.in_ok-closes.ensures.told
