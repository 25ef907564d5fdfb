use Rattle.std.proofs.Common.{map, sym, ◌∙◌, ap}
use Rattle.std.specs.List.{list_all}
use Rattle.qed_terms.specs.WellFormed.{fits, formula}
use Rattle.qed_terms.specs.View.{view_setting}
use Rattle.qed_rules.specs.Rules.{step}
use Rattle.qed_simplify.specs.Normal.{Normal}
use Rattle.branches.specs.declared.kinds.Kind.TheVariants as kind
use Rattle.branches.specs.Branch.{is_kind}
use Rattle.branches.specs.Ids.{branch_of}
use Rattle.branch_changes.specs.Changes.{Holds}
use Rattle.changed_branches.proofs.Fitting.{disjuncts_fit}
use Rattle.changed_branches.proofs.Told.{told_kids}
use Rattle.changed_branches.proofs.holding.has_true.Goals as goal

pub some_holds-requires-clause-formulas : goal.some_holds-requires-clause-formulas
some_holds-requires-clause-formulas g c =
    let s = c.args.store.now in
    let tree = g.S.TermStore.tree s in
    let is_or = ap (is_kind kind.Or) (sym c.head.ensures) ∙ sym c.has_kind.ensures ∙ c.if-not-has_kind.false in
    let kids = ap (map tree) (c.as_slice.ensures.value ∙ c.in_ok-kids.ensures.items) ∙ c.kids.ensures.stand in
    ap (list_all (fits formula)) kids ∙ disjuncts_fit (tree c.args.id) is_or (g.met.S.TermStore.well_formed s c.args.id c.requires.id)

pub returns-clause-told : goal.returns-clause-told
returns-clause-told g c =
    let s = c.args.store.now in
    let tree = g.S.TermStore.tree s in
    let is_or = ap (is_kind kind.Or) (sym c.head.ensures) ∙ sym c.has_kind.ensures ∙ c.if-not-has_kind.false in
    let kids = ap (map tree) (c.as_slice.ensures.value ∙ c.in_ok-kids.ensures.items) ∙ c.kids.ensures.stand in
    let so = Holds (Normal (step (view_setting c.args.world.now))) g.R.ChangeRules.closed (branch_of tree c.args.branch.now) in
    told_kids so (tree c.args.id) (map tree c.as_slice.result.now) c.in_ok-so.so is_or kids c.in_ok-so.ensures.told
