use Rattle.std.proofs.Common.{map, sym, ◌∙◌, ap}
use Rattle.std.specs.List.{list_all}
use Rattle.qed_terms.specs.Nodes.{kids_of}
use Rattle.qed_terms.specs.WellFormed.{fits, formula}
use Rattle.branch_changes.specs.Changes.{rest_of_or}
use Rattle.changed_branches.proofs.Fitting.{disjuncts_fit, or_fits, all_without, more_left, trees_without}
use Rattle.changed_branches.proofs.disjuncts.left_of_or.Goals as goal

pub make-requires-2-clause-fit : goal.make-requires-2-clause-fit
make-requires-2-clause-fit g c =
    let s = c.args.store.now in
    let tree = g.S.TermStore.tree s in
    let ts = kids_of (tree c.args.id) in
    let ids = c.as_slice-2.result.now in
    let at = c.args.disjunct in
    let rest = c.as_slice-2.ensures.value ∙ c.into_vec-rest.ensures ∙ c.in_ok-rest.ensures in
    let trees = trees_without tree c.kids.result.now at ids ts rest c.kids.ensures.stand in
    let fit = disjuncts_fit (tree c.args.id) c.requires.or (g.met.S.TermStore.well_formed s c.args.id c.requires.held) in
    or_fits (map tree ids) (ap (list_all (fits formula)) trees ∙ all_without (fits formula) ts at fit)

pub returns-clause-left : goal.returns-clause-left
returns-clause-left g c =
    let tree = g.S.TermStore.tree c.args.store.now in
    let ts = kids_of (tree c.args.id) in
    let ids = c.as_slice-2.result.now in
    let at = c.args.disjunct in
    let rest = c.as_slice-2.ensures.value ∙ c.into_vec-rest.ensures ∙ c.in_ok-rest.ensures in
    let trees = trees_without tree c.kids.result.now at ids ts rest c.kids.ensures.stand in
    c.in_ok-left-2.ensures.stands ∙ more_left tree ids (λ e. c.if-len-eq0.false (c.len.ensures ∙ sym c.as_slice-2.ensures.len ∙ e)) (λ e. c.if-len-eq1.false (c.len-2.ensures ∙ sym c.as_slice-2.ensures.len ∙ e)) ∙ ap rest_of_or trees
