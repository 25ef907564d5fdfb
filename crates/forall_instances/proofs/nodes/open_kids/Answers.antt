use Rattle.std.proofs.Common.{◌<◌, map, All, sym, subst, ◌∙◌, ap}
use Rattle.std.proofs.lemmas.List.Elements.{All-take}
use Rattle.qed_terms.specs.declared.head.Sort.TheVariants as sorts
use Rattle.qed_terms.specs.Free.{binds}
use Rattle.qed_terms.specs.Tree.{size}
use Rattle.forall_instances.specs.Nodes.{nodes_each}
use Rattle.equality_variables.proofs.OpenKids.{two_there, kids_smaller}
use Rattle.forall_instances.proofs.OpenNodes.{bounds_open, all_open}
use Rattle.forall_instances.proofs.nodes.open_kids.Goals as goal

pub first_two-requires : goal.first_two-requires
first_two-requires g c =
    let s = c.args.store.now in
    let t = g.S.TermStore.tree s c.args.id in
    two_there (g.S.TermStore.tree s) c.args.name.now sorts.Int t c.kids-kids.result.now c.kids-kids.ensures.stand (g.met.S.TermStore.well_formed s c.args.id c.requires) (ap (binds c.args.name.now sorts.Int) (sym c.head.ensures) ∙ sym c.binds.ensures ∙ c.if-binds.true)

pub returns-then-binds-clause-held : goal.returns-then-binds-clause-held
returns-then-binds-clause-held g c =
    let held = g.S.TermStore.held c.args.store.now in
    subst (All held) (sym c.first_two.ensures) (All-take held 2 c.kids-kids.result.now c.kids-kids.ensures.held)

pub returns-then-binds-clause-open : goal.returns-then-binds-clause-open
returns-then-binds-clause-open g c =
    let s = c.args.store.now in
    let tree = g.S.TermStore.tree s in
    bounds_open c.args.name.now tree (tree c.args.id) c.kids-kids.result.now c.kids-kids.ensures.stand (g.met.S.TermStore.well_formed s c.args.id c.requires) (ap (binds c.args.name.now sorts.Int) (sym c.head.ensures) ∙ sym c.binds.ensures ∙ c.if-binds.true)
    ∙ ap (λ z. nodes_each c.args.name.now (map tree z)) (sym c.first_two.ensures)

pub returns-then-binds-clause-smaller : goal.returns-then-binds-clause-smaller
returns-then-binds-clause-smaller g c =
    let tree = g.S.TermStore.tree c.args.store.now in
    let t = tree c.args.id in
    subst (All (λ k. size (tree k) < size t)) (sym c.first_two.ensures) (All-take (λ k. size (tree k) < size t) 2 c.kids-kids.result.now (kids_smaller tree t c.kids-kids.result.now c.kids-kids.ensures.stand))

pub returns-clause-open : goal.returns-clause-open
returns-clause-open g c =
    let tree = g.S.TermStore.tree c.args.store.now in
    all_open c.args.name.now tree (tree c.args.id) c.kids-kids.result.now c.kids-kids.ensures.stand (ap (binds c.args.name.now sorts.Int) (sym c.head.ensures) ∙ sym c.binds.ensures ∙ c.if-binds.false)

pub returns-clause-smaller : goal.returns-clause-smaller
returns-clause-smaller g c =
    let tree = g.S.TermStore.tree c.args.store.now in
    kids_smaller tree (tree c.args.id) c.kids-kids.result.now c.kids-kids.ensures.stand
