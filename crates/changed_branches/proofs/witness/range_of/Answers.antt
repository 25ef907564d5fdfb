use Rattle.std.proofs.Common.{◌≡◌, [], ◌∷◌, map, length, sym, ◌∙◌, ap}
use Rattle.std.proofs.lemmas.List.{length-map}
use Rattle.qed_terms.specs.declared.head.Head.TheVariants as h
use Rattle.qed_terms.specs.Tree.{head_of}
use Rattle.changed_branches.proofs.Witnessing.{exists_kids, by_three}
use Rattle.changed_branches.proofs.witness.range_of.Goals as goal

pub range_with-requires : goal.range_with-requires
range_with-requires g c =
    let s = c.args.store.now in
    let tree = g.S.TermStore.tree s in
    sym (length-map c.kids.result.now tree) ∙ ap length c.kids.ensures.stand ∙ exists_kids (tree c.args.id) c.requires.exists (g.met.S.TermStore.well_formed s c.args.id c.requires.held)

pub returns-clause-is : goal.returns-clause-is
returns-clause-is g c =
    let tree = g.S.TermStore.tree c.args.store.now in
    let r = c.range_with.result in
    let a = c.range_with.ensures.name in
    let b = c.in_ok-name-in-Exists.ensures in
    let d = c.in-Exists.is in
    let e = c.head.ensures in
    let head : h.Exists r.name ≡ head_of (tree c.args.id) = cc in
    by_three (tree c.args.id) r.name (tree r.low) (tree r.high) (tree r.body) head (ap (map tree) (sym c.range_with.ensures.kids) ∙ c.kids.ensures.stand)
