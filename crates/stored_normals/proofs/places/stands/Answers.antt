use Rattle.std.proofs.Common.{◌∙◌, ap}
use Rattle.qed_terms.specs.WellFormed.{may_stand}
use Rattle.stored_normals.specs.Places.{wanted}
use Rattle.stored_normals.proofs.Fits.{head_tells}
use Rattle.stored_normals.proofs.places.stands.Goals as goal

pub returns : goal.returns
returns g c =
    let tree = g.S.TermStore.tree c.args.store.now in
    c.may_stand.ensures ∙ ap (may_stand (wanted c.args.place)) c.head.ensures ∙ head_tells (wanted c.args.place) (tree c.args.id) (g.met.S.TermStore.well_formed c.args.store.now c.args.id c.requires)
