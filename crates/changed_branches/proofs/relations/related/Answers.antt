use Rattle.std.proofs.Common.{map, ◌∙◌, ap, subst}
use Rattle.qed_terms.specs.Store.{is_well_formed, over}
use Rattle.qed_terms.specs.View.{view_setting}
use Rattle.qed_rules.specs.Rules.{step}
use Rattle.qed_simplify.specs.Normal.{Normal}
use Rattle.changed_branches.proofs.relations.related.Goals as goal

pub make-requires-clause-fit : goal.make-requires-clause-fit
make-requires-clause-fit g c =
    let kids = c.as_slice.ensures.value ∙ c.in_ok-kids.ensures in
    ap (λ z. is_well_formed (over c.args.head (map (g.S.TermStore.tree c.args.store.now) z))) kids ∙ c.requires.fit

pub returns-clause-normal : goal.returns-clause-normal
returns-clause-normal g c =
    let kids = c.as_slice.ensures.value ∙ c.in_ok-kids.ensures in
    let is = c.in_ok-id.ensures.stands ∙ ap (λ z. over c.args.head (map (g.S.TermStore.tree c.args.store.now) z)) kids in
    subst (λ z. Normal (step (view_setting c.args.world.now)) z (g.S.TermStore.tree c.normal.new.store c.in_ok-normal.normal)) is c.in_ok-normal.ensures.normal
