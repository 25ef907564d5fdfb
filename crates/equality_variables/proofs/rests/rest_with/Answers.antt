use Rattle.std.proofs.Common.{map, subst}
use Rattle.std.specs.Prelude.{option_map}
use Rattle.std.specs.Int.{w128}
use Rattle.std.proofs.lemmas.Int.{to_z-of_z}
use Rattle.term_forms.specs.Forms.{signed}
use Rattle.equality_variables.specs.Forms.{parts_of, ArePartTerms}
use Rattle.equality_variables.proofs.Parts.{no_terms, some_terms}
use Rattle.equality_variables.proofs.rests.rest_with.Goals as goal

pub returns-in-None-clause-rest : goal.returns-in-None-clause-rest
returns-in-None-clause-rest g c =
    let s' = c.part_terms.new.store in
    let ps = map (signed c.args.plus) (parts_of (g.S.TermStore.tree c.args.store.now) c.args.parts.now) in
    no_terms ps c.args.constant (subst (λ z. ArePartTerms (g.S.TermStore.held s') (g.S.TermStore.tree s') ps (option_map (λ v. v.items) z)) c.in-None.is c.in_ok-terms.ensures.terms)

pub sum_with-requires : goal.sum_with-requires
sum_with-requires g c =
    let s' = c.part_terms.new.store in
    let ps = map (signed c.args.plus) (parts_of (g.S.TermStore.tree c.args.store.now) c.args.parts.now) in
    (subst (λ z. ArePartTerms (g.S.TermStore.held s') (g.S.TermStore.tree s') ps (option_map (λ v. v.items) z)) c.in-Some.is c.in_ok-terms.ensures.terms).1

pub returns-in_ok-id-in-Some-clause-rest : goal.returns-in_ok-id-in-Some-clause-rest
returns-in_ok-id-in-Some-clause-rest g c =
    let s' = c.part_terms.new.store in
    let tree' = g.S.TermStore.tree s' in
    let ps = map (signed c.args.plus) (parts_of (g.S.TermStore.tree c.args.store.now) c.args.parts.now) in
    let told = subst (λ z. ArePartTerms (g.S.TermStore.held s') tree' ps (option_map (λ v. v.items) z)) c.in-Some.is c.in_ok-terms.ensures.terms in
    some_terms ps c.args.constant _ (map tree' c.in-Some.terms.items) (g.S.TermStore.tree c.sum_with.new.store c.in_ok-id-in-Some.id) told.0 told.2 c.in_ok-id-in-Some.ensures.tree (to_z-of_z w128 c.args.constant c.ranges.constant)
