use Rattle.std.proofs.Common.{map, ◌∙◌, ap}
use Rattle.std.specs.Int.{w128}
use Rattle.std.proofs.lemmas.Int.{to_z-of_z}
use Rattle.qed_terms.specs.declared.head.Head.TheVariants as h
use Rattle.qed_terms.specs.Store.{is_well_formed, over}
use Rattle.equality_variables.proofs.made.number_term.Goals as goal

pub make-requires-clause-fit : goal.make-requires-clause-fit
make-requires-clause-fit g c =
    let none = c.as_slice.ensures.value ∙ c.new-none.ensures.items in
    ap (λ z. is_well_formed (over (h.Num c.args.number) (map (g.S.TermStore.tree c.args.store.now) z))) none

pub returns-clause-tree : goal.returns-clause-tree
returns-clause-tree g c =
    let none = c.as_slice.ensures.value ∙ c.new-none.ensures.items in
    c.in_ok-id.ensures.stands ∙ (λ i. over (h.Num (to_z-of_z w128 c.args.number c.ranges.number i)) (map (g.S.TermStore.tree c.args.store.now) (none i)))
