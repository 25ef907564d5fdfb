use Rattle.std.proofs.Common.{map, ◌∙◌}
use Rattle.qed_terms.specs.declared.head.Head.TheVariants as h
use Rattle.qed_terms.specs.declared.head.Sort.TheVariants as sort
use Rattle.qed_terms.specs.Store.{is_well_formed, over}
use Rattle.changed_branches.proofs.Witnessing.{witness_fits}
use Rattle.changed_branches.proofs.witness.witness_term.Goals as goal

pub make-requires-clause-fit : goal.make-requires-clause-fit
make-requires-clause-fit g c =
    let none = c.as_slice.ensures.value ∙ c.new-none.ensures.items in
    (λ i. is_well_formed (over (h.Var (c.in_ok-new.ensures.name i) sort.Int) (map (g.S.TermStore.tree c.args.store.now) (none i)))) ∙ witness_fits c.in_ok-new.new.number
