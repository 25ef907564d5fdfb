use Rattle.std.proofs.Common.{◌<◌, map, All, sym, ap, subst, ◌∙◌}
use Rattle.std.specs.Prelude.{◌↔◌, IsTrue}
use Rattle.term_forms.specs.Forms.{tree_of, count_of}
use Rattle.closed_branches.specs.ClosedBranches.{AreClosed}
use Rattle.closed_branches.proofs.closing.is_closed.Goals as goal

pub are_closed-requires-clause-below : goal.are_closed-requires-clause-below
are_closed-requires-clause-below g c = subst (λ xs. All (λ k. k < count_of c.literal_places.new.table) xs) (sym c.as_slice-2.ensures.value) c.in_ok-places.ensures.below

pub returns : goal.returns
returns g c =
    let tree = g.S.TermStore.tree c.args.store.now in
    let there = tree_of c.literal_places.new.table in
    let same = ap (map there) c.as_slice-2.ensures.value ∙ c.in_ok-places.ensures.trees ∙ ap (map tree) c.as_slice.ensures in
    subst (λ ls. IsTrue c.in_ok-answer.answer ↔ AreClosed g.T.LiteralTest.refuted ls) same c.in_ok-answer.ensures
