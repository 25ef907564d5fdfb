use Rattle.std.proofs.Common.{◌<◌, ◌++◌, ◌∷◌, [], map, length, All, sym, ap, subst, ◌∙◌, arith}
use Rattle.std.specs.Prelude.{◌↔◌, IsTrue}
use Rattle.std.proofs.lemmas.List.{map_push}
use Rattle.std.proofs.lemmas.List.Elements.{All-append, All-cons}
use Rattle.tree_places.specs.View.{nodes_of}
use Rattle.term_forms.specs.Forms.{tree_of}
use Rattle.branch_rows.proofs.Standing.{literals_same, literals_below}
use Rattle.closed_branches.specs.ClosedBranches.{AreClosed}
use Rattle.closed_branches.proofs.closing.would_close.Goals as goal

pub are_closed-requires-clause-below : goal.are_closed-requires-clause-below
are_closed-requires-clause-below g c =
    let ns = nodes_of c.literal_places.new.table in
    let ms = nodes_of c.place_of.new.table in
    let all = c.as_slice-2.ensures.value ∙ c.in_ok-push.ensures.items in
    let older = literals_below ns ms c.in_ok-places.places.items c.in_ok-place.ensures.grows c.in_ok-places.ensures.below in
    let last = All-cons (λ k. k < length ms) c.in_ok-place.place [] c.in_ok-place.ensures.below (λ k d l. absurd (omega arith)) in
    subst (λ xs. All (λ k. k < length ms) xs) (sym all) (All-append (λ k. k < length ms) c.in_ok-places.places.items (c.in_ok-place.place ∷ []) older last)

pub returns : goal.returns
returns g c =
    let tree = g.S.TermStore.tree c.args.store.now in
    let ns = nodes_of c.literal_places.new.table in
    let ms = nodes_of c.place_of.new.table in
    let there = tree_of c.place_of.new.table in
    let places = c.in_ok-places.places.items in
    let place = c.in_ok-place.place in
    let older = literals_same ns ms places c.in_ok-places.ensures.kept.table.all c.in_ok-place.ensures.grows c.in_ok-places.ensures.below in
    let front = older ∙ c.in_ok-places.ensures.trees ∙ ap (map tree) c.as_slice.ensures in
    let same = ap (map there) (c.as_slice-2.ensures.value ∙ c.in_ok-push.ensures.items) ∙ map_push there places place ∙ (λ i. front i ++ c.in_ok-place.ensures.tree i ∷ []) in
    subst (λ ls. IsTrue c.in_ok-answer.answer ↔ AreClosed g.T.LiteralTest.refuted ls) same c.in_ok-answer.ensures
