use Rattle.std.proofs.Common.{sym, ◌∙◌, ap, map}
use Rattle.qed_terms.specs.Nodes.{room_after}
use Rattle.branches.specs.Branch.{nodes_of}
use Rattle.branches.specs.Expansion.{node_limit}
use Rattle.branches.proofs.Places.{over_first, over_second, not_over}
use Rattle.branches.proofs.sizes.is_large.Goals as goal

pub returns-in-None : goal.returns-in-None
returns-in-None g c =
    let tree = g.S.TermStore.tree c.args.store.now in
    over_first _ _ (sym c.in-None.is ∙ c.room_after_all.ensures ∙ ap (λ z. room_after node_limit (nodes_of (map tree z))) c.as_slice.ensures)

pub returns-in-None-room_after_all : goal.returns-in-None-room_after_all
returns-in-None-room_after_all g c =
    let tree = g.S.TermStore.tree c.args.store.now in
    let room = c.in-Some.room in
    over_second _ _ room (sym c.in-Some.is ∙ c.room_after_all.ensures ∙ ap (λ z. room_after node_limit (nodes_of (map tree z))) c.as_slice.ensures)
    (sym c.in-None-room_after_all.is ∙ c.room_after_all-in-Some.ensures ∙ ap (λ z. room_after room (nodes_of (map tree z))) c.as_slice-in-Some.ensures)

pub returns-in-Some-room_after_all : goal.returns-in-Some-room_after_all
returns-in-Some-room_after_all g c =
    let tree = g.S.TermStore.tree c.args.store.now in
    let room = c.in-Some.room in
    not_over _ _ room c.in-Some-room_after_all.field-0 (sym c.in-Some.is ∙ c.room_after_all.ensures ∙ ap (λ z. room_after node_limit (nodes_of (map tree z))) c.as_slice.ensures)
    (sym c.in-Some-room_after_all.is ∙ c.room_after_all-in-Some.ensures ∙ ap (λ z. room_after room (nodes_of (map tree z))) c.as_slice-in-Some.ensures)
