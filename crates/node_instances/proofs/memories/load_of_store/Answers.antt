use Rattle.drawn_instances.proofs.DrawnLaws.{none_drawn, drawn_over, held_six}
use Rattle.node_instances.proofs.MemoryLaws.{store_unseen, load_stored}
use Rattle.node_instances.proofs.memories.load_of_store.Goals as goal

pub returns-in_default-look : goal.returns-in_default-look
returns-in_default-look g c =
    let none = c.no_instances-in_default-look.ensures in
    none_drawn _ _ _ _ _ none.ids none.formulas (store_unseen _ _ _ _ c.look-2.result (c.in-Some.ensures).3 c.look-2.ensures c.in_default-look.not-Store)

pub returns : goal.returns
returns g c =
    let held = g.S.TermStore.held c.args.store.now in
    let tree = g.S.TermStore.tree c.args.store.now in
    let made = c.in_ok-made.ensures in
    let kids = c.in-Some.ensures in
    let parts = c.in-Some-four_kids.ensures in
    load_stored held tree _ _ _ _ _ _ _ _ _ _ c.look.result c.look-2.result c.look.ensures c.in-Load.is kids.3 c.look-2.ensures c.in-Store.is parts.4
    (drawn_over held tree _ _ _ _ _ made.ids c.in_ok-ids.ensures (held_six held _ _ _ _ _ _ parts.0 parts.1 parts.2 parts.3 kids.1 kids.2)
    (made.formulas _ _ (c.load_by_address.ensures _, tt)))
