use Rattle.drawn_instances.proofs.DrawnLaws.{drawn_over, held_three}
use Rattle.node_instances.proofs.TableLaws.{write_seen}
use Rattle.node_instances.proofs.tables.read_of_write.Goals as goal

pub returns : goal.returns
returns g c =
    let held = g.S.TermStore.held c.args.store.now in
    let tree = g.S.TermStore.tree c.args.store.now in
    let made = c.in_ok-made.ensures in
    let kids = c.in-Some.ensures in
    write_seen held tree _ _ _ _ _ _ c.look.result c.in-Write.kind c.look.ensures c.in-Write.is kids.3
    (drawn_over held tree _ _ _ _ _ made.ids c.in_ok-ids.ensures (held_three held _ _ _ kids.0 kids.1 kids.2) (made.formulas _ _ (c.readable.ensures _, tt)))
