use Rattle.drawn_instances.proofs.DrawnLaws.{none_drawn, drawn_over, held_one}
use Rattle.node_instances.proofs.ConversionLaws.{wrap_unseen, wrap_unfit, wrap_bool, wrap_seen}
use Rattle.node_instances.proofs.conversions.cases_of_wrap.Goals as goal

pub returns-in_default : goal.returns-in_default
returns-in_default g c =
    let none = c.no_instances.ensures in
    none_drawn _ _ _ _ _ none.ids none.formulas (wrap_unseen c.args.long_bits _ c.look.result c.look.ensures c.in_default.not-Wrap)

pub returns-in_default-one_kid : goal.returns-in_default-one_kid
returns-in_default-one_kid g c =
    let none = c.no_instances-in_default-one_kid.ensures in
    none_drawn _ _ _ _ _ none.ids none.formulas (wrap_unfit c.args.long_bits _ c.in_default-one_kid.ensures)

pub returns-then-is_bool : goal.returns-then-is_bool
returns-then-is_bool g c =
    let none = c.no_instances-then-is_bool.ensures in
    none_drawn _ _ _ _ _ none.ids none.formulas
    (wrap_bool c.args.long_bits _ _ c.look.result c.in-Wrap.kind c.is_bool.result c.look.ensures c.in-Wrap.is (c.in-Some.ensures).1 c.is_bool.ensures c.if-is_bool.true)

pub returns : goal.returns
returns g c =
    let held = g.S.TermStore.held c.args.store.now in
    let tree = g.S.TermStore.tree c.args.store.now in
    let made = c.in_ok-made.ensures in
    let kid = c.in-Some.ensures in
    wrap_seen held tree _ _ c.args.long_bits _ _ c.look.result c.in-Wrap.kind c.is_bool.result c.range_of-range.result c.look.ensures c.in-Wrap.is kid.1 c.is_bool.ensures c.if-is_bool.false c.range_of-range.ensures
    (drawn_over held tree _ _ _ _ _ made.ids c.in_ok-ids.ensures (held_one held _ kid.0)
    (made.formulas _ _ (c.in_range.ensures _, (c.kept.ensures _, (c.turned_down.ensures _, (c.turned_up.ensures _, tt))))))
