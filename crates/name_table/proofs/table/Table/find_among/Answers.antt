use Rattle.std.proofs.Common.{sym, ◌∙◌, ap}
use Rattle.name_table.proofs.Among.{missing_among, found_among, late_among, place}
use Rattle.name_table.proofs.table.Table.find_among.Goals as goal

-- src/table.rt:52:5
pub returns-then-place-count : goal.returns-then-place-count
returns-then-place-count g c =
    found_among c.args.self.now c.self.inside.entries.entries c.args.count c.args.name.now c.in-Some.place c.find.result (sym c.self.view_is)
    (sym c.in-Some.is ∙ c.get_index_of.ensures.index ∙ ap (λ y. place y c.self.inside.entries.entries) c.bytes.ensures) c.if-place-count.true c.find.ensures

-- src/table.rt:52:5
pub returns-else-place-count : goal.returns-else-place-count
returns-else-place-count g c =
    late_among c.args.self.now c.self.inside.entries.entries c.args.count c.args.name.now c.in-Some.place (sym c.self.view_is)
    (sym c.in-Some.is ∙ c.get_index_of.ensures.index ∙ ap (λ y. place y c.self.inside.entries.entries) c.bytes.ensures) c.if-place-count.false

-- src/table.rt:52:5
pub returns-in-None : goal.returns-in-None
returns-in-None g c =
    missing_among c.args.self.now c.self.inside.entries.entries c.args.count c.args.name.now (sym c.self.view_is)
    (sym c.in-None.is ∙ c.get_index_of.ensures.index ∙ ap (λ y. place y c.self.inside.entries.entries) c.bytes.ensures)
