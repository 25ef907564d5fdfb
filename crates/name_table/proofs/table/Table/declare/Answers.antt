use Rattle.std.proofs.Common.{rules, ◌∙◌}
use Rattle.name_table.proofs.Tables.{inserted}
use Rattle.name_table.proofs.table.Table.declare.Goals as goal

pub returns-clause-ok : goal.returns-clause-ok
returns-clause-ok g c =
    inserted c.args.self.now c.self.inside.entries c.insert.new.self.entries c.in_ok-key.key c.args.name.now c.args.meaning (search (rules, c.self.view_is)) (search rules) (c.in_ok-key.ensures.items ∙ c.bytes.ensures) c.in_ok-insert.ensures.entries
