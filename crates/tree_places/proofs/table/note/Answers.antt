use Rattle.tree_places.proofs.Numbers.{other_keys}
use Rattle.tree_places.proofs.table.note.Goals as goal

pub returns-clause-others : goal.returns-clause-others
returns-clause-others c = other_keys c.args.key c.args.places.now.entries c.insert.new.self.entries c.in_ok-insert.ensures.updates.3
