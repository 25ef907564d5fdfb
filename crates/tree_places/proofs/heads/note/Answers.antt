use Rattle.tree_places.proofs.Numbers.{other_heads}
use Rattle.tree_places.proofs.heads.note.Goals as goal

pub returns-clause-others : goal.returns-clause-others
returns-clause-others c = other_heads c.args.head c.args.numbers.now.entries c.insert.new.self.entries c.in_ok-insert.ensures.updates.3
