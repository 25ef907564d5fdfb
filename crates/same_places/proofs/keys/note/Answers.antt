use Rattle.same_places.proofs.Entries.{others_stay}
use Rattle.same_places.proofs.keys.note.Goals as goal

pub returns-clause-others : goal.returns-clause-others
returns-clause-others c = others_stay c.args.key c.args.seen.now.entries c.insert.new.self.entries c.in_ok-insert.ensures.updates.3
