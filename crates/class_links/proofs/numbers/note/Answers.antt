use Rattle.class_links.proofs.Least.{other_classes}
use Rattle.class_links.proofs.numbers.note.Goals as goal

pub returns-clause-others : goal.returns-clause-others
returns-clause-others c = other_classes c.args.class c.args.numbers.now.entries c.insert.new.self.entries c.in_ok-insert.ensures.updates.3
