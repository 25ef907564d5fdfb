use Rattle.std.proofs.Common.{◌≡◌}
use Rattle.clashes.specs.Seen.{place_in}
use Rattle.clashes.proofs.Seeing.{class_either}
use Rattle.clashes.proofs.seen.note.Goals as goal

pub returns-clause-others : goal.returns-clause-others
returns-clause-others c = λ other. class_either c.args.class other (place_in c.insert.new.self.entries other ≡ place_in c.args.seen.now.entries other) (λ e. c.in_ok-insert.ensures.updates.2 other e)
