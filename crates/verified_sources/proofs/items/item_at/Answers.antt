use Rattle.std.proofs.Common.{sym, ◌∙◌}
use Rattle.verified_sources.proofs.Numbered.{here, missing}
use Rattle.verified_sources.proofs.items.item_at.Goals as goal

pub returns-in-Some : goal.returns-in-Some
returns-in-Some g c = c.as_ref.ensures.value ∙ sym (here c.args.items.now c.args.number c.in-Some.found.now c.in-Some.ensures.lookup.3.0 c.in-Some.ensures.lookup.1)

pub returns-in-None : goal.returns-in-None
returns-in-None g c = sym (missing c.args.items.now c.args.number c.in-None.ensures.lookup.3)
