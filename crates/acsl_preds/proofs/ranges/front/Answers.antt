use Rattle.std.proofs.Common.{sym, ap, ◌∙◌}
use Rattle.std.specs.Option.{option_copied}
use Rattle.acsl_preds.proofs.Ends.{front_first}
use Rattle.acsl_preds.proofs.ranges.front.Goals as goal

pub returns-in-Some : goal.returns-in-Some
returns-in-Some c = front_first c.args.tree.now c.in-Some.first.now c.copy.result (sym c.get.ensures ∙ ap option_copied c.in-Some.is) c.copy.ensures
