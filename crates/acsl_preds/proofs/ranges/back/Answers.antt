use Rattle.std.proofs.Common.{sym, ap, ◌∙◌}
use Rattle.std.specs.Option.{option_copied}
use Rattle.acsl_preds.proofs.Ends.{back_last}
use Rattle.acsl_preds.proofs.ranges.back.Goals as goal

pub returns-in-Some : goal.returns-in-Some
returns-in-Some c = back_last c.args.chain.now c.in-Some.link.now c.len-count.result c.front.result c.len-count.ensures (sym c.get.ensures ∙ ap option_copied c.in-Some.is) c.front.ensures
