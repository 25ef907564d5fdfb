use Rattle.std.proofs.Common.{sym, ap, ◌∙◌}
use Rattle.std.specs.Option.{option_copied}
use Rattle.qed_linear.proofs.TotalSteps.{some_times, no_times}
use Rattle.qed_linear.proofs.totals.times_of.Goals as goal

pub returns-in-Some : goal.returns-in-Some
returns-in-Some c = some_times c.args.key c.args.parts.now.entries c.in-Some.times.now (sym (ap option_copied c.in-Some.is) ∙ c.get.ensures.value)

pub returns-in-None : goal.returns-in-None
returns-in-None c = c.of.ensures ∙ no_times c.args.key c.args.parts.now.entries (sym (ap option_copied c.in-None.is) ∙ c.get.ensures.value)
