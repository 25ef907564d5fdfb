use Rattle.std.proofs.Common.{◌≡◌, false, sym, ◌∙◌, rules}
use Rattle.program_trees.specs.View.{view_facts}
use Rattle.logic_calls.specs.View.{view_names}
use Rattle.logic_settings.proofs.Ordering_all.{order_unfit}
use Rattle.logic_settings.proofs.orders.order_over.Goals as goal

pub returns-then-not-fit : goal.returns-then-not-fit
returns-then-not-fit c =
    let lost : c.in_ok-fit.fit ≡ false = search rules in
    order_unfit (view_facts c.args.facts.now) (view_names c.args.names.now) (sym c.in_ok-fit.ensures ∙ lost)
