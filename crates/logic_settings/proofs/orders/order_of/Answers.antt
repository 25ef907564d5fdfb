use Rattle.std.proofs.Common.{◌≡◌, false, map, sym, ap, ◌∙◌, rules}
use Rattle.program_trees.specs.View.{view_facts}
use Rattle.logic_calls.specs.View.{view_names, view_spelling}
use Rattle.logic_order.specs.Names.{are_apart}
use Rattle.logic_settings.proofs.Ordering_all.{order_apart}
use Rattle.logic_settings.proofs.orders.order_of.Goals as goal

pub returns-then-not-apart : goal.returns-then-not-apart
returns-then-not-apart c =
    let lost : c.are_apart-apart.result ≡ false = search rules in
    order_apart (view_facts c.args.facts.now) (view_names c.args.names.now)
    (sym (c.are_apart-apart.ensures ∙ ap (λ ss. are_apart (map view_spelling ss)) c.as_slice.ensures) ∙ lost)
