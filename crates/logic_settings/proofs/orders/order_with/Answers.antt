use Rattle.std.proofs.Common.{◌≡◌, [], false, true, map, sym, ap, ◌∙◌, rules}
use Rattle.qed_terms.specs.View.{view_logic}
use Rattle.program_trees.specs.View.{view_facts}
use Rattle.regular_settings.specs.Shapes.{are_shaped_after}
use Rattle.logic_settings.specs.Found.{takes_of}
use Rattle.logic_settings.proofs.Ordering_all.{all_first, order_none, order_some}
use Rattle.logic_settings.proofs.orders.order_with.Goals as goal

pub returns-then-not-are_shaped : goal.returns-then-not-are_shaped
returns-then-not-are_shaped c = λ x apart fit first.
    let h = all_first c.args.facts.now x c.args.functions.known.items c.args.functions.logic.items first in
    let lost : c.are_shaped.result ≡ false = search rules in
    order_none (view_facts c.args.facts.now) x c.are_shaped.result c.args.functions.known.items c.args.functions.logic.items apart fit h
    (c.are_shaped.ensures ∙ ap (λ fs. are_shaped_after [] (map view_logic fs)) c.as_slice.ensures.value) lost

pub returns : goal.returns
returns c = λ x apart fit first.
    let h = all_first c.args.facts.now x c.args.functions.known.items c.args.functions.logic.items first in
    let kept : c.are_shaped.result ≡ true = search rules in
    let p = view_facts c.args.facts.now in
    let shaped = sym (c.are_shaped.ensures ∙ ap (λ fs. are_shaped_after [] (map view_logic fs)) c.as_slice.ensures.value) ∙ kept in
    order_some p x _ c.args.functions.known.items c.args.functions.logic.items apart fit h shaped c.from_vec.ensures
    (c.in_ok-takes.ensures ∙ ap (takes_of p) c.as_slice-2.ensures.value)
    (λ i. record { long_bits = c.long_bits.ensures i; logic = map view_logic (c.from_vec-2.ensures i) })
