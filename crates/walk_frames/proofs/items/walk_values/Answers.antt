use Rattle.std.proofs.Common.{rules, ◌≡◌, ◌++◌, ◌∷◌, [], map, ◌∙◌}
use Rattle.core_trees.specs.View.{view_variables}
use Rattle.qed_terms.specs.View.{term_tree}
use Rattle.typed_prog.specs.Tree.{values_of}
use Rattle.typed_prog.specs.View.{view_values}
use Rattle.value_terms.specs.Terms.{terms_of}
use Rattle.value_terms.specs.Words.{words}
use Rattle.value_words.specs.OverSlots.{fill_item, fill_term, leaf_reading}
use Rattle.value_words.specs.View.{view_items, view_terms}
use Rattle.walk_frames.specs.View.{facts_in, shape_in}
use Rattle.walk_frames.proofs.Asking.{evaluated_all}
use Rattle.walk_frames.proofs.items.walk_values.Goals as goal

pub returns : goal.returns
returns g c first m k closed =
    let p = facts_in c.args.frame in
    let e = values_of (view_values c.args.values.now) in
    let olds = map (map term_tree) c.args.state.now.olds.items in
    let vars : c.as_slice.result.now ≡ c.args.frame.variables.now = search (rules, c.as_slice.ensures) in
    let slots : c.as_slice-2.result.now ≡ c.args.state.now.world.slots.items = search (rules, c.as_slice-2.ensures.value) in
    let none : c.new-items.result.items ≡ [] = search (rules, c.new-items.ensures.items) in
    let is = c.in_ok-made.ensures.terms olds ∙ (λ i. map (fill_term (map term_tree (slots i) ∷ olds)) (terms_of p (view_variables (vars i)) (leaf_reading p (view_variables (vars i))) e)) in
    let filled = c.in_ok-made.ensures.items olds ∙ (λ i. view_items (none i) ++ map (fill_item (map term_tree (slots i) ∷ olds)) (words p (view_variables (vars i)) (leaf_reading p (view_variables (vars i))) e)) in
    evaluated_all m p (shape_in c.args.frame k) e (view_terms c.in_ok-made.made.items) (view_items c.words_of.new.items.items) closed is filled
    (λ is a b. c.in_ok-walk_items.ensures first m c.args.frame.bases.now is a b)
