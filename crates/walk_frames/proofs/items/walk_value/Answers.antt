use Rattle.std.proofs.Common.{rules, ◌≡◌, ◌++◌, ◌∷◌, [], map, ◌∙◌}
use Rattle.core_trees.specs.View.{view_variables}
use Rattle.qed_terms.specs.View.{term_tree}
use Rattle.typed_prog.specs.View.{view_value}
use Rattle.value_terms.specs.Terms.{term_of}
use Rattle.value_terms.specs.Words.{word_of}
use Rattle.value_words.specs.OverSlots.{fill_item, fill_term, leaf_reading}
use Rattle.value_words.specs.View.{view_items, view_term}
use Rattle.walk_frames.specs.View.{facts_in, shape_in}
use Rattle.walk_frames.proofs.Asking.{evaluated}
use Rattle.walk_frames.proofs.items.walk_value.Goals as goal

pub returns : goal.returns
returns g c first m k closed =
    let p = facts_in c.args.frame in
    let e = view_value c.args.value.now in
    let olds = map (map term_tree) c.args.state.now.olds.items in
    let vars : c.as_slice.result.now ≡ c.args.frame.variables.now = search (rules, c.as_slice.ensures) in
    let slots : c.as_slice-2.result.now ≡ c.args.state.now.world.slots.items = search (rules, c.as_slice-2.ensures.value) in
    let none : c.new-items.result.items ≡ [] = search (rules, c.new-items.ensures.items) in
    let is = c.in_ok-made.ensures.term olds ∙ (λ i. fill_term (map term_tree (slots i) ∷ olds) (term_of p (view_variables (vars i)) (leaf_reading p (view_variables (vars i))) e)) in
    let filled = c.in_ok-made.ensures.items olds ∙ (λ i. view_items (none i) ++ map (fill_item (map term_tree (slots i) ∷ olds)) (word_of p (view_variables (vars i)) (leaf_reading p (view_variables (vars i))) e)) in
    evaluated m p (shape_in c.args.frame k) e (view_term c.in_ok-made.made) (view_items c.word_of.new.items.items) closed is filled
    (λ is a b. c.in_ok-walk_items.ensures first m c.args.frame.bases.now is a b)
