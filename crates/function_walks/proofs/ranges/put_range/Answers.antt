use Rattle.std.proofs.Common.{rules, ◌≡◌, map, ap, ◌∙◌}
use Rattle.std.proofs.lemmas.List.{map_push}
use Rattle.c_kinds.specs.Models.{low, high}
use Rattle.core_trees.specs.View.{view_variable}
use Rattle.plain_states.specs.Scopes.{kind_of as kind_in}
use Rattle.program_trees.specs.View.{view_facts}
use Rattle.qed_terms.specs.View.{formula_tree, term_tree}
use Rattle.function_walks.proofs.Bounds.{range_put}
use Rattle.function_walks.proofs.ranges.put_range.Goals as goal

pub returns : goal.returns
returns c m s texts =
    let p = view_facts c.args.facts.now in
    let old = c.args.known.now.items in
    let kind = kind_in (view_variable c.args.variable.now) in
    let least : c.range-held.result.low ≡ low p.model kind = search (rules, c.range-held.ensures, c.kind_of.ensures) in
    let most : c.range-held.result.high ≡ high p.model kind = search (rules, c.range-held.ensures, c.kind_of.ensures) in
    let one = ap (map formula_tree) c.in_ok-push.ensures.items ∙ map_push formula_tree old c.in_ok-at_least.field-0 in
    let two = ap (map formula_tree) c.in_ok-push-2.ensures.items ∙ map_push formula_tree c.push.new.self.items c.in_ok-up_to.field-0 in
    range_put m p s texts (map term_tree c.args.slots.now) kind c.args.slot (map formula_tree old) (map formula_tree c.push.new.self.items) (map formula_tree c.push-2.new.self.items)
    c.range-held.result.low c.range-held.result.high (formula_tree c.in_ok-at_least.field-0) (formula_tree c.in_ok-up_to.field-0) least most c.in_ok-at_least.ensures c.in_ok-up_to.ensures one two
