use Rattle.std.proofs.Common.{rules, ◌≡◌, ◌++◌, ◌∷◌, [], true, map, ap, ◌∙◌}
use Rattle.program_steps.specs.Leaves.{fill}
use Rattle.program_steps.specs.Starting.{file_ranges, param_ranges, required_trees, all_required}
use Rattle.program_trees.specs.View.{view_contract}
use Rattle.qed_terms.specs.View.{formula_tree, term_tree}
use Rattle.walk_frames.specs.View.{facts_in, shape_in}
use Rattle.function_walks.proofs.Requiring.{two_behind}
use Rattle.function_walks.proofs.entry.entry_known.Goals as goal

pub returns : goal.returns
returns g c m k h =
    let p = facts_in c.args.frame in
    let s = shape_in c.args.frame k in
    let texts = g.T.Texts.text c.args.texts.now in
    let contract = view_contract c.args.frame.contract.now in
    let ss = map term_tree c.args.state.now.world.slots.items ∷ [] in
    let one = map formula_tree c.put_file_ranges.new.known.items in
    let two = map formula_tree c.put_param_ranges.new.known.items in
    let three = map formula_tree c.put_required.new.known.items in
    let files = file_ranges m p s texts 0 p.globals in
    let params = param_ranges m p s texts c.args.params 0 s.variables in
    let required = required_trees m p s texts true contract.plain ++ all_required m p s texts contract.behaviors in
    let same = ap (map term_tree) c.as_slice-slots.ensures.value in
    let none : map formula_tree c.new-known.result.items ≡ [] = search (rules, c.new-known.ensures.items) in
    let first : one ≡ [] ++ map (fill ss) files = c.in_ok-put_file_ranges.ensures m s texts ∙ (λ i. none i ++ map (fill (same i ∷ [])) files) in
    let second : two ≡ one ++ map (fill ss) params = c.in_ok-put_param_ranges.ensures m k texts ∙ (λ i. one ++ map (fill (same i ∷ [])) params) in
    let third : three ≡ two ++ map (fill ss) required = c.in_ok-put_required.ensures m k ∙ (λ i. two ++ map (fill (h i)) required) in
    two_behind ss [] one three files (params ++ required) first (two_behind ss one two three params required second third)
