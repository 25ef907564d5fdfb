use Rattle.std.proofs.Common.{◌≡◌, ◌<◌, ◌≤◌, ◌++◌, ◌∷◌, [], map, length, get_or, subst}
use Rattle.program_steps.specs.Leaves.{fill}
use Rattle.program_steps.specs.Starting.{file_ranges}
use Rattle.core_trees.specs.View.{view_variables}
use Rattle.program_trees.specs.View.{view_facts}
use Rattle.qed_terms.specs.View.{formula_tree, term_tree}
use Rattle.function_walks.proofs.Bounds.{file_bounds_step, file_bounds_done}
use Rattle.function_walks.proofs.ranges.put_file_ranges.Goals as goal

pub loop-number-preserved : goal.loop-number-preserved
loop-number-preserved c m s texts =
    let p = view_facts c.args.facts.now in
    let ts = map term_tree c.args.slots.now in
    let gs = c.args.facts.now.globals in
    let n = c.loop-number.number in
    let x = c.variable-item.result in
    let same = c.as_slice-variable-items.ensures in
    let lt = subst (λ xs. n < length xs) same c.loop-number-test.true in
    let is = subst (λ xs. x ≡ get_or xs n x) same c.variable-item.is in
    file_bounds_step m p s texts ts gs n c.in_ok-slot.slot x (map formula_tree c.loop-number.known.items) (map formula_tree c.put_range.new.known.items)
    (map formula_tree c.args.known.now.items ++ map (fill (ts ∷ [])) (file_ranges m p s texts 0 (view_variables gs))) lt is c.in_ok-slot.ensures (c.loop-number.invariant m s texts)
    (c.in_ok-put_range.ensures m s texts)

pub returns : goal.returns
returns c m s texts =
    let p = view_facts c.args.facts.now in
    let ts = map term_tree c.args.slots.now in
    let gs = c.args.facts.now.globals in
    let n = c.loop-number.number in
    let over = subst (λ xs. length xs ≤ n) c.as_slice-variable-items.ensures c.loop-number-test.false in
    file_bounds_done m p s texts ts gs n (map formula_tree c.loop-number.known.items)
    (map formula_tree c.args.known.now.items ++ map (fill (ts ∷ [])) (file_ranges m p s texts 0 (view_variables gs))) over (c.loop-number.invariant m s texts)
