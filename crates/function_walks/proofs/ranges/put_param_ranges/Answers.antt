use Rattle.std.proofs.Common.{◌≡◌, ◌<◌, ◌≤◌, ◌+◌, ◌-◌, ◌++◌, ◌∷◌, [], map, drop, length, get_or, sym, ap, ◌∙◌, subst, arith}
use Rattle.plain_states.specs.Slots.{local_value}
use Rattle.program_steps.specs.Leaves.{fill}
use Rattle.program_steps.specs.Starting.{param_ranges}
use Rattle.core_trees.specs.View.{view_variables}
use Rattle.qed_terms.specs.View.{formula_tree, term_tree}
use Rattle.walk_frames.specs.View.{facts_in, shape_in}
use Rattle.function_walks.proofs.Bounds.{param_bounds_step, param_bounds_done, param_bounds_over}
use Rattle.function_walks.proofs.ranges.put_param_ranges.Goals as goal

pub returns-then-number-params : goal.returns-then-number-params
returns-then-number-params c m k texts =
    let p = facts_in c.args.frame in
    let s = shape_in c.args.frame k in
    let ts = map term_tree c.args.slots.now in
    let gs = c.args.frame.variables.now in
    let n = c.loop-variable.number in
    let old = map formula_tree c.loop-variable.known.items in
    let all = map formula_tree c.args.known.now.items ++ map (fill (ts ∷ [])) (param_ranges m p s texts c.args.params 0 (view_variables gs)) in
    let h =
    subst (λ i. old ++ map (fill (ts ∷ [])) (param_ranges m p s texts (c.args.params - n) n (view_variables (drop i gs))) ≡ all) (sym c.loop-variable.invariant.at)
    (c.loop-variable.invariant.known m k texts) in
    param_bounds_over m p s texts ts gs c.args.params n old all c.if-number-params.true h

pub loop-variable-preserved : goal.loop-variable-preserved
loop-variable-preserved c =
    let n = c.loop-variable.number in
    let i = c.loop-variable.variable-index in
    let at = c.loop-variable.invariant.at in
    let some = c.if-number-params.false in
    record {
      at = ap (λ j. j + 1) at;
      within = omega (arith, some);
      known = λ m k texts.
          let p = facts_in c.args.frame in
          let s = shape_in c.args.frame k in
          let ts = map term_tree c.args.slots.now in
          let gs = c.args.frame.variables.now in
          let x = c.variable-item.result in
          let same = c.as_slice-variable-items.ensures in
          let old = map formula_tree c.loop-variable.known.items in
          let new = map formula_tree c.put_range.new.known.items in
          let all = map formula_tree c.args.known.now.items ++ map (fill (ts ∷ [])) (param_ranges m p s texts c.args.params 0 (view_variables gs)) in
          let lt = subst (λ j. j < length gs) (sym at) (subst (λ xs. i < length xs) same c.loop-variable-test.true) in
          let is = subst (λ j. x ≡ get_or gs j x) (sym at) (subst (λ xs. x ≡ get_or xs i x) same c.variable-item.is) in
          let h =
          subst (λ j. old ++ map (fill (ts ∷ [])) (param_ranges m p s texts (c.args.params - n) n (view_variables (drop j gs))) ≡ all) (sym at)
          (c.loop-variable.invariant.known m k texts) in
          subst (λ j. new ++ map (fill (ts ∷ [])) (param_ranges m p s texts (c.args.params - (n + 1)) (n + 1) (view_variables (drop (j + 1) gs))) ≡ all) at
          (param_bounds_step m p s texts ts gs c.args.params n c.in_ok-slot.slot x old new all some lt is (c.in_ok-slot.ensures ∙ ap (λ z. local_value z n) c.sizes_in.ensures) h (c.in_ok-put_range.ensures m s texts));
    }

pub returns : goal.returns
returns c m k texts =
    let p = facts_in c.args.frame in
    let s = shape_in c.args.frame k in
    let ts = map term_tree c.args.slots.now in
    let gs = c.args.frame.variables.now in
    let n = c.loop-variable.number in
    let at = c.loop-variable.invariant.at in
    let old = map formula_tree c.loop-variable.known.items in
    let all = map formula_tree c.args.known.now.items ++ map (fill (ts ∷ [])) (param_ranges m p s texts c.args.params 0 (view_variables gs)) in
    let over = subst (λ j. length gs ≤ j) (sym at) (subst (λ xs. length xs ≤ c.loop-variable.variable-index) c.as_slice-variable-items.ensures c.loop-variable-test.false) in
    let h =
    subst (λ i. old ++ map (fill (ts ∷ [])) (param_ranges m p s texts (c.args.params - n) n (view_variables (drop i gs))) ≡ all) (sym at)
    (c.loop-variable.invariant.known m k texts) in
    param_bounds_done m p s texts ts gs c.args.params n old all over h
