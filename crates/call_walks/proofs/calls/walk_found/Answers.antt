use Rattle.std.proofs.Common.{rules, ◌≡◌, ℕ, List, map, length, sym, ap, ◌∙◌}
use Rattle.std.proofs.lemmas.List.{length-map}
use Rattle.typed_prog.specs.Tree.{values_of}
use Rattle.typed_prog.specs.View.{view_values}
use Rattle.qed_terms.specs.View.{term_tree}
use Rattle.walk_steps.specs.Forms.{Slots}
use Rattle.core_trees.specs.View.{view_variable}
use Rattle.checked_trees.specs.View.{view_checked_function}
use Rattle.call_walks.specs.View.{arguments_over}
use Rattle.call_walks.proofs.Calling.{asked_same}
use Rattle.step_walks.proofs.Walking.{seq_goes}
use Rattle.step_walks.specs.View.{view_state}
use Rattle.step_walks.specs.Walks.{Held, Walks, states}
use Rattle.walk_frames.specs.View.{facts_in, shape_in, variables_in, view_point}
use Rattle.call_walks.proofs.calls.walk_found.Goals as goal

pub returns : goal.returns
returns g c first m k os functions good fine =
    let p = facts_in c.args.frame in
    let xs = variables_in c.args.frame in
    let es = values_of (view_values c.args.values.now) in
    let many = length (view_checked_function c.args.callee.now).variables in
    let over = λ (ss : List Slots). arguments_over p xs ss es many in
    let passed = c.in_ok-made.ensures first m k good in
    let slice : c.as_slice-arguments.result.now ≡ c.in_ok-made.made = search (rules, c.as_slice-arguments.ensures) in
    let are₁ = ap (map term_tree) slice ∙ passed.arguments ∙ ap (λ (n : ℕ). arguments_over p xs (states (view_state c.walk_arguments.new.state)) es n) (c.len-count.ensures ∙ sym (length-map c.args.callee.now.variables.now view_variable)) in
    let asks₁ = c.in_ok-ask_required.ensures first m k es good are₁ in
    let are₂ = are₁ ∙ ap over (sym (asked_same _ asks₁)) in
    let asks₂ = c.in_ok-ask_lower.ensures first m k es good are₂ in
    let are₃ = are₂ ∙ ap over (sym (asked_same _ asks₂)) in
    let asks₃ = c.in_ok-ask_inclusions.ensures first m k os es good are₃ in
    let are₄ = are₃ ∙ ap over (sym (asked_same _ asks₃)) in
    seq_goes passed.walks (seq_goes asks₁ (seq_goes asks₂ (seq_goes asks₃ (c.in_ok-goes.ensures first m k os functions es good are₄ fine))))
