use Rattle.std.proofs.Common.{rules, ◌≡◌, ◌++◌, suc, [], ap, ◌∙◌, append_assoc}
use Rattle.program_steps.specs.Starting.{file_origins, own_origins, zero_origins}
use Rattle.core_trees.specs.View.{view_variables}
use Rattle.function_walks.specs.Entry.{view_origins}
use Rattle.function_walks.proofs.origins.origins_of.Goals as goal

pub returns : goal.returns
returns c m k texts =
    let globals = view_variables c.as_slice.result.now in
    let own = view_variables c.as_slice-2.result.now in
    let none : view_origins c.new-made.result.items ≡ [] = search (rules, c.new-made.ensures.items) in
    let files : c.as_slice.result.now ≡ c.args.frame.facts.now.globals = search (rules, c.as_slice.ensures) in
    let owns : c.as_slice-2.result.now ≡ c.args.frame.variables.now = search (rules, c.as_slice-2.ensures) in
    let count : c.in_ok-behind.behind ≡ suc (suc c.args.frame.temporaries) = search (rules, c.in_ok-behind.ensures) in
    let first = c.in_ok-put_file.ensures ∙ ap (λ xs. xs ++ file_origins globals) none in
    let second = c.in_ok-put_own.ensures ∙ ap (λ xs. xs ++ own_origins c.args.params own) first in
    c.in_ok-put_zeros.ensures ∙ ap (λ xs. xs ++ zero_origins c.in_ok-behind.behind) second
    ∙ append_assoc (file_origins globals) (own_origins c.args.params own) (zero_origins c.in_ok-behind.behind)
    ∙ (λ i. file_origins (view_variables (files i)) ++ (own_origins c.args.params (view_variables (owns i)) ++ zero_origins (count i)))
