use Rattle.std.proofs.Common.{rules, ◌≡◌, ap, ◌∙◌}
use Rattle.value_words.specs.View.{view_terms}
use Rattle.call_walks.specs.View.{numbers_to}
use Rattle.call_walks.proofs.Passing.{passed}
use Rattle.call_walks.proofs.arguments.walk_arguments.Goals as goal

pub returns : goal.returns
returns g c first m k good =
    let slice : c.as_slice.result.now ≡ c.in_ok-terms.terms.items = search (rules, c.as_slice.ensures.value) in
    passed c.args.count c.in_ok-made.made (c.in_ok-terms.ensures first m k good) (c.in_ok-made.ensures ∙ ap (λ ts. numbers_to (view_terms ts) c.args.count) slice)
