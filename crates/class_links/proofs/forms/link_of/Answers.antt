use Rattle.std.proofs.Common.{rules, FitsSigned, ◌∙◌, ap, subst}
use Rattle.std.specs.Prelude.{neg_ℤ, ◌+ℤ◌}
use Rattle.std.specs.Int.{w128}
use Rattle.std.proofs.lemmas.Int.{to_z-of_z}
use Rattle.linear_chains.specs.View.{link_of}
use Rattle.same_places.specs.Same.{at}
use Rattle.class_links.specs.ClassForms.{number_for, numbers_of, times_of, IsFormOf}
use Rattle.class_links.proofs.Forming.{link_made}
use Rattle.class_links.proofs.forms.link_of.Goals as goal

pub returns : goal.returns
returns c =
    let class = at c.args.classes.now in
    let look = number_for c.args.numbers.now.entries in
    let form = c.args.form.now in
    let fits : FitsSigned w128 c.in_ok-bound.bound = search rules in
    let small : FitsSigned w128 c.in-Some.constant = search rules in
    let same = to_z-of_z w128 c.in-Some.constant small in
    let told = c.in-Some.ensures in
    let sum = c.in_ok-sum.ensures ∙ ap (λ ps. form.constant +ℤ numbers_of class look ps) c.as_slice.ensures.value in
    let made = rw c.in-Some-2.is at c.in_ok-made.ensures in
    let whole = subst (λ ps. IsFormOf (times_of class look ps) c.in-Some-2.made.items) c.as_slice-2.ensures.value made in
    link_made class look form.parts.items form.constant (link_of c.bounded.result) c.in-Some-2.made.items c.in_ok-bound.bound c.in-Some.constant c.bounded.ensures.form (c.bounded.ensures.bound ∙ to_z-of_z w128 c.in_ok-bound.bound fits) (c.in_ok-bound.ensures ∙ ap neg_ℤ same) (told.0 ∙ sum) told.1 whole
