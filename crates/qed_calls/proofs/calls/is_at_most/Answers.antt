use Rattle.std.proofs.Common.{sym, ◌∙◌, ap, rules, FitsSigned}
use Rattle.std.specs.Int.{w128}
use Rattle.std.specs.Option.{option_copied}
use Rattle.std.proofs.lemmas.Int.{to_z-of_z}
use Rattle.qed_terms.specs.View.{term_tree}
use Rattle.qed_numbers.specs.Numbers.{number_at}
use Rattle.qed_calls.specs.Calls.{is_at_most}
use Rattle.qed_calls.proofs.Kids.{at_most_there}
use Rattle.qed_calls.proofs.calls.is_at_most.Goals as goal

pub returns-in-Some : goal.returns-in-Some
returns-in-Some c =
    let fits : FitsSigned w128 c.args.cut = search rules in
    let same = ap (λ z. is_at_most z (number_at (term_tree c.in-Some.kid.now))) (to_z-of_z w128 c.args.cut fits) in
    at_most_there c.args.kids.now c.args.place c.in-Some.kid.now c.args.cut c.is_number_at_most.result (sym (ap option_copied c.in-Some.is) ∙ c.get.ensures) (c.is_number_at_most.ensures ∙ same)
