use Rattle.std.proofs.Common.{ap, ◌∙◌, sym}
use Rattle.std.specs.Prelude.{option_map}
use Rattle.qed_terms.specs.declared.head.Sort.TheVariants as sort
use Rattle.branch_changes.specs.Givens.{given_where}
use Rattle.equality_variables.proofs.Apart.{where_none}
use Rattle.equality_variables.proofs.givens.given_by.Goals as goal

pub returns-in-None-clause-given : goal.returns-in-None-clause-given
returns-in-None-clause-given g c =
    let tree' = g.S.TermStore.tree c.rest_term.new.store in
    where_none sort.Int c.args.name ∙ ap (given_where sort.Int c.args.name) (sym (ap (option_map tree') c.in-None.is) ∙ c.in_ok-term.ensures.rest)

pub returns-in-Some-clause-given : goal.returns-in-Some-clause-given
returns-in-Some-clause-given g c =
    let tree' = g.S.TermStore.tree c.rest_term.new.store in
    c.given_if.ensures.given ∙ ap (given_where sort.Int c.args.name) (sym (ap (option_map tree') c.in-Some.is) ∙ c.in_ok-term.ensures.rest)
