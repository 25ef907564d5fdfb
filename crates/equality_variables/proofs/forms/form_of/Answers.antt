use Rattle.std.proofs.Common.{rules, sym, ◌∙◌, FitsSigned}
use Rattle.std.specs.Int.{w128}
use Rattle.std.proofs.lemmas.Int.{to_z-of_z}
use Rattle.equality_variables.proofs.Ended.{ends_in_number, ends_in_part}
use Rattle.equality_variables.proofs.forms.form_of.Goals as goal

pub returns-in-Some-clause-form : goal.returns-in-Some-clause-form
returns-in-Some-clause-form g c =
    let fits : FitsSigned w128 c.in-Some.constant = search rules in
    ends_in_number (g.S.TermStore.tree c.args.store.now) c.args.terms.now c.index-terms-count.result c.in_ok-parts.parts.items c.if-count-eq0.false c.index-terms-count.is c.in_ok-parts.ensures.parts c.in-Some.constant c.form_with.result (sym c.number_at.ensures ∙ c.in-Some.is) c.form_with.ensures.parts (c.form_with.ensures.constant ∙ to_z-of_z w128 c.in-Some.constant fits)

pub returns-in_ok-push-in-None-clause-form : goal.returns-in_ok-push-in-None-clause-form
returns-in_ok-push-in-None-clause-form g c =
    ends_in_part (g.S.TermStore.tree c.args.store.now) c.args.terms.now c.index-terms-count.result c.in_ok-parts.parts.items c.if-count-eq0.false c.index-terms-count.is c.in_ok-parts.ensures.parts c.written_part.result c.form_with-in-None.result (sym c.number_at.ensures ∙ c.in-None.is) c.written_part.ensures.part (c.form_with-in-None.ensures.parts ∙ c.in_ok-push-in-None.ensures.items) c.form_with-in-None.ensures.constant
