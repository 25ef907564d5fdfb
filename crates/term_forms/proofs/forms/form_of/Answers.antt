use Rattle.std.proofs.Common.{rules, sym, ◌∙◌, FitsSigned}
use Rattle.std.specs.Int.{w128}
use Rattle.std.proofs.lemmas.Int.{to_z-of_z}
use Rattle.term_forms.specs.Forms.{tree_of}
use Rattle.term_forms.proofs.Kids.{ends_in_number, ends_in_part}
use Rattle.term_forms.proofs.forms.form_of.Goals as goal

pub returns-in-Some-clause-form : goal.returns-in-Some-clause-form
returns-in-Some-clause-form c =
    let fits : FitsSigned w128 c.in-Some.constant = search rules in
    ends_in_number (tree_of c.args.table.now) c.args.terms.now c.in_ok-parts.parts.items c.if-count-eq0.false c.in_ok-parts.ensures.parts c.in-Some.constant c.form_with.result (sym c.number_at.ensures ∙ c.in-Some.is) c.form_with.ensures.parts (c.form_with.ensures.constant ∙ to_z-of_z w128 c.in-Some.constant fits)

pub returns-in_ok-push-in-None-clause-form : goal.returns-in_ok-push-in-None-clause-form
returns-in_ok-push-in-None-clause-form c =
    ends_in_part (tree_of c.args.table.now) c.args.terms.now c.in_ok-parts.parts.items c.if-count-eq0.false c.in_ok-parts.ensures.parts c.written_part.result c.form_with-in-None.result (sym c.number_at.ensures ∙ c.in-None.is) c.written_part.ensures.part (c.form_with-in-None.ensures.parts ∙ c.in_ok-push-in-None.ensures.items) c.form_with-in-None.ensures.constant
