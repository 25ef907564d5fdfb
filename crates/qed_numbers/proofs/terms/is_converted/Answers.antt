use Rattle.std.proofs.Common.{sym, ◌∙◌, ap, arith}
use Rattle.qed_terms.specs.View.{term_tree}
use Rattle.qed_numbers.specs.Numbers.{is_converted}
use Rattle.qed_numbers.proofs.Conversions.{converted_one, converted_other}
use Rattle.qed_numbers.proofs.terms.is_converted.Goals as goal

pub returns-then-len-ne1 : goal.returns-then-len-ne1
returns-then-len-ne1 c = sym (ap (λ x. is_converted c.args.kind (term_tree x)) c.in-Op.is ∙ converted_other c.args.kind c.in-Op.op c.in-Op.kids (λ e. omega (arith, c.len.ensures, c.if-len-ne1.true, e)))

pub returns-else-len-ne1 : goal.returns-else-len-ne1
returns-else-len-ne1 c = c.is_conversion.ensures ∙ sym (ap (λ x. is_converted c.args.kind (term_tree x)) c.in-Op.is ∙ converted_one c.args.kind c.in-Op.op c.in-Op.kids (omega (arith, c.len.ensures, c.if-len-ne1.false)))
