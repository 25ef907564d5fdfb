use Rattle.std.proofs.Common.{◌∙◌}
use Rattle.std.proofs.lemmas.List.{take_rest}
use Rattle.c_lexer.proofs.Numerals.{number_found, digits_found}
use Rattle.c_lexer.proofs.numbers.number_at.Goals as goal

pub value_of-value-requires-clause-digits : goal.value_of-value-requires-clause-digits
value_of-value-requires-clause-digits c = rw c.digits_of.ensures (digits_found c.args.bytes.now c.constant_at-base.result c.requires c.constant_at-base.ensures.value)

pub returns : goal.returns
returns c =
    let ending = rw take_rest at c.suffix_of-suffix.ensures.value in
    let fits = rw (c.radix.ensures.value, c.digits_of.ensures) at c.value_of-value.ensures in
    c.number_of.ensures ∙ number_found c.args.annotated c.args.bytes.now c.constant_at-base.result c.suffix_of-suffix.result c.value_of-value.result c.requires c.constant_at-base.ensures.value ending fits
