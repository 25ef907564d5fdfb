use Rattle.std.proofs.Common.{◌≡◌, FitsSigned, to_z, of_z, subst, sym, ap, ◌∙◌}
use Rattle.std.specs.Int.{w128}
use Rattle.std.specs.Fmt.{signed_decimal}
use Rattle.std.proofs.lemmas.Int.{to_z-of_z}
use Rattle.goal_words.proofs.Numerals.{no_number_in_bytes, no_number_read, number_read}
use Rattle.goal_words.proofs.numbers.number.Goals as goal

pub returns-in_default : goal.returns-in_default
returns-in_default c = sym (no_number_in_bytes c.args.word.now c.in_default.ensures.cases.0)

pub returns-in_default-from_str_radix : goal.returns-in_default-from_str_radix
returns-in_default-from_str_radix c = sym (no_number_read c.args.word.now (rw c.in-Ok.ensures.cases.0 at c.in_default-from_str_radix.ensures.value))

pub returns-then-eq : goal.returns-then-eq
returns-then-eq c =
    let read = rw c.in-Ok.ensures.cases.0 at c.in-Ok-from_str_radix.ensures.value in
    let z = c.in-Ok-from_str_radix.value in
    let fits : FitsSigned w128 z = subst (FitsSigned w128) (sym read.1) read.0.1 in
    let same : to_z w128 (of_z w128 z) ≡ z = to_z-of_z w128 z fits in
    rw same (rw c.if-eq.true at (number_read c.args.word.now c.as_bytes.result.now z c.eq.result read.0.1 read.1 (c.as_bytes.ensures.value ∙ c.format.ensures.text ∙ ap signed_decimal same) c.eq.ensures))

pub returns-else-eq : goal.returns-else-eq
returns-else-eq c =
    let read = rw c.in-Ok.ensures.cases.0 at c.in-Ok-from_str_radix.ensures.value in
    let z = c.in-Ok-from_str_radix.value in
    let fits : FitsSigned w128 z = subst (FitsSigned w128) (sym read.1) read.0.1 in
    let same : to_z w128 (of_z w128 z) ≡ z = to_z-of_z w128 z fits in
    rw c.if-eq.false at (number_read c.args.word.now c.as_bytes.result.now z c.eq.result read.0.1 read.1 (c.as_bytes.ensures.value ∙ c.format.ensures.text ∙ ap signed_decimal same) c.eq.ensures)
