use Rattle.std.proofs.Common.{sym, ◌∙◌}
use Rattle.goal_words.proofs.Numerals.{no_count_in_bytes, no_count_read, count_read}
use Rattle.goal_words.proofs.numbers.count.Goals as goal

pub returns-in_default : goal.returns-in_default
returns-in_default c = sym (no_count_in_bytes c.args.word.now c.in_default.ensures.cases.0)

pub returns-in_default-from_str_radix : goal.returns-in_default-from_str_radix
returns-in_default-from_str_radix c = sym (no_count_read c.args.word.now (rw c.in-Ok.ensures.cases.0 at c.in_default-from_str_radix.ensures.value))

pub returns-then-eq : goal.returns-then-eq
returns-then-eq c =
    let read = rw c.in-Ok.ensures.cases.0 at c.in-Ok-from_str_radix.ensures.value in
    rw c.if-eq.true at (count_read c.args.word.now c.as_bytes.result.now c.in-Ok-from_str_radix.number c.eq.result read.0.1 read.1 (c.as_bytes.ensures.value ∙ c.format.ensures.text) c.eq.ensures)

pub returns-else-eq : goal.returns-else-eq
returns-else-eq c =
    let read = rw c.in-Ok.ensures.cases.0 at c.in-Ok-from_str_radix.ensures.value in
    rw c.if-eq.false at (count_read c.args.word.now c.as_bytes.result.now c.in-Ok-from_str_radix.number c.eq.result read.0.1 read.1 (c.as_bytes.ensures.value ∙ c.format.ensures.text) c.eq.ensures)
