use Rattle.std.proofs.Common.{sym, ◌∙◌}
use Rattle.parse_file.proofs.Reading.{opens_stop}
use Rattle.parse_file.proofs.forms.opens_params.Goals as goal

pub returns-then-not-is_pointer : goal.returns-then-not-is_pointer
returns-then-not-is_pointer c =
    c.names.ensures ∙ sym (opens_stop _ _ _ c.in-Some.ensures.cases.0 (sym c.is_pointer.ensures ∙ c.if-not-is_pointer.true)) ∙ c.loop-first.invariant
