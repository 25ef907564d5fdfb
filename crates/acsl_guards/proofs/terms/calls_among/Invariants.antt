use Rattle.std.proofs.Common.{◌≡◌}
use Rattle.std.specs.List.{list_any}
use Rattle.acsl_guards.specs.Mentions.{is_call, some_part}
use Rattle.acsl_guards.specs.Parts.{terms_in}
use Rattle.acsl_guards.proofs.Searching.{left_weight}
use Rattle.acsl_guards.proofs.terms.calls_among.Given as goal

-- a call stands in what is left exactly where one stands in all
abbrev pub invariant-loop-part : goal.invariant-loop-part
invariant-loop-part l = list_any (some_part (is_call l.name)) (terms_in l.left.items) ≡ list_any (some_part (is_call l.name)) (terms_in l.initial.left.items)

abbrev pub decreases-loop-part : goal.decreases-loop-part
decreases-loop-part l = left_weight l.left.items
