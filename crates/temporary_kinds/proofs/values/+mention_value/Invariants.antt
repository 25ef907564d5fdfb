use Rattle.std.proofs.Common.{drop}
use Rattle.temporary_kinds.proofs.Telling.{Onward}
use Rattle.temporary_kinds.proofs.Expressions.{code_kind, code_count}
use Rattle.temporary_kinds.proofs.values.+mention_value.Given as goal

abbrev pub invariant-mention_values-loop-at : goal.invariant-mention_values-loop-at
invariant-mention_values-loop-at l = Onward code_kind code_count l.initial.kinds.items l.kinds.items (drop l.at l.values) l.values
