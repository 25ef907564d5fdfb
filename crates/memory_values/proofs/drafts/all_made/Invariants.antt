use Rattle.std.proofs.Common.{◌≡◌, map, ◌++◌}
use Rattle.std.specs.Prelude.{Ok}
use Rattle.memory_values.proofs.drafts.all_made.Given as goal

-- what was made, and the drafts that are left, make the whole
abbrev pub invariant-loop-draft : goal.invariant-loop-draft
invariant-loop-draft g l = map Ok l.made ++ l.draft-iterator.rest.items ≡ l.fn.drafts.items
