use Rattle.std.proofs.Common.{◌≡◌, map, ◌++◌}
use Rattle.std.specs.Prelude.{Ok}
use Rattle.term_sketches.proofs.draw.sketches_of.Given as goal

-- the sketches so far and the drafts that are left make the whole
abbrev pub invariant-loop-draft : goal.invariant-loop-draft
invariant-loop-draft l = map Ok l.made ++ l.draft-iterator.rest.items ≡ l.fn.drafts.items
