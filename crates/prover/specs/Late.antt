-- Branches that are looked at late: closed only where no literal waits.
use Rattle.std.specs.Prelude.{None}
use Rattle.branches.specs.declared.kinds.Kind.TheVariants as kind
use Rattle.branches.specs.Branch.{Branch, IsKind}
use Rattle.branches.specs.Firsts.{IsFirst}
use Rattle.prover.specs.Prover.{IsClosed}

-- no literal waits
abbrev pub NoLiteralWaits : Branch → Type 0
NoLiteralWaits b = IsFirst (IsKind kind.Literal) (b.waiting) None

-- An expansion by this looks once for all literals that come one after the other, and is sound as well; where it closes, that of the definition may
-- stay open, if only for numbers beyond the limit of links.
abbrev pub IsClosedLate : Branch → Type 0
IsClosedLate b = NoLiteralWaits b × IsClosed b
