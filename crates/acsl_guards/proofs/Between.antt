-- The terms between the ends of a chain.
use Rattle.std.proofs.Common.{◌≡◌, ◌-◌, List, map, length}
use Rattle.std.specs.List.{slice_range}
use Rattle.std.proofs.lemmas.List.{length-map, take-map, drop-map}
use Rattle.c_syntax.specs.declared.annot.Term.{Term}
use Rattle.c_syntax.specs.View.{view_term}
use Rattle.acsl_guards.specs.Chains.{between}

pub between_seen : (ts : List Term) → map view_term (slice_range ts 1 (length ts - 1)) ≡ between (map view_term ts)
between_seen ts = search (take-map, drop-map, length-map)
