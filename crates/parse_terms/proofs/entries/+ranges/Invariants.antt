use Rattle.std.proofs.Common.{◌≡◌, map}
use Rattle.c_syntax.specs.Term.{terms_of}
use Rattle.c_syntax.specs.View.{view_term}
use Rattle.parse_terms.specs.Sets.{args_ranges, joined}
use Rattle.parse_terms.proofs.Ranging.{rest_ranges}
use Rattle.parse_terms.proofs.entries.+ranges.Given as goal

-- those so far and those to come are all
abbrev pub invariant-args_ranges-loop-arg : goal.invariant-args_ranges-loop-arg
invariant-args_ranges-loop-arg l = joined l.ranges (rest_ranges l.arg-items l.arg-index) ≡ args_ranges (terms_of (map view_term l.arg-items))
