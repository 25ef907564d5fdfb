-- The range of a kind, and how many numbers it has.
use Rattle.std.specs.Prelude.{ℕ, ◌^◌, pos, negsuc, ◌≤ℤ◌}
use Rattle.wp_base.specs.declared.kinds.Kind.{Kind}
use Rattle.wp_base.specs.Kinds.{kind_bits, kind_low, kind_high}
use Rattle.node_instances.specs.declared.ranges.Range.{Range}

abbrev pub kind_range : (long_bits : ℕ) → Kind → Range
kind_range bits k = record { low = kind_low bits k; high = kind_high bits k; many = pos (2 ^ kind_bits bits k) }

-- no number in it is large for 128 bits
pub record IsSmall (r : Range) : Type 0 where
  pub low_from : negsuc 9223372036854775807 ≤ℤ r.low
  pub low_to : r.low ≤ℤ pos 0
  pub high_from : pos 0 ≤ℤ r.high
  pub high_to : r.high ≤ℤ pos 18446744073709551615
  pub many_from : pos 0 ≤ℤ r.many
  pub many_to : r.many ≤ℤ pos 18446744073709551616
