use Rattle.node_instances.proofs.RangeLaws.{ulong_narrow, ulong_wide}
use Rattle.node_instances.proofs.ranges.unsigned_long_range.Goals as goal

pub returns-then-long_bits-eq32 : goal.returns-then-long_bits-eq32
returns-then-long_bits-eq32 c = ulong_narrow c.args.long_bits c.unsigned_range.result c.unsigned_range.ensures c.if-long_bits-eq32.true

pub returns-else-long_bits-eq32 : goal.returns-else-long_bits-eq32
returns-else-long_bits-eq32 c = ulong_wide c.args.long_bits c.wide_unsigned_range.result c.wide_unsigned_range.ensures c.requires c.if-long_bits-eq32.false
