use Rattle.node_instances.proofs.RangeLaws.{long_narrow, long_wide}
use Rattle.node_instances.proofs.ranges.long_range.Goals as goal

pub returns-then-long_bits-eq32 : goal.returns-then-long_bits-eq32
returns-then-long_bits-eq32 c = long_narrow c.args.long_bits c.int_range.result c.int_range.ensures c.if-long_bits-eq32.true

pub returns-else-long_bits-eq32 : goal.returns-else-long_bits-eq32
returns-else-long_bits-eq32 c = long_wide c.args.long_bits c.wide_range.result c.wide_range.ensures c.requires c.if-long_bits-eq32.false
