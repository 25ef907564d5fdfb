use Rattle.std.proofs.Common.{sym, ◌∙◌, ap}
use Rattle.node_instances.specs.Ranges.{kind_range}
use Rattle.node_instances.proofs.ranges.range_of.Goals as goal

pub returns-in-Int : goal.returns-in-Int
returns-in-Int c = c.int_range.ensures c.args.long_bits ∙ ap (kind_range c.args.long_bits) (sym c.in-Int.is)

pub returns-in-UInt : goal.returns-in-UInt
returns-in-UInt c = c.unsigned_range.ensures c.args.long_bits ∙ ap (kind_range c.args.long_bits) (sym c.in-UInt.is)

pub returns-in-LLong : goal.returns-in-LLong
returns-in-LLong c = c.wide_range.ensures c.args.long_bits ∙ ap (kind_range c.args.long_bits) (sym c.in-LLong.is)

pub returns-in-ULLong : goal.returns-in-ULLong
returns-in-ULLong c = c.wide_unsigned_range.ensures c.args.long_bits ∙ ap (kind_range c.args.long_bits) (sym c.in-ULLong.is)
