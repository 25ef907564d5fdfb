use Rattle.std.proofs.Common.{◌^◌}
use Rattle.c_kinds.proofs.Sizes.{seen_halved}
use Rattle.c_kinds.proofs.bitwise.halved.Goals as goal

pub returns : goal.returns
returns c = seen_halved c.args.value (2 ^ c.args.times) c.ranges.value
