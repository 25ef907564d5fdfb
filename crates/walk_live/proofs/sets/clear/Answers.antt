use Rattle.std.proofs.Common.{rules}
use Rattle.walk_live.proofs.Bitwise.{cleared, not_cleared}
use Rattle.walk_live.proofs.sets.clear.Goals as goal

pub returns-then-at-len : goal.returns-then-at-len
returns-then-at-len c k f h = cleared k c.args.number f c.args.set.now.items h (search (rules, c.if-at-len.true, c.len.ensures))

pub returns-else-at-len : goal.returns-else-at-len
returns-else-at-len c k f h = not_cleared k c.args.number f c.args.set.now.items h (search (rules, c.if-at-len.false, c.len.ensures))
