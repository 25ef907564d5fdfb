use Rattle.std.proofs.Common.{◌<◌, ◌-◌, length, refl, sym, arith}
use Rattle.known_bounds.proofs.Kept.{named}
use Rattle.known_bounds.proofs.bounds.range_of_name.Goals as goal

pub returns-then-is_same : goal.returns-then-is_same
returns-then-is_same c env kept =
    let within : c.loop-at.at - 1 < length c.args.bounds.now = omega arith in
    named env c.args.bounds.now (c.loop-at.at - 1) c.index-bounds-at.result c.args.name.now within c.index-bounds-at.is (c.is_same.ensures.0 c.if-is_same.true) kept
