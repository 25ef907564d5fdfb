use Rattle.std.proofs.Common.{◌≡◌, ◌%◌, arith}
use Rattle.wide_sums.specs.Sums.{wide_value}
use Rattle.wide_sums.proofs.Doubling.{no_bit, one_bit}
use Rattle.wide_sums.proofs.products.with_bit.Goals as goal

pub returns-then-rest-eq0 : goal.returns-then-rest-eq0
returns-then-rest-eq0 c = no_bit (c.args.rest % 2) (wide_value c.args.sum) (wide_value c.args.power) c.if-rest-eq0.true

pub returns : goal.returns
returns c =
    let one : c.args.rest % 2 ≡ 1 = omega arith in
    one_bit (c.args.rest % 2) (wide_value c.args.sum) (wide_value c.args.power) (wide_value c.in_ok-more.more) one c.in_ok-more.ensures
