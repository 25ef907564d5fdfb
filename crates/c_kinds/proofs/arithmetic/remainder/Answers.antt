use Rattle.std.proofs.Common.{rules, ◌≡◌, true, ap, sym, ◌∙◌, Some, None, if◌then◌else◌}
use Rattle.std.specs.Prelude.{int_div, int_rem}
use Rattle.c_kinds.specs.Numbers.{has_quotient, remainder}
use Rattle.c_kinds.proofs.Sizes.{can_divide, seen_two, seen_parts, remainder_fits}
use Rattle.c_kinds.proofs.arithmetic.remainder.Goals as goal

pub nonzero_rem-result : goal.nonzero_rem-result
nonzero_rem-result c =
    let h : has_quotient c.args.model c.args.kind c.args.first c.args.second ≡ true = search rules in
    let can = can_divide c.args.model c.args.kind c.args.first c.args.second c.ranges.second h in
    (can.nonzero, seen_parts int_div c.args.first c.args.second c.ranges.first c.ranges.second can.fits)

pub returns-then-has_quotient : goal.returns-then-has_quotient
unfolding remainder
returns-then-has_quotient c =
    let h : has_quotient c.args.model c.args.kind c.args.first c.args.second ≡ true = search rules in
    let can = can_divide c.args.model c.args.kind c.args.first c.args.second c.ranges.second h in
    ap Some (seen_two int_rem c.args.first c.args.second c.ranges.first c.ranges.second (remainder_fits c.args.first c.args.second c.ranges.first))
    ∙ ap (λ b. if b then Some (int_rem c.args.first c.args.second) else None) (sym h)
