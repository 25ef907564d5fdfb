use Rattle.std.proofs.Common.{rules, ◌≡◌, true, ap, sym, ◌∙◌, Some, None, if◌then◌else◌}
use Rattle.std.specs.Prelude.{int_div}
use Rattle.c_kinds.specs.Numbers.{has_quotient, quotient}
use Rattle.c_kinds.proofs.Sizes.{can_divide, seen_two, seen_parts}
use Rattle.c_kinds.proofs.arithmetic.quotient.Goals as goal

pub nonzero_div-result : goal.nonzero_div-result
nonzero_div-result c =
    let h : has_quotient c.args.model c.args.kind c.args.first c.args.second ≡ true = search rules in
    let can = can_divide c.args.model c.args.kind c.args.first c.args.second c.ranges.second h in
    (can.nonzero, seen_parts int_div c.args.first c.args.second c.ranges.first c.ranges.second can.fits)

pub returns-then-has_quotient : goal.returns-then-has_quotient
unfolding quotient
returns-then-has_quotient c =
    let h : has_quotient c.args.model c.args.kind c.args.first c.args.second ≡ true = search rules in
    let can = can_divide c.args.model c.args.kind c.args.first c.args.second c.ranges.second h in
    ap Some (seen_two int_div c.args.first c.args.second c.ranges.first c.ranges.second can.fits)
    ∙ ap (λ b. if b then Some (int_div c.args.first c.args.second) else None) (sym h)
