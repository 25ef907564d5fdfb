use Rattle.std.proofs.Common.{rules, ◌≡◌, true, false, ap, sym, ◌∙◌, pos, not, ◌&&◌}
use Rattle.std.specs.Prelude.{int_div}
use Rattle.std.specs.Ordering.{int_eq}
use Rattle.c_kinds.specs.Models.{holds}
use Rattle.c_kinds.specs.Numbers.{both_held}
use Rattle.std.proofs.lemmas.Bool.{and_parts}
use Rattle.c_kinds.proofs.Sizes.{quotient_fits, seen_two}
use Rattle.c_kinds.proofs.arithmetic.has_quotient.Goals as goal

pub returns : goal.returns
returns c =
    let h : both_held c.args.model c.args.kind c.args.first c.args.second ≡ true = search rules in
    let e : int_eq c.args.second (pos 0) ≡ false = search rules in
    let fits = quotient_fits c.args.model c.args.kind c.args.first c.args.second (and_parts (holds c.args.model c.args.kind c.args.first) (holds c.args.model c.args.kind c.args.second) h).0 in
    c.holds.ensures
    ∙ ap (holds c.args.model c.args.kind) (seen_two int_div c.args.first c.args.second c.ranges.first c.ranges.second fits)
    ∙ (λ i. sym h i && not (sym e i) && holds c.args.model c.args.kind (int_div c.args.first c.args.second))
