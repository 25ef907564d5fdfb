use Rattle.std.proofs.Common.{rules, ◌≡◌, true, ap, sym, ◌∙◌, ◌-ℤ◌, if◌then◌else◌, None}
use Rattle.c_kinds.specs.Numbers.{both_held, result_of, difference}
use Rattle.c_kinds.proofs.Sizes.{difference_fits, seen_two}
use Rattle.c_kinds.proofs.arithmetic.difference.Goals as goal

pub returns-then-both_held : goal.returns-then-both_held
unfolding difference
returns-then-both_held c =
    let h : both_held c.args.model c.args.kind c.args.first c.args.second ≡ true = search rules in
    let fits = difference_fits c.args.model c.args.kind c.args.first c.args.second h in
    c.result_of.ensures
    ∙ ap (result_of c.args.model c.args.kind) (seen_two (λ y z. y -ℤ z) c.args.first c.args.second c.ranges.first c.ranges.second fits)
    ∙ ap (λ b. if b then result_of c.args.model c.args.kind (c.args.first -ℤ c.args.second) else None) (sym h)
