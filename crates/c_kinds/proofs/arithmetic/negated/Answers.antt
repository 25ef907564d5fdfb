use Rattle.std.proofs.Common.{rules, ◌≡◌, true, ap, sym, ◌∙◌, pos, ◌-ℤ◌, if◌then◌else◌, None, arith}
use Rattle.std.proofs.lemmas.Int.{ints}
use Rattle.c_kinds.specs.Models.{holds}
use Rattle.c_kinds.specs.Numbers.{result_of, negated}
use Rattle.c_kinds.proofs.Sizes.{negated_fits, seen_two}
use Rattle.c_kinds.proofs.arithmetic.negated.Goals as goal

pub returns-then-holds : goal.returns-then-holds
unfolding negated
returns-then-holds c =
    let h : holds c.args.model c.args.kind c.args.value ≡ true = search rules in
    let fits = negated_fits c.args.model c.args.kind c.args.value h in
    c.result_of.ensures
    ∙ ap (result_of c.args.model c.args.kind) (seen_two (λ y z. y -ℤ z) (pos 0) c.args.value (omega (arith, ints)) c.ranges.value fits)
    ∙ ap (λ b. if b then result_of c.args.model c.args.kind (pos 0 -ℤ c.args.value) else None) (sym h)
