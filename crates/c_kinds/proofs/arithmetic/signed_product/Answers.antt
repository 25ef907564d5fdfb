use Rattle.std.proofs.Common.{ap, ◌∙◌, ◌*ℤ◌}
use Rattle.c_kinds.specs.Numbers.{held}
use Rattle.c_kinds.proofs.Sizes.{signed_product_fits, seen_two}
use Rattle.c_kinds.proofs.arithmetic.signed_product.Goals as goal

pub returns : goal.returns
returns c =
    let fits = signed_product_fits c.args.model c.args.kind c.args.first c.args.second c.requires.signed c.requires.held in
    c.held.ensures ∙ ap (held c.args.model c.args.kind) (seen_two (λ y z. y *ℤ z) c.args.first c.args.second c.ranges.first c.ranges.second fits)
