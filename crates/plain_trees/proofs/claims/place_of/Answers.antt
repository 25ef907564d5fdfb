use Rattle.std.proofs.Common.{length, ap, ◌∙◌}
use Rattle.plain_trees.specs.View.{view_place}
use Rattle.plain_trees.proofs.Placing.{place_is}
use Rattle.plain_trees.proofs.claims.place_of.Goals as goal

pub returns : goal.returns
returns c = λ takes.
    ap (λ n. view_place (record { globals = n; own = length c.args.own.now; has_result = c.args.has_result }) takes) c.len.ensures
    ∙ place_is c.args.facts.now c.args.own.now c.args.has_result takes
