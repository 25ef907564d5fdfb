use Rattle.std.proofs.Common.{[], ap, rules}
use Rattle.core_trees.specs.View.{view_variables}
use Rattle.program_trees.specs.View.{view_facts}
use Rattle.plain_annotations.specs.Plain as plain
use Rattle.plain_trees.specs.View.{is_below}
use Rattle.plain_trees.proofs.Regional.{no_integers, region_is}
use Rattle.plain_trees.proofs.regions.is_region.Goals as goal

pub returns-then-not-is_integers : goal.returns-then-not-is_integers
returns-then-not-is_integers c =
    no_integers (view_facts c.args.facts.now) (view_variables c.args.own.now) c.args.tree.now c.is_integers.result c.is_integers.ensures c.if-not-is_integers.true

pub returns : goal.returns
returns c =
    region_is (view_facts c.args.facts.now) (view_variables c.args.own.now) (is_below c.place_of.result.globals c.place_of.result.own) c.args.tree.now
    c.as_slice.result.now c.is_integers.result c.has_one.result (ap (λ (q : plain.Place). q.variables) (c.place_of.ensures [])) (search rules) c.is_integers.ensures
    c.if-not-is_integers.false c.has_one.ensures
