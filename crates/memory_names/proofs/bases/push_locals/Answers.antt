use Rattle.std.proofs.Common.{rules, ◌≡◌, ◌<◌, ◌++◌, length, map}
use Rattle.core_trees.specs.View.{view_variables}
use Rattle.memory_worlds.specs.View.{view_base}
use Rattle.memory_names.specs.Parts.{local_part}
use Rattle.memory_names.proofs.Pushing.{next_part}
use Rattle.memory_names.proofs.bases.push_locals.Goals as goal

pub loop-at-preserved : goal.loop-at-preserved
loop-at-preserved c =
    let within : c.loop-at.at < length c.args.variables.now = search (rules, c.loop-at-test.true) in
    let pushed : map view_base c.push_local.new.bases.items
    ≡ map view_base c.loop-at.bases.items ++ local_part c.args.file.now c.args.own.now c.args.params (view_variables c.args.variables.now) c.loop-at.at
    = search (rules, c.in_ok-push_local.ensures) in
    next_part (local_part c.args.file.now c.args.own.now c.args.params (view_variables c.args.variables.now)) _ _ _ c.loop-at.at
    (length c.args.variables.now) within pushed c.loop-at.invariant
