use Rattle.std.proofs.Common.{rules, ◌≡◌, ◌<◌, ◌++◌, length, map}
use Rattle.core_trees.specs.View.{view_variables}
use Rattle.memory_worlds.specs.View.{view_base}
use Rattle.memory_names.specs.Parts.{global_part}
use Rattle.memory_names.proofs.Pushing.{next_part}
use Rattle.memory_names.proofs.bases.push_globals.Goals as goal

pub loop-at-preserved : goal.loop-at-preserved
loop-at-preserved c =
    let within : c.loop-at.at < length c.args.globals.now = search (rules, c.loop-at-test.true) in
    let pushed : map view_base c.push_global.new.bases.items ≡ map view_base c.loop-at.bases.items ++ global_part c.args.file.now (view_variables c.args.globals.now) c.loop-at.at
    = search (rules, c.in_ok-push_global.ensures) in
    next_part (global_part c.args.file.now (view_variables c.args.globals.now)) _ _ _ c.loop-at.at (length c.args.globals.now) within pushed c.loop-at.invariant
