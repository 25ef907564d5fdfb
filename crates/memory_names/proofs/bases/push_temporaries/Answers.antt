use Rattle.std.proofs.Common.{rules, ◌≡◌, ◌<◌, ◌++◌, length, map}
use Rattle.memory_worlds.specs.View.{view_base}
use Rattle.memory_names.specs.Parts.{temporary_part}
use Rattle.memory_names.proofs.Pushing.{next_part}
use Rattle.memory_names.proofs.bases.push_temporaries.Goals as goal

pub loop-at-preserved : goal.loop-at-preserved
loop-at-preserved c =
    let within : c.loop-at.at < length c.args.kinds.now = search (rules, c.loop-at-test.true) in
    let pushed : map view_base c.push_temporary.new.bases.items ≡ map view_base c.loop-at.bases.items ++ temporary_part c.args.kinds.now c.loop-at.at
    = search (rules, c.in_ok-push_temporary.ensures) in
    next_part (temporary_part c.args.kinds.now) _ _ _ c.loop-at.at (length c.args.kinds.now) within pushed c.loop-at.invariant
