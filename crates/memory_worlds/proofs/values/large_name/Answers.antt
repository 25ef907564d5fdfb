use Rattle.std.proofs.Common.{arith}
use Rattle.memory_worlds.specs.View.{used_by}
use Rattle.memory_worlds.proofs.GivenNames.{own_used, size_used, past_used}
use Rattle.memory_worlds.proofs.values.large_name.Goals as goal
use Rattle.memory_worlds.proofs.values.large_name.Goals.{then-at-bases+else-base, else-at-bases}

pub returns-then-base-clause-used : goal.returns-then-base-clause-used
returns-then-base-clause-used c =
    own_used (used_by c.args.names.now) (used_by c.new_name.new.names) c.args.bases.now c.args.at c.index-bases-at.result c.if-at-bases.true c.index-bases-at.is c.if-base.true c.in_ok-name.ensures.used

pub returns-clause-used : goal.returns-clause-used
returns-clause-used c =
    let before = used_by c.args.names.now in
    let after = used_by c.number_name.new.names in
    let bs = c.args.bases.now in
    let i = c.args.at in
    elim c.if-at-bases.branch [
      | then-at-bases+else-base w ↦ size_used before after bs i w.index-bases-at.result w.if-at-bases.true w.index-bases-at.is w.if-base.false c.in_ok-name-2.ensures.used
      | else-at-bases w ↦ past_used before after bs i (omega (arith, w.if-at-bases.false)) c.in_ok-name-2.ensures.used
    ]
