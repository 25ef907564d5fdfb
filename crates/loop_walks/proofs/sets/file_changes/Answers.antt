use Rattle.std.proofs.Common.{◌∙◌, ap}
use Rattle.core_trees.specs.View.{view_loop}
use Rattle.loop_words.specs.Sets as spec
use Rattle.program_trees.specs.View.{view_contract}
use Rattle.walk_frames.specs.View.{view_point}
use Rattle.loop_walks.proofs.Changing.{next_bit}
use Rattle.loop_walks.proofs.sets.file_changes.Goals as goal

pub loop-at-preserved : goal.loop-at-preserved
loop-at-preserved c os =
    let f = spec.file_changes (view_contract c.args.frame.contract.now) (view_point c.args.frame os c.args.point) (view_loop c.args.l.now) in
    next_bit f c.loop-at.at c.loop-at.made.items c.push.new.self.items c.changes_file-bit.result (c.loop-at.invariant os) (c.changes_file-bit.ensures os ∙ ap f c.in_ok-number.ensures)
    c.in_ok-push.ensures.items
