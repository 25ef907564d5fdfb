use Rattle.core_trees.specs.View.{view_loop}
use Rattle.loop_words.specs.Words as words
use Rattle.walk_frames.specs.View.{facts_in, shape_in, view_point}
use Rattle.loop_walks.proofs.loops.ask_checks.Goals as goal

pub returns : goal.returns
returns g c first m k os =
    c.in_ok-ask_each.ensures first c.args.frame.bases.now
    (words.end_checks (facts_in c.args.frame) (shape_in c.args.frame k) (g.T.Texts.text c.args.texts.now) m (view_point c.args.frame os c.args.point) (view_loop c.args.l.now)) (c.in_ok-checks.ensures m k os)
