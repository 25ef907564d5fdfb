use Rattle.std.proofs.Common.{◌≡◌, List, ap, ◌∙◌, subst}
use Rattle.program_steps.specs.Leaves.{closed, fill}
use Rattle.program_trees.specs.View.{view_contract}
use Rattle.walk_frames.specs.Words.{put_word}
use Rattle.call_words.specs.Words.{one_further, placed_in}
use Rattle.step_walks.proofs.Walking.{seq_goes}
use Rattle.call_walks.proofs.Receiving.{placed_is}
use Rattle.step_walks.specs.View.{view_state}
use Rattle.step_walks.specs.Walks.{Held, Walks, states}
use Rattle.walk_frames.specs.View.{facts_in, shape_in, variables_in, view_point}
use Rattle.call_walks.proofs.results.receive_place.Goals as goal

pub returns : goal.returns
returns g c first m k os functions t good e =
    let p = facts_in c.args.frame in
    let s = shape_in c.args.frame k in
    let tx = g.T.Texts.text c.args.texts.now in
    let ct = view_contract c.args.frame.contract.now in
    let ev = c.in_ok-walk_values.ensures first m k good in
    let put = c.in_ok-goes.ensures first m k os t (ap (λ ss. fill ss (closed t)) ev.same ∙ e) in
    let is = ap (λ pt. put_word m p s tx ct pt c.args.line c.args.path.now.root t) (c.in_ok-further.ensures c.args.frame os)
    ∙ placed_is m p s tx ct functions (one_further (view_point c.args.frame os c.args.point)) c.args.line c.args.path.now.root t in
    seq_goes ev.walks
    (subst (λ a. Walks c.args.frame.bases.now a (view_state c.walk_values.new.state) (view_state c.put_to.new.state) (g.S.GoalSink.fits first c.walk_values.new.sink) (g.S.GoalSink.fits first c.put_to.new.sink) c.in_ok-goes.goes) is put)
