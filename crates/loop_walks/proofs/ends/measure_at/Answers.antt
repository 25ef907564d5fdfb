use Rattle.std.proofs.Common.{rules, ◌∙◌, ap, sym}
use Rattle.std.specs.Option.{option_map}
use Rattle.acsl_encode.specs.Encode as encode
use Rattle.acsl_trees.specs.Tree.{view_tree}
use Rattle.qed_terms.specs.View.{term_tree}
use Rattle.program_steps.specs.Terms.{body_reading}
use Rattle.step_walks.specs.View.{view_state}
use Rattle.step_walks.specs.Walks.{states}
use Rattle.walk_frames.specs.View.{facts_in, shape_in}
use Rattle.loop_walks.proofs.Checks.{measure_some, measure_none}
use Rattle.loop_walks.proofs.ends.measure_at.Goals as goal

pub returns-in-Some : goal.returns-in-Some
returns-in-Some g c k =
    let a = view_tree c.args.measure.now.what in
    let o = encode.term_of (body_reading (facts_in c.args.frame) (shape_in c.args.frame k) (g.T.Texts.text c.args.texts.now) c.args.here c.args.entry 2 a) a in
    measure_some (states (view_state c.args.state.now)) o (term_tree c.in-Some.term) (ap (option_map term_tree) (sym c.in-Some.is) ∙ c.in_ok-found.ensures k)

pub returns-in-None : goal.returns-in-None
returns-in-None g c k =
    let a = view_tree c.args.measure.now.what in
    let o = encode.term_of (body_reading (facts_in c.args.frame) (shape_in c.args.frame k) (g.T.Texts.text c.args.texts.now) c.args.here c.args.entry 2 a) a in
    measure_none (states (view_state c.args.state.now)) o (term_tree c.number.result) (search (rules, c.number.ensures)) (ap (option_map term_tree) (sym c.in-None.is) ∙ c.in_ok-found.ensures k)
