use Rattle.std.proofs.Common.{◌≡◌}
use Rattle.std.specs.Option.{option_map}
use Rattle.acsl_trees.specs.Tree as acsl
use Rattle.acsl_encode.specs.Encode.{term_of}
use Rattle.program_steps.specs.Leaves.{fill}
use Rattle.program_steps.specs.Terms.{entry_reading}
use Rattle.step_walks.specs.View.{view_state}
use Rattle.step_walks.specs.Walks.{states}
use Rattle.walk_frames.specs.Labelled.{number_in}
use Rattle.walk_frames.specs.View.{facts_in, shape_in}
use Rattle.call_walks.proofs.Parts.{lower_made}
use Rattle.call_walks.proofs.measures.lower.Goals as goal

pub returns : goal.returns
returns g c k =
    let p = facts_in c.args.frame in
    let tx = g.T.Texts.text c.args.texts.now in
    lower_made (λ (a : acsl.Tree). option_map (fill (states (view_state c.args.state.now))) (term_of (entry_reading p (shape_in c.args.frame k) tx c.args.level a) a)) (number_in p tx c.args.entered) c.args.is_in_cluster
    c.args.frame.contract.now.decreases c.args.measure.now c.in-Some.own c.in-Some-measure.other c.in_ok-formula.formula c.new-made.result c.push.new.self c.if-not-is_in_cluster.false c.in-Some.is c.in-Some-measure.is
    c.new-made.ensures c.in_ok-push.ensures.ok (c.in_ok-formula.ensures k)
