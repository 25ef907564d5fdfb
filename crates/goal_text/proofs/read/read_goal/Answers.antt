use Rattle.goal_text.proofs.Exact.{is_well_formed, is_text, is_only}
use Rattle.goal_text.proofs.read.read_goal.Goals as goal

pub returns-clause-well_formed : goal.returns-clause-well_formed
returns-clause-well_formed c = is_well_formed c.args.text.now c.whole_goal.result c.whole_goal.ensures

pub returns-clause-text : goal.returns-clause-text
returns-clause-text c = is_text c.args.text.now c.whole_goal.result c.whole_goal.ensures

pub returns-clause-only : goal.returns-clause-only
returns-clause-only c = λ known check fit held same. is_only c.args.text.now c.whole_goal.result c.whole_goal.ensures known check fit held same
