use Rattle.goal_text.proofs.Exact.{text_of_one}
use Rattle.goal_text.proofs.laws.text_determines_goal.Goals as goal

pub returns : goal.returns
returns c = λ known other check last a b d e same. text_of_one known other check last a b d e same
