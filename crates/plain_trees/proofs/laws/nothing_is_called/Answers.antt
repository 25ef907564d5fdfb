use Rattle.plain_trees.proofs.laws.nothing_is_called.Goals as goal
use Rattle.plain_trees.proofs.Texts_alike as proof

pub returns : goal.returns
returns c = proof.nothing_is_called
