use Rattle.plain_trees.proofs.laws.each_is_annotated.Goals as goal
use Rattle.plain_trees.proofs.Texts_alike as proof

pub returns : goal.returns
returns c = proof.each_is_annotated
