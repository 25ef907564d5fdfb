use Rattle.annotation_heads.proofs.chains.different.Goals as goal

pub returns : goal.returns
returns c = (c.in_ok-made.ensures _ (c.relation-same.ensures _ _ c.copied-left.ensures c.copied-right.ensures)).is
