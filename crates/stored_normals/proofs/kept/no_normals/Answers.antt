use Rattle.stored_normals.proofs.Keeping.{none_kept}
use Rattle.stored_normals.proofs.kept.no_normals.Goals as goal

pub returns : goal.returns
returns g c = none_kept _ _ _ _ _ c.new.ensures.empty c.requires
