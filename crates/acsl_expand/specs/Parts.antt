-- Heads by what becomes of their nodes.
use Rattle.acsl_trees.specs.declared.heads.Head.{Head}
use Rattle.acsl_trees.specs.declared.heads.Head.TheVariants as h
use Rattle.acsl_expand.specs.declared.parts.Part.{Part}
use Rattle.acsl_expand.specs.declared.parts.Part.TheVariants as part
use Rattle.acsl_expand.specs.Expansion.{binds}

abbrev pub part_of : Head → Part
part_of (h.Name x) = part.Name x
part_of (h.Call f) = part.Call f
part_of head = part.Other (binds head)
