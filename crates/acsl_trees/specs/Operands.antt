-- Terms as operands (ACSL 2.2.3).
use Rattle.std.specs.Prelude.{Option, ℤ, Bool}
use Rattle.typed_prog.specs.declared.types.CoreType.{CoreType}
use Rattle.acsl_trees.specs.declared.heads.Label.{Label}
use Rattle.acsl_trees.specs.declared.operands.Sort.{Sort}
use Rattle.acsl_trees.specs.declared.operands.Operand.{Operand as Code}
use Rattle.acsl_trees.specs.Tree.{Tree, view_tree}

pub record Operand : Type 0 where
  pub tree : Tree
  pub sort : Sort

abbrev pub operand : Tree → Sort → Operand
operand tree sort = record { tree = tree; sort = sort }

abbrev pub view_operand : Code → Operand
view_operand x = operand (view_tree x.tree) x.sort
