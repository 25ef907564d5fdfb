-- Expressions in which no two effects stand beside each other: of the operands of each operator, connective and choice, one at most has an effect in it (C11
-- 6.5p2). So one value is left of what comes first in an expression.
use Rattle.std.specs.Prelude.{Bool, true, not, ◌&&◌, ◌||◌}
use Rattle.typed_prog.specs.Tree as t
use Rattle.c_runs.specs.Values.{has_effect, have_effect}

abbrev mutual
  pub node_is_single : t.ValueNode → Bool
  node_is_single (t.constant z) = true
  node_is_single t.null = true
  node_is_single (t.temporary n) = true
  node_is_single (t.apply o es) = are_single es
  node_is_single (t.logic c a b) = not (has_effect a && has_effect b) && (is_single a && is_single b)
  node_is_single (t.choose c a b) = not (has_effect c && (has_effect a || has_effect b)) && (is_single c && (is_single a && is_single b))
  node_is_single (t.effect e es) = are_single es

  pub is_single : t.Value → Bool
  is_single (t.typed node type line) = node_is_single node

  pub are_single : t.Values → Bool
  are_single t.stop = true
  are_single (t.more e es) = not (has_effect e && have_effect es) && (is_single e && are_single es)
