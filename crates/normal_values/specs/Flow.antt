-- Conditions that are made of jumps alone.
use Rattle.std.specs.Prelude.{Bool, false, not}
use Rattle.typed_prog.specs.Tree as t
use Rattle.c_runs.specs.Values.{has_effect}

abbrev pub is_flow_node : t.ValueNode → Bool
is_flow_node (t.logic how first second) = not (has_effect second)
is_flow_node _ = false

-- the condition, the effect in it being done
abbrev pub is_flow : t.Value → Bool
is_flow e = is_flow_node (t.node_of e)
