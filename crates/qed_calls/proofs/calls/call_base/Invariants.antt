use Rattle.std.proofs.Common.{◌≡◌, map, drop}
use Rattle.qed_terms.specs.Tree.{trees_of}
use Rattle.qed_terms.specs.View.{term_tree, view_logic}
use Rattle.qed_calls.specs.Calls.{base_of}
use Rattle.qed_calls.proofs.calls.call_base.Given as goal

-- what is left decides
abbrev pub invariant-loop-function : goal.invariant-loop-function
invariant-loop-function l = base_of (map view_logic l.functions) l.name (trees_of (map term_tree l.kids)) ≡ base_of (map view_logic (drop l.function-index l.functions)) l.name (trees_of (map term_tree l.kids))
