use Rattle.std.proofs.Common.{◌≡◌, map, drop}
use Rattle.std.specs.List.{list_any}
use Rattle.qed_terms.specs.Setting as spec
use Rattle.qed_terms.specs.Tree.{trees_of}
use Rattle.qed_terms.specs.View.{term_tree, view_logic}
use Rattle.regular_settings.proofs.uses.some_takes.Given as goal

-- what is left decides
abbrev pub invariant-loop-at : goal.invariant-loop-at
invariant-loop-at l =
    spec.some_takes (map view_logic l.functions) l.name (trees_of (map term_tree l.kids))
    ≡ list_any (spec.takes l.name (trees_of (map term_tree l.kids))) (map view_logic (drop l.at l.functions))
