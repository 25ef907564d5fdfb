use Rattle.std.proofs.Common.{◌≡◌, map, drop}
use Rattle.c_syntax.specs.View.{view_behavior}
use Rattle.from_lines.specs.Froms.{in_behaviors}
use Rattle.from_lines.proofs.contracts.put_behaviors.Given as goal

abbrev pub invariant-loop-behavior : goal.invariant-loop-behavior
invariant-loop-behavior l =
    in_behaviors (map view_behavior (drop l.behavior-index l.behaviors)) l.lines.items ≡ in_behaviors (map view_behavior l.behaviors) l.initial.lines.items
