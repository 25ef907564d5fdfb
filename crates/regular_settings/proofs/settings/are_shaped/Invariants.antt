use Rattle.std.proofs.Common.{◌≡◌, [], map}
use Rattle.qed_terms.specs.View.{view_logic}
use Rattle.regular_settings.specs.Shapes as spec
use Rattle.regular_settings.proofs.Passing.{ShapedFrom}
use Rattle.regular_settings.proofs.settings.are_shaped.Given as goal

-- what is left decides
abbrev pub invariant-loop-at : goal.invariant-loop-at
invariant-loop-at l = spec.are_shaped_after [] (map view_logic l.functions) ≡ ShapedFrom l.functions l.at
