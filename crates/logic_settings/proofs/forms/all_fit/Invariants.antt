use Rattle.std.proofs.Common.{◌≡◌}
use Rattle.acsl_expand.specs.Expansion.{view_all}
use Rattle.program_trees.specs.View.{view_facts}
use Rattle.logic_calls.specs.View.{view_names}
use Rattle.logic_order.specs.Order as spec
use Rattle.logic_settings.proofs.Forming.{FitFrom}
use Rattle.logic_settings.proofs.forms.all_fit.Given as goal

-- what is left decides
abbrev pub invariant-loop-at : goal.invariant-loop-at
invariant-loop-at l =
    spec.all_fit (view_facts l.facts) (view_names l.names) 0 (view_all l.facts.definitions)
    ≡ FitFrom (view_facts l.facts) (view_names l.names) l.definitions l.at l.at
