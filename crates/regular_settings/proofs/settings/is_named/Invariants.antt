use Rattle.std.proofs.Common.{◌≡◌, map, drop}
use Rattle.std.specs.List.{list_any}
use Rattle.std.specs.Str.{bytes_eq}
use Rattle.qed_terms.specs.Setting.{Logic}
use Rattle.qed_terms.specs.View.{view_logic}
use Rattle.regular_settings.proofs.settings.is_named.Given as goal

-- what is left decides
abbrev pub invariant-loop-at : goal.invariant-loop-at
invariant-loop-at l =
    list_any (λ (g : Logic). bytes_eq g.name l.name) (map view_logic l.functions)
    ≡ list_any (λ (g : Logic). bytes_eq g.name l.name) (map view_logic (drop l.at l.functions))
