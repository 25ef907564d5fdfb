use Rattle.std.proofs.Common.{◌≡◌, map, drop}
use Rattle.qed_terms.specs.Setting as spec
use Rattle.qed_terms.specs.Tree.{trees_of}
use Rattle.qed_terms.specs.View.{formula_tree, term_tree}
use Rattle.regular_settings.specs.View.{allowed, params_of}
use Rattle.regular_settings.proofs.bodies.+bodies.Given as goal

-- what is left decides
abbrev pub invariant-are_plain-loop-at : goal.invariant-are_plain-loop-at
invariant-are_plain-loop-at l =
    spec.are_plain (params_of l.uses) (allowed l.uses) (trees_of (map term_tree l.terms))
    ≡ spec.are_plain (params_of l.uses) (allowed l.uses) (trees_of (map term_tree (drop l.at l.terms)))

abbrev pub invariant-are_plain_formulas-loop-at : goal.invariant-are_plain_formulas-loop-at
invariant-are_plain_formulas-loop-at l =
    spec.are_plain (params_of l.uses) (allowed l.uses) (trees_of (map formula_tree l.formulas))
    ≡ spec.are_plain (params_of l.uses) (allowed l.uses) (trees_of (map formula_tree (drop l.at l.formulas)))
