-- What a tree says of a formula.
use Rattle.std.specs.Prelude.{◌≡◌}
use Rattle.qed_terms.specs.declared.term.Formula.{Formula}
use Rattle.qed_terms.specs.View.{formula_tree}

-- a formula is known by its tree
abbrev pub FormulasAreTrees : Type 0
FormulasAreTrees = (f g : Formula) → formula_tree f ≡ formula_tree g → f ≡ g
