use Rattle.std.proofs.Common.{◌≡◌, map}
use Rattle.qed_terms.specs.Tree.{trees_of}
use Rattle.qed_terms.specs.View.{formula_tree}
use Rattle.qed_rules.specs.Passes.{are_unquantified}
use Rattle.qed_rules.proofs.FormulaPasses.{UnquantifiedFrom}
use Rattle.qed_rules.proofs.turns.+is_unquantified.Given as goal

-- the formulas from here on decide
abbrev pub invariant-are_unquantified-loop-formula : goal.invariant-are_unquantified-loop-formula
invariant-are_unquantified-loop-formula l = are_unquantified (trees_of (map formula_tree l.formulas)) ≡ UnquantifiedFrom l.formulas l.formula-index
