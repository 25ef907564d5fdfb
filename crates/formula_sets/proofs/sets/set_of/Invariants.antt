use Rattle.std.proofs.Common.{◌≡◌, map, take}
use Rattle.qed_terms.specs.Tree.{Tree}
use Rattle.qed_terms.specs.View.{formula_tree}
use Rattle.formula_sets.specs.Sets.{has_tree, is_one_of}
use Rattle.formula_sets.proofs.sets.set_of.Given as goal

abbrev pub invariant-loop-formula : goal.invariant-loop-formula
invariant-loop-formula l = (t : Tree) → has_tree l.set.keys.keys t ≡ is_one_of t (map formula_tree (take l.formula-index l.formulas))
