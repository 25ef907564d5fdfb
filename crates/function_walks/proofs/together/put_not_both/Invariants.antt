use Rattle.std.proofs.Common.{◌≡◌, ◌++◌, map, drop}
use Rattle.qed_terms.specs.View.{formula_tree}
use Rattle.function_walks.proofs.Choices.{not_with}
use Rattle.function_walks.proofs.together.put_not_both.Given as goal

abbrev pub invariant-loop-other : goal.invariant-loop-other
invariant-loop-other l = map formula_tree l.made ++ map (not_with l.first) (drop l.other-index l.others) ≡ map formula_tree l.fn.made ++ map (not_with l.first) l.others
