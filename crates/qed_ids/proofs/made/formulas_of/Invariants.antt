use Rattle.std.proofs.Common.{◌≡◌, true, map, ◌++◌}
use Rattle.qed_terms.specs.View.{formula_tree}
use Rattle.qed_ids.specs.Made.{made_tree, are_formulas}
use Rattle.qed_ids.proofs.made.formulas_of.Given as goal

-- the formulas so far and what is left make the whole, and what is left are formulas
abbrev pub invariant-loop-kid : goal.invariant-loop-kid
invariant-loop-kid l = record {
  whole : map formula_tree l.formulas ++ map made_tree l.kid-iterator.rest.items ≡ map made_tree l.fn.kids.items;
  left : are_formulas (map made_tree l.kid-iterator.rest.items) ≡ true;
}
