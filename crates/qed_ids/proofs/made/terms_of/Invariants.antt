use Rattle.std.proofs.Common.{◌≡◌, true, map, ◌++◌}
use Rattle.qed_terms.specs.View.{term_tree}
use Rattle.qed_ids.specs.Made.{made_tree, are_terms}
use Rattle.qed_ids.proofs.made.terms_of.Given as goal

-- the terms so far and what is left make the whole, and what is left are terms
abbrev pub invariant-loop-kid : goal.invariant-loop-kid
invariant-loop-kid l = record {
  whole : map term_tree l.terms ++ map made_tree l.kid-iterator.rest.items ≡ map made_tree l.fn.kids.items;
  left : are_terms (map made_tree l.kid-iterator.rest.items) ≡ true;
}
