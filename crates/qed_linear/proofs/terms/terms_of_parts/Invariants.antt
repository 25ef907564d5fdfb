use Rattle.std.proofs.Common.{◌≡◌, map, ◌++◌}
use Rattle.qed_terms.specs.View.{term_tree}
use Rattle.qed_linear.specs.Linear.{part_tree}
use Rattle.qed_linear.specs.View.{parts_of}
use Rattle.qed_linear.proofs.terms.terms_of_parts.Given as goal

-- the terms so far, and those of the parts that are left
abbrev pub invariant-loop-part : goal.invariant-loop-part
invariant-loop-part l = map term_tree l.terms.items ++ map part_tree (parts_of l.part-iterator.rest.items) ≡ map part_tree (parts_of l.fn.parts.items)
