use Rattle.std.proofs.Common.{◌≡◌, ◌≤◌, length, drop}
use Rattle.std.specs.Cmp.Lexicographic.{slice_cmp}
use Rattle.std.specs.Ordering.{nat_cmp}
use Rattle.qed_terms.specs.Order.{back_in}
use Rattle.qed_terms.proofs.head.Head.compare_backs.Given as goal

-- what is left to compare decides
abbrev pub invariant-loop-at : goal.invariant-loop-at
invariant-loop-at l = let xs = back_in l.self in let ys = back_in l.other in record {
  within : l.at ≤ length ys;
  rest : slice_cmp nat_cmp xs ys ≡ slice_cmp nat_cmp (drop l.at xs) (drop l.at ys);
}
