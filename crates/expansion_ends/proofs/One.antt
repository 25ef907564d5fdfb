-- An expansion comes to one end.
use Rattle.std.proofs.Common.{◌≡◌, ℕ, false, List, [], refl, sym, subst}
use Rattle.qed_terms.specs.Setting.{Setting}
use Rattle.qed_terms.specs.Tree.{Tree, true_tree, not_of}
use Rattle.qed_rules.specs.Rules.{step}
use Rattle.qed_simplify.specs.Normal.{Normal}
use Rattle.qed_simplify.proofs.Laws.{normal_is_one}
use Rattle.branches.specs.Branch.{Branch}
use Rattle.branches.specs.Expansion.{Runs, End, all_closed, from_formula}
use Rattle.branches.proofs.Ends.{one_end_by}
use Rattle.branch_changes.specs.Changes.{Changes}
use Rattle.branch_changes.proofs.Stated.{leads_to_one}
use Rattle.expansion_ends.specs.Goals.{proving, Expands, at_once, by_branches}
use Rattle.expansion_ends.specs.Laws.{ComesToOneEnd}

module _ (closed : Branch → Type 0) (round : Setting → Branch → List Tree → Type 0) where
  pub comes_to_one_end : ComesToOneEnd closed round
  comes_to_one_end s one fuel budget goal e d (at_once n) (at_once m) = refl
  comes_to_one_end s one fuel budget goal e d (at_once n) (by_branches other normal runs) = absurd (other n)
  comes_to_one_end s one fuel budget goal e d (by_branches other normal runs) (at_once m) = absurd (other m)
  comes_to_one_end s one fuel budget goal e d (by_branches {n = n} other normal runs) (by_branches {n = m} other' normal' runs') =
      let same : n ≡ m = normal_is_one s (not_of goal) n m normal normal' in
      (one_end_by false closed (Changes (Normal (step s)) closed) (round s) (leads_to_one closed s) one budget (from_formula fuel n) 0 [] [] e d runs
      (subst (λ t. Runs (proving closed round s) budget (from_formula fuel t) 0 [] d) (sym same) runs')).1
