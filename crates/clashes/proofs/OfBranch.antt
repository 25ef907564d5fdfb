-- Places of terms of a branch, by their classes.
use Rattle.std.proofs.Common.{◌≡◌, ℕ, ◌<◌, ◌==◌, ◌&&◌, Bool, true, false, List, length, sym, ◌∙◌, ap, subst, arith}
use Rattle.std.specs.Prelude.{◌↔◌, Option}
use Rattle.qed_terms.specs.declared.head.Head.{Head}
use Rattle.qed_terms.specs.Tree.{Tree}
use Rattle.same_places.specs.Same.{at}
use Rattle.same_terms.specs.SameTerms.{InBranch, SameTerm, itself}
use Rattle.tree_places.specs.Tables.{Node, tree_at, IsTable}
use Rattle.tree_places.proofs.Nodes.{once}
use Rattle.branch_rows.specs.Marks.{mark_at}
use Rattle.branch_rows.proofs.Marking.{and_both, number_is, number_self}
use Rattle.congruence.specs.Closed.{IsClosed}

pub and_make : (a b : Bool) → a ≡ true → b ≡ true → (a && b) ≡ true
and_make true b e d = d
and_make false b e d = absurd cc

module _ (ls : List Tree) (ns : List Node) (marks : List Bool) (classes : List ℕ) (number : Head → Option ℕ) (find : List ℕ → Option ℕ) (t : IsTable ns number find) (is : IsClosed ls ns marks classes) where
  pub has_class : (i : ℕ) → i < length ns → InBranch ls (tree_at ns i) → i < length classes
  has_class i l b =
      let p = is.place (tree_at ns i) b in
      let below : p.0 < length ns = let a = p.1 in let w = is.within in omega arith in
      subst (λ z. z < length classes) (once ns number find t p.0 i below l p.2) p.1

  pub is_marked : (i : ℕ) → i < length ns → InBranch ls (tree_at ns i) → mark_at marks i ≡ true
  is_marked i l b = let c = has_class i l b in (and_both (mark_at marks i) (at classes i == at classes i) ((is.same i i c c).1 (itself b))).0

  -- of one class where they are same
  pub class_told : (i j : ℕ) → i < length ns → j < length ns → InBranch ls (tree_at ns i) → InBranch ls (tree_at ns j) → (at classes i ≡ at classes j) ↔ SameTerm ls (tree_at ns i) (tree_at ns j)
  class_told i j l m b d =
      let x = has_class i l b in
      let y = has_class j m d in (
        λ e. (is.same i j x y).0 (and_make (mark_at marks i) (at classes i == at classes j) (is_marked i l b) (ap (λ z. at classes i == z) (sym e) ∙ number_self (at classes i))),
        λ s. number_is (at classes i) (at classes j) (and_both (mark_at marks i) (at classes i == at classes j) ((is.same i j x y).1 s)).1,
      )
