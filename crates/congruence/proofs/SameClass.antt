-- Classes of places, and same terms.
use Rattle.std.proofs.Common.{◌≡◌, ℕ, ◌+◌, ◌<◌, ◌==◌, ◌&&◌, nat_lt, Bool, true, false, List, [], ◌∷◌, length, refl, sym, ◌∙◌, ap, subst, arith}
use Rattle.std.specs.Prelude.{◌↔◌, Option, fold}
use Rattle.std.proofs.lemmas.List.{length-append}
use Rattle.qed_terms.specs.declared.head.Head.{Head}
use Rattle.qed_terms.specs.Tree.{Tree}
use Rattle.same_places.specs.Same.{Row, Pairs, AreClasses, at}
use Rattle.same_terms.specs.SameTerms.{InBranch, SameTerm, turned}
use Rattle.same_terms.specs.Stands.{Label, Stand}
use Rattle.same_terms.proofs.Terms.{right_in}
use Rattle.same_terms.proofs.FromRows.{rows_terms}
use Rattle.same_terms.proofs.FromTerms.{terms_rows}
use Rattle.tree_places.specs.Tables.{Node, tree_over, grown, trees_in, tree_at, IsTable, Grows}
use Rattle.tree_places.proofs.Nodes.{once, older, grows_long}
use Rattle.branch_rows.specs.Branch.{MarkBranch}
use Rattle.branch_rows.specs.Marks.{mark_at}
use Rattle.branch_rows.proofs.Marking.{and_both, number_is, number_self}
use Rattle.congruence.specs.Closed.{one_class, same_at, IsClosed, StayClosed}

and_make : (a b : Bool) → a ≡ true → b ≡ true → (a && b) ≡ true
and_make true b e d = d
and_make false b e d = absurd cc

is_below : (i n : ℕ) → nat_lt i n ≡ true → i < n
is_below i n e = grind (arith, e)

below_is : (i n : ℕ) → i < n → nat_lt i n ≡ true
below_is i n l = grind (arith, l)

left_in : (ls : List Tree) (t u : Tree) → SameTerm ls t u → InBranch ls t
left_in ls t u s = right_in (turned s)

-- classes of rows that stand for a branch
pub is_closed : (ls : List Tree) (ns : List Node) (marks : List Bool) (classes : List ℕ) (stands_for : ℕ → Label → Type 0) (rows : List Row) (pairs : Pairs) → Stand ls (length ns) (tree_at ns) stands_for rows pairs → MarkBranch ls (length ns) (tree_at ns) marks → AreClasses (length ns) rows pairs classes →
    IsClosed ls ns marks classes
is_closed ls ns marks classes stands_for rows pairs st marked are = record {
  all = marked.all ∙ sym are.0;
  within = let e = are.0 in omega arith;
  place = λ t b. let p = st.place t b in (p.0, (let l = p.1 in let e = are.0 in omega arith), p.2);
  same = λ i j l m.
      let i_below : i < length ns = let e = are.0 in omega arith in
      let j_below : j < length ns = let e = are.0 in omega arith in
      let told = are.1 i j i_below j_below in (
        λ e.
            let both = and_both (mark_at marks i) (at classes i == at classes j) e in
            rows_terms ls (length ns) (tree_at ns) stands_for rows pairs st i j ((marked.each i i_below).0 both.0) (told.0 (number_is (at classes i) (at classes j) both.1)),
        λ s.
            let one = told.1 (terms_rows ls (length ns) (tree_at ns) stands_for rows pairs st s i j i_below j_below refl refl) in
            and_make (mark_at marks i) (at classes i == at classes j) ((marked.each i i_below).1 (left_in ls (tree_at ns i) (tree_at ns j) s)) (ap (λ z. at classes i == z) (sym one) ∙ number_self (at classes i)),
      );
}

-- it stays so where nodes come behind
pub closed_still : (ls : List Tree) (ns ms : List Node) (marks : List Bool) (classes : List ℕ) → length (trees_in ns) ≡ length ns → Grows ns ms → IsClosed ls ns marks classes → IsClosed ls ms marks classes
closed_still ls ns ms marks classes long grows is = record {
  all = is.all;
  within = let l = is.within in let m = grows_long ns ms grows in omega arith;
  place = λ t b. let p = is.place t b in (p.0, p.1, tree_still p.0 p.1 ∙ p.2);
  same = λ i j l m. subst (λ z. (one_class marks classes i j ≡ true) ↔ SameTerm ls z (tree_at ms j)) (sym (tree_still i l)) (subst (λ z. (one_class marks classes i j ≡ true) ↔ SameTerm ls (tree_at ns i) z) (sym (tree_still j m)) (is.same i j l m));
}
  where
    tree_still : (k : ℕ) → k < length classes → tree_at ms k ≡ tree_at ns k
    tree_still k l = older ns ms long grows k (let w = is.within in omega arith)

trees_grown : (ns : List Node) (ts : List Tree) → length (fold grown ts ns) ≡ length ts + length ns
trees_grown [] ts = omega arith
trees_grown (n ∷ ns) ts =
    let rest = trees_grown ns (grown ts n) in
    let long = length-append ts (tree_over ts n ∷ []) in
    omega (arith, rest, long)

pub stay_closed : StayClosed
stay_closed ls ns ms marks classes grows is = let long = trees_grown ns [] in closed_still ls ns ms marks classes (long ∙ omega arith) grows is

-- any two places of the table
module _ (ls : List Tree) (ns : List Node) (marks : List Bool) (classes : List ℕ) (number : Head → Option ℕ) (find : List ℕ → Option ℕ) (t : IsTable ns number find) (is : IsClosed ls ns marks classes) where
  has_class : (i : ℕ) → i < length ns → InBranch ls (tree_at ns i) → i < length classes
  has_class i l b =
      let p = is.place (tree_at ns i) b in
      let below : p.0 < length ns = let a = p.1 in let w = is.within in omega arith in
      subst (λ z. z < length classes) (once ns number find t p.0 i below l p.2) p.1

  pub same_told : (i j : ℕ) → i < length ns → j < length ns → (same_at marks classes i j ≡ true) ↔ SameTerm ls (tree_at ns i) (tree_at ns j)
  same_told i j l m = (
    λ e.
        let a = and_both (nat_lt i (length classes)) (nat_lt j (length classes) && one_class marks classes i j) e in
        let b = and_both (nat_lt j (length classes)) (one_class marks classes i j) a.1 in
        (is.same i j (is_below i (length classes) a.0) (is_below j (length classes) b.0)).0 b.1,
    λ s.
        let x = has_class i l (left_in ls (tree_at ns i) (tree_at ns j) s) in
        let y = has_class j m (right_in s) in
        and_make (nat_lt i (length classes)) (nat_lt j (length classes) && one_class marks classes i j) (below_is i (length classes) x) (and_make (nat_lt j (length classes)) (one_class marks classes i j) (below_is j (length classes) y) ((is.same i j x y).1 s)),
  )
