-- Trees are compared kid by kid.
use Rattle.std.proofs.Common.{◌≡◌, ◌<◌, ◌≤◌, ℕ, suc, ◌+◌, Bool, true, false, ◌&&◌, List, [], ◌∷◌, length, drop, get_or, refl, sym, ap, ◌∙◌, arith}
use Rattle.std.specs.Prelude.{min}
use Rattle.std.proofs.lemmas.Bool.{false≢true}
use Rattle.std.proofs.lemmas.List.{at_drop_more, at_drop_all}
use Rattle.acsl_trees.specs.declared.tree.Tree.{Tree as Code, out-Tree, roll-out-Tree}
use Rattle.acsl_trees.specs.Tree.{Tree, Trees, node, stop, more, trees_of, view_tree, view_trees}
use Rattle.acsl_trees.proofs.Equations.{view_made}
use Rattle.binder_names.specs.Trees.{same_head, same_tree, same_trees}

view_whole : (t : Code) → view_tree t ≡ node (out-Tree t).head (trees_of (view_trees (out-Tree t).kids))
view_whole t = ap view_tree (sym (roll-out-Tree t)) ∙ view_made (out-Tree t).head (out-Tree t).kids

pub passed : (b c all : Bool) → b ≡ true → (b && c) ≡ all → c ≡ all
passed true c all h k = k
passed false c all h k = absurd (false≢true h)

pub failed : (b c all : Bool) → b ≡ false → (b && c) ≡ all → false ≡ all
failed true c all h k = absurd (false≢true (sym h))
failed false c all h k = k

-- ---- trees

abbrev kids : Code → Trees
kids t = trees_of (view_trees (out-Tree t).kids)

whole_is : (t u : Code) → (same_head (out-Tree t).head (out-Tree u).head && same_trees (kids t) (kids u)) ≡ same_tree (view_tree t) (view_tree u)
whole_is t u = λ i. same_tree (sym (view_whole t) i) (sym (view_whole u) i)

pub heads_differ : (t u : Code) (b : Bool) → b ≡ same_head (out-Tree t).head (out-Tree u).head → b ≡ false → false ≡ same_tree (view_tree t) (view_tree u)
heads_differ t u b is fails = failed b (same_trees (kids t) (kids u)) _ fails (ap (λ b. b && same_trees (kids t) (kids u)) is ∙ whole_is t u)

pub kids_decide : (t u : Code) (ks ls : List Code) (b c : Bool) → ks ≡ (out-Tree t).kids → ls ≡ (out-Tree u).kids → b ≡ same_head (out-Tree t).head (out-Tree u).head → b ≡ true
    → c ≡ same_trees (trees_of (view_trees ks)) (trees_of (view_trees ls)) → c ≡ same_tree (view_tree t) (view_tree u)
kids_decide t u ks ls b c left right is fits made =
    made ∙ (λ i. same_trees (trees_of (view_trees (left i))) (trees_of (view_trees (right i))))
    ∙ passed b (same_trees (kids t) (kids u)) _ fits (ap (λ b. b && same_trees (kids t) (kids u)) is ∙ whole_is t u)

pub ruleset tree_laws = (heads_differ, kids_decide)

-- ---- kids

abbrev same : List Code → List Code → Bool
same ks ls = same_trees (trees_of (view_trees ks)) (trees_of (view_trees ls))

pub counts_differ : (ks ls : List Code) → (length ks ≡ length ls → ⊥) → false ≡ same ks ls
counts_differ [] [] e = absurd (e refl)
counts_differ [] (l ∷ ls) e = refl
counts_differ (k ∷ ks) [] e = refl
counts_differ (k ∷ ks) (l ∷ ls) e = by (same_tree (view_tree k) (view_tree l)) (counts_differ ks ls (λ h. e (ap suc h)))
  where
    by : (b : Bool) → false ≡ same ks ls → false ≡ (b && same ks ls)
    by true h = h
    by false h = refl

kid_next : (ks ls : List Code) (i : ℕ) (x y : Code) (b : Bool) → i < length ks → i < length ls → x ≡ get_or ks i x → y ≡ get_or ls i y
    → b ≡ same_tree (view_tree x) (view_tree y) → same (drop i ks) (drop i ls) ≡ (b && same (drop (i + 1) ks) (drop (i + 1) ls))
kid_next ks ls i x y b lt lu is js made =
    at_drop_more (λ us. same us (drop i ls)) ks i x lt ∙ at_drop_more (same (get_or ks i x ∷ drop (i + 1) ks)) ls i y lu
    ∙ (λ j. same_tree (view_tree (sym is j)) (view_tree (sym js j)) && same (drop (i + 1) ks) (drop (i + 1) ls))
    ∙ ap (λ b. b && same (drop (i + 1) ks) (drop (i + 1) ls)) (sym made)

pub kid_turn : (ks ls : List Code) (i : ℕ) (x y : Code) (b all : Bool) → i < length ks → i < length ls → x ≡ get_or ks i x → y ≡ get_or ls i y
    → b ≡ same_tree (view_tree x) (view_tree y) → b ≡ true → same (drop i ks) (drop i ls) ≡ all → same (drop (i + 1) ks) (drop (i + 1) ls) ≡ all
kid_turn ks ls i x y b all lt lu is js made fits so_far =
    passed b (same (drop (i + 1) ks) (drop (i + 1) ls)) all fits (sym (kid_next ks ls i x y b lt lu is js made) ∙ so_far)

pub kid_fault : (ks ls : List Code) (i : ℕ) (x y : Code) (b all : Bool) → i < length ks → i < length ls → x ≡ get_or ks i x → y ≡ get_or ls i y
    → b ≡ same_tree (view_tree x) (view_tree y) → b ≡ false → same (drop i ks) (drop i ls) ≡ all → false ≡ all
kid_fault ks ls i x y b all lt lu is js made fails so_far =
    failed b (same (drop (i + 1) ks) (drop (i + 1) ls)) all fails (sym (kid_next ks ls i x y b lt lu is js made) ∙ so_far)

pub kids_done : (ks ls : List Code) (i : ℕ) (all : Bool) → length ks ≡ length ls → min (length ks) (length ls) ≤ i → same (drop i ks) (drop i ls) ≡ all → true ≡ all
kids_done ks ls i all counts past so_far =
    let left : length ks ≤ i = grind (arith, counts, past) in
    let right : length ls ≤ i = grind (arith, counts, past) in
    sym (at_drop_all (λ us. same us (drop i ls)) ks i left ∙ at_drop_all (same []) ls i right) ∙ so_far

pub ruleset kid_laws = (counts_differ, kid_turn, kid_fault, kids_done)
