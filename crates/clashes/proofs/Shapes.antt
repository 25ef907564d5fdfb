-- The shapes of literals, by a node's head and the places of its kids.
use Rattle.std.proofs.Common.{◌≡◌, ℕ, ◌<◌, List, [], ◌∷◌, map, length, get_or, refl, sym, ◌∙◌, ap, arith}
use Rattle.qed_terms.specs.declared.head.Head.{Head}
use Rattle.qed_terms.specs.declared.head.Head.TheVariants as h
use Rattle.qed_terms.specs.declared.head.FormOp.TheVariants as form
use Rattle.qed_terms.specs.Nodes.{kids_of}
use Rattle.qed_terms.specs.Tree.{Tree, node, head_of, trees_of, false_tree, not_of, equal}
use Rattle.qed_terms.proofs.Lists.{trees_of-list_of}
use Rattle.clashes.proofs.Listed.{same_default}

pub item_is : (ks : List ℕ) (i x : ℕ) → i < length ks → x ≡ get_or ks i x → x ≡ get_or ks i 0
item_is ks i x l e = e ∙ same_default ks i x 0 l

same_node : (t : Tree) → node (head_of t) (trees_of (kids_of t)) ≡ t
same_node (node head ts) = ap (node head) (trees_of-list_of ts)

module _ (tree : ℕ → Tree) (t : Tree) (head : Head) (is : head ≡ head_of t) where
  whole : (g : Head) (ks : List ℕ) → head ≡ g → map tree ks ≡ kids_of t → t ≡ node g (trees_of (map tree ks))
  whole g ks e kids = sym ((λ i. node ((sym e ∙ is) i) (trees_of (kids i))) ∙ same_node t)

  pub false_there : (ks : List ℕ) → map tree ks ≡ kids_of t → head ≡ h.False → length ks ≡ 0 → t ≡ false_tree
  false_there [] kids e n = whole h.False [] e kids
  false_there (k ∷ ks) kids e n = absurd (omega arith)

  pub not_there : (ks : List ℕ) → map tree ks ≡ kids_of t → head ≡ h.Not → length ks ≡ 1 → t ≡ not_of (tree (get_or ks 0 0))
  not_there [] kids e n = absurd (omega arith)
  not_there (k ∷ []) kids e n = whole h.Not (k ∷ []) e kids
  not_there (k ∷ l ∷ ks) kids e n = absurd (omega arith)

  pub equal_there : (ks : List ℕ) → map tree ks ≡ kids_of t → head ≡ h.Form form.Equal → length ks ≡ 2 → t ≡ equal (tree (get_or ks 0 0)) (tree (get_or ks 1 0))
  equal_there [] kids e n = absurd (omega arith)
  equal_there (k ∷ []) kids e n = absurd (omega arith)
  equal_there (k ∷ l ∷ []) kids e n = whole (h.Form form.Equal) (k ∷ l ∷ []) e kids
  equal_there (k ∷ l ∷ m ∷ ks) kids e n = absurd (omega arith)

  -- the other way round: what a node is that is of this shape

  pub head_is : (u : Tree) → t ≡ u → head ≡ head_of u
  head_is u e = is ∙ ap head_of e

  pub no_kid : (ks : List ℕ) → map tree ks ≡ kids_of t → t ≡ false_tree → length ks ≡ 0
  no_kid [] kids e = refl
  no_kid (k ∷ ks) kids e = let d : tree k ∷ map tree ks ≡ [] = kids ∙ ap kids_of e in absurd cc

  pub one_kid : (ks : List ℕ) (u : Tree) → map tree ks ≡ kids_of t → t ≡ not_of u → length ks ≡ 1
  one_kid [] u kids e = let d : [] ≡ u ∷ [] = kids ∙ ap kids_of e in absurd cc
  one_kid (k ∷ []) u kids e = refl
  one_kid (k ∷ l ∷ ks) u kids e = let d : tree k ∷ tree l ∷ map tree ks ≡ u ∷ [] = kids ∙ ap kids_of e in absurd cc

  pub two_kids : (ks : List ℕ) (u v : Tree) → map tree ks ≡ kids_of t → t ≡ equal u v → length ks ≡ 2
  two_kids [] u v kids e = let d : [] ≡ u ∷ v ∷ [] = kids ∙ ap kids_of e in absurd cc
  two_kids (k ∷ []) u v kids e = let d : tree k ∷ [] ≡ u ∷ v ∷ [] = kids ∙ ap kids_of e in absurd cc
  two_kids (k ∷ l ∷ []) u v kids e = refl
  two_kids (k ∷ l ∷ m ∷ ks) u v kids e = let d : tree k ∷ tree l ∷ tree m ∷ map tree ks ≡ u ∷ v ∷ [] = kids ∙ ap kids_of e in absurd cc
