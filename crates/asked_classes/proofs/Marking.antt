-- Trees at places of a table that grows: markers, and literals with markers behind them.
use Rattle.std.proofs.Common.{◌≡◌, take, ◌≤◌, ℕ, ◌<◌, List, [], ◌∷◌, ◌++◌, map, length, get_or, All, refl, sym, ◌∙◌, ap}
use Rattle.std.proofs.lemmas.List.{take_all}
use Rattle.std.specs.Prelude.{pos, Option}
use Rattle.qed_terms.specs.declared.head.Head.{Head}
use Rattle.qed_terms.specs.declared.head.Head.TheVariants as h
use Rattle.qed_terms.specs.declared.head.FormOp.TheVariants as form
use Rattle.qed_terms.specs.Tree.{Tree, node, trees_of, num, two}
use Rattle.tree_places.specs.Tables.{Node, tree_at, IsTable, Grows}
use Rattle.tree_places.proofs.Nodes.{older, map_same}
use Rattle.instance_rows.specs.Candidates.{marker}

map_append : {A : Type 0} (f : A → Tree) (xs ys : List A) → map f (xs ++ ys) ≡ map f xs ++ map f ys
map_append f [] ys = refl
map_append f (x ∷ xs) ys = ap (λ us. f x ∷ us) (map_append f xs ys)

module _ (ns ms : List Node) (number : Head → Option ℕ) (find : List ℕ → Option ℕ) (t : IsTable ns number find) (g : Grows ns ms) where
  -- the term at one place, 0 at another
  pub marker_is : (none term : ℕ) (kids : List ℕ) (u v : Tree) → none < length ns → tree_at ns none ≡ num (pos 0) → tree_at ms term ≡ u → kids ≡ term ∷ none ∷ []
      → v ≡ node (h.Form form.AtMost) (trees_of (map (tree_at ms) kids)) → v ≡ marker u
  marker_is none term kids u v l z e k w =
      w ∙ ap (λ ps. node (h.Form form.AtMost) (trees_of (map (tree_at ms) ps))) k ∙ (λ i. node (h.Form form.AtMost) (two (e i) ((older ns ms t.all g none l ∙ z) i)))

  -- some trees at places, and others behind them
  pub both_there : (ps qs all : List ℕ) (ls us : List Tree) → All (λ k. k < length ns) ps → map (tree_at ns) ps ≡ ls → map (tree_at ms) qs ≡ us → all ≡ ps ++ qs
      → map (tree_at ms) all ≡ ls ++ us
  both_there ps qs all ls us below e f a =
      ap (map (tree_at ms)) a ∙ map_append (tree_at ms) ps qs
      ∙ (λ i. (map_same (tree_at ms) (tree_at ns) ps (λ k d l. older ns ms t.all g (get_or ps k d) (below k d l)) ∙ e) i ++ f i)

-- markers of all of some terms, where so many are done
pub markers_done : {Id : Type 0} (tree : Id → Tree) (ids : List Id) (i : ℕ) (all : List Tree) → length ids ≤ i → all ≡ map (λ id. marker (tree id)) (take i ids) → all ≡ map marker (map tree ids)
markers_done tree ids i all k e = e ∙ ap (map (λ id. marker (tree id))) (take_all i ids k) ∙ twice ids
  where
    twice : (us : List _) → map (λ id. marker (tree id)) us ≡ map marker (map tree us)
    twice [] = refl
    twice (u ∷ us) = ap (λ ms. marker (tree u) ∷ ms) (twice us)
