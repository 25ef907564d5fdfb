-- The kids of a node of a store, one after another.
use Rattle.std.proofs.Common.{◌≡◌, ℕ, zero, suc, ◌+◌, ◌<◌, ◌≤◌, List, [], ◌∷◌, ◌++◌, map, take, length, get_or, All, sym, ◌∙◌, ap, subst, arith}
use Rattle.std.proofs.lemmas.List.{map_push, length-map}
use Rattle.qed_terms.specs.declared.head.Head.{Head}
use Rattle.qed_terms.specs.Nodes.{kids_of}
use Rattle.qed_terms.specs.Store.{over}
use Rattle.qed_terms.specs.Tree.{Tree, head_of, size, true_tree}
use Rattle.qed_terms.proofs.Kept.{same_over}
use Rattle.qed_terms.proofs.Kids.{mapped}
use Rattle.qed_terms.proofs.Sizes.{size-kid}
use Rattle.qed_ids.specs.declared.made.Made.{Made}
use Rattle.qed_ids.specs.Made.{made_tree}

pub none_yet : (made : List Made) (ts : List Tree) → made ≡ [] → map made_tree made ≡ take 0 ts
none_yet made ts e = ap (map made_tree) e

module _ {Id : Type 0} (tree : Id → Tree) where
  further : (ids : List Id) (i : ℕ) (x : Id) → i < length ids → x ≡ get_or ids i x → take i (map tree ids) ++ tree x ∷ [] ≡ take (i + 1) (map tree ids)
  further [] i x k e = absurd (omega (arith, k))
  further (y ∷ ids) zero x k e = ap (λ z. tree z ∷ []) e
  further (y ∷ ids) (suc i) x k e =
      let n : suc (i + 1) ≡ suc i + 1 = omega arith in
      ap (λ ts. tree y ∷ ts) (further ids i x (omega (arith, k)) e) ∙ ap (λ m. take m (tree y ∷ map tree ids)) n

  -- one kid more
  pub node_more : (ids : List Id) (i : ℕ) (x : Id) (ts : List Tree) (made made' : List Made) (m : Made) → i < length ids → x ≡ get_or ids i x → map tree ids ≡ ts → made_tree m ≡ tree x → made' ≡ made ++ m ∷ []
      → map made_tree made ≡ take i ts → map made_tree made' ≡ take (i + 1) ts
  node_more ids i x ts made made' m k e stand same push so_far =
      ap (map made_tree) push ∙ map_push made_tree made m ∙ (λ j. (so_far ∙ ap (take i) (sym stand)) j ++ same j ∷ []) ∙ further ids i x k e ∙ ap (take (i + 1)) stand

  pub kid_less : (ids : List Id) (i : ℕ) (x : Id) (t : Tree) → i < length ids → x ≡ get_or ids i x → map tree ids ≡ kids_of t → size (tree x) < size t
  kid_less ids i x t k e stand =
      let count : length (kids_of t) ≡ length ids = ap length (sym stand) ∙ length-map ids tree in
      let here : get_or (kids_of t) i true_tree ≡ tree x = ap (λ ts. get_or ts i true_tree) (sym stand) ∙ mapped tree ids i x k e in
      let less = size-kid t i (omega (arith, k, count)) in
      let same = ap size here in
      omega (arith, less, same)

  pub kid_held : (held : Id → Type 0) (ids : List Id) (i : ℕ) (x : Id) → All held ids → i < length ids → x ≡ get_or ids i x → held x
  kid_held held ids i x all k e = subst held (sym e) (all i x k)

  -- all kids
  pub whole_node : (ids : List Id) (i : ℕ) (t : Tree) (head : Head) (made : List Made) → length ids ≤ i → map tree ids ≡ kids_of t → head ≡ head_of t → map made_tree made ≡ take i (kids_of t) → over head (map made_tree made) ≡ t
  whole_node ids i t head made k stand same so_far =
      let count : length (kids_of t) ≡ length ids = ap length (sym stand) ∙ length-map ids tree in
      same_over t head (map made_tree made) i same so_far (omega (arith, k, count))

pub ruleset node_laws = (none_yet, node_more, kid_less, kid_held)
