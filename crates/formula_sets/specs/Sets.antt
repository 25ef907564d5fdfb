-- Sets of formulas, by their trees.
use Rattle.std.specs.Prelude.{Bool, false, not, ◌||◌, List, [], ◌∷◌, ◌++◌}
use Rattle.std.specs.List.{list_any}
use Rattle.qed_terms.specs.Order.{same}
use Rattle.qed_terms.specs.Tree.{Tree}
use Rattle.qed_terms.specs.View.{formula_tree}
use Rattle.formula_sets.specs.declared.keys.Keyed.{Keyed}

abbrev pub key_tree : Keyed → Tree
key_tree k = formula_tree k.formula.now

-- the tree is one of these
abbrev pub is_one_of : Tree → List Tree → Bool
is_one_of t ts = list_any (same t) ts

-- the tree is that of a key
abbrev pub has_tree : List Keyed → Tree → Bool
has_tree ks t = list_any (λ k. same t (key_tree k)) ks

-- of each tree whether it is none of those seen, and none before it
abbrev pub are_first : (seen : List Tree) → List Tree → List Bool
are_first seen [] = []
are_first seen (t ∷ ts) = not (is_one_of t seen) ∷ are_first (seen ++ t ∷ []) ts

-- one of these is one of those
abbrev pub some_among : (formulas others : List Tree) → Bool
some_among [] us = false
some_among (t ∷ ts) us = is_one_of t us || some_among ts us
