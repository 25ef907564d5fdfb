-- Typed annotations as plain trees (ACSL 2.2): terms, sets of addresses and predicates alike.
use Rattle.std.specs.Prelude.{List, [], ◌∷◌, map}
use Rattle.acsl_trees.specs.declared.heads.Head.{Head}
use Rattle.acsl_trees.specs.declared.tree.Tree.{Tree as Code, Tree-F, fold-Tree}

mutual
  pub data Tree : Type 0 where
    node : (head : Head) (kids : Trees) → Tree

  pub data Trees : Type 0 where
    stop : Trees
    more : (t : Tree) (rest : Trees) → Trees

abbrev pub trees_of : List Tree → Trees
trees_of [] = stop
trees_of (t ∷ ts) = more t (trees_of ts)

abbrev pub list_of : Trees → List Tree
list_of stop = []
list_of (more t rest) = t ∷ list_of rest

-- trees by the number of their kids
abbrev pub leaf : Head → Tree
leaf h = node h stop

abbrev pub one : Head → Tree → Tree
one h a = node h (more a stop)

abbrev pub two : Head → Tree → Tree → Tree
two h a b = node h (more a (more b stop))

abbrev pub three : Head → Tree → Tree → Tree → Tree
three h a b c = node h (more a (more b (more c stop)))

-- ---- the tree in memory

abbrev pub layer : Tree-F Tree → Tree
layer x = node x.head (trees_of x.kids)

unfoldable pub view_tree : Code → Tree
view_tree = fold-Tree Tree layer

abbrev pub view_trees : List Code → List Tree
view_trees ts = map view_tree ts
