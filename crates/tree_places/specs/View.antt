-- The plain values of the code's tables.
use Rattle.std.specs.Prelude.{ℕ, nat_eq, Bool, List, map, Option}
use Rattle.std.specs.Cmp.Lexicographic.{pointwise}
use Rattle.std.specs.Map.{lookup}
use Rattle.std.specs.declared.vec.Vec.{Vec}
use Rattle.qed_terms.specs.declared.head.Head.{Head}
use Rattle.tree_places.specs.declared.heads.Heads.{Heads}
use Rattle.tree_places.specs.declared.table.TreeNode.{TreeNode}
use Rattle.tree_places.specs.declared.table.TreeTable.{TreeTable}
use Rattle.tree_places.specs.Heads.{number_in, AreHeads}
use Rattle.tree_places.specs.Tables.{Node, IsTable}

abbrev pub numbers_of : Heads → Head → Option ℕ
numbers_of h = number_in (h.numbers.entries)

abbrev pub are_kept : Heads → Type 0
are_kept h = AreHeads (numbers_of h) (h.count)

abbrev pub same_numbers : List ℕ → List ℕ → Bool
same_numbers ks ls = pointwise nat_eq ks ls

-- the place that a table has at a key
abbrev pub find_in : {Z : Type 0} → List (Vec ℕ Z × ℕ) → List ℕ → Option ℕ
find_in entries key = lookup (λ v. same_numbers key (v.items)) entries

abbrev pub node_of : TreeNode → Node
node_of n = record { head = n.head; number = n.number; kids = n.kids.items }

abbrev pub nodes_of : TreeTable → List Node
nodes_of t = map node_of (t.nodes.items)

pub record IsKept (t : TreeTable) : Type 0 where
  pub heads : are_kept (t.heads)
  pub table : IsTable (nodes_of t) (numbers_of (t.heads)) (find_in (t.places.entries))
