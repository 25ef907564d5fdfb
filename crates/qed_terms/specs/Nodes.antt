-- A term or a formula, seen as one kind of node.
use Rattle.std.specs.Prelude.{ℕ, zero, suc, List, Option, Some, None}
use Rattle.qed_terms.specs.declared.node.Node.{Node}
use Rattle.qed_terms.specs.declared.node.Node.TheVariants as node
use Rattle.qed_terms.specs.Tree.{Tree, list_of, kids_in}
use Rattle.qed_terms.specs.View.{term_tree, formula_tree}

abbrev pub node_tree : Node → Tree
node_tree (node.Term t) = term_tree t.now
node_tree (node.Formula f) = formula_tree f.now

abbrev pub kids_of : Tree → List Tree
kids_of t = list_of (kids_in t)

-- what is left of the room for nodes after so many; none where they are more
abbrev pub room_after : (room nodes : ℕ) → Option ℕ
room_after room zero = Some room
room_after zero (suc n) = None
room_after (suc room) (suc n) = room_after room n
