use Rattle.std.proofs.Common.{◌≡◌, map, take}
use Rattle.qed_terms.specs.Tree.{size}
use Rattle.qed_terms.specs.Nodes.{kids_of}
use Rattle.qed_ids.specs.Made.{made_tree}
use Rattle.qed_ids.proofs.stored.+lower_node.Given as goal

abbrev pub decreases-lower_node : goal.decreases-lower_node
decreases-lower_node g l = size (g.S.TermStore.tree l.store.now l.id)

-- the kids so far
abbrev pub invariant-loop-kid : goal.invariant-loop-kid
invariant-loop-kid g l = map made_tree l.kids.items ≡ take l.kid-index (kids_of (g.S.TermStore.tree l.store l.id))
