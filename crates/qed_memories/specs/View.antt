-- What the program sees of a memory, a table or where a block is found, as plain trees.
use Rattle.std.specs.Prelude.{◌≡◌, ℕ, zero, suc, Bool, true, false}
use Rattle.qed_terms.specs.declared.head.Head.TheVariants as h
use Rattle.qed_terms.specs.declared.head.TermOp.TheVariants as op
use Rattle.qed_terms.specs.Tree.{Tree, node, stop, more}
use Rattle.qed_terms.specs.View.{term_tree}
use Rattle.qed_memories.specs.declared.look.MemoryNode.{MemoryNode}
use Rattle.qed_memories.specs.declared.look.MemoryNode.TheVariants as memory
use Rattle.qed_memories.specs.declared.look.TableNode.{TableNode}
use Rattle.qed_memories.specs.declared.look.TableNode.TheVariants as table
use Rattle.qed_memories.specs.declared.loads.Cell as seen_cell
use Rattle.qed_memories.specs.declared.loads.Cell.TheVariants as cell
use Rattle.qed_memories.specs.declared.blocks.Found as seen_found
use Rattle.qed_memories.specs.declared.blocks.Found.TheVariants as found
use Rattle.qed_linear.specs.Linear.{to_lin, of_lin}
use Rattle.qed_memories.specs.Memories.{store_tree, grow_tree, one_more}
use Rattle.qed_memories.specs.Passes.{Cell, value, unread, Found, made_as, nowhere, unmade}

abbrev pub is_store : Tree → Bool
is_store (node (h.Term op.Store) (more m (more b (more o (more v stop))))) = true
is_store t = false

abbrev pub LooksLikeMemory : MemoryNode → Tree → Type 0
LooksLikeMemory (memory.Store m b o v) t = t ≡ store_tree (term_tree m.now) (term_tree b.now) (term_tree o.now) (term_tree v.now)
LooksLikeMemory memory.Other t = is_store t ≡ false

-- whether a table is one to which a block was added or which was grown
abbrev pub is_built : Tree → Bool
is_built (node (h.Term (op.Alloc l)) (more t stop)) = true
is_built (node (h.Term op.Grow) (more t (more u stop))) = true
is_built t = false

abbrev pub LooksLikeTable : TableNode → Tree → Type 0
LooksLikeTable (table.Made l t) u = u ≡ node (h.Term (op.Alloc l.now)) (more (term_tree t.now) stop)
LooksLikeTable (table.Grown t c) u = u ≡ grow_tree (term_tree t.now) (term_tree c.now)
LooksLikeTable table.Other u = is_built u ≡ false

abbrev pub view_cell : seen_cell.Cell → Cell
view_cell (cell.Value v) = value (term_tree v.now)
view_cell (cell.Unread m) = unread (term_tree m.now)

abbrev pub view_found : seen_found.Found → Found
view_found (found.MadeAs l) = made_as l.now
view_found found.Nowhere = nowhere
view_found (found.Unmade t) = unmade (term_tree t.now)

-- so many times one more, each a normal form
abbrev pub raised : ℕ → Tree → Tree
raised zero t = t
raised (suc n) t = of_lin (to_lin (one_more (raised n t)))
