-- Formulas of rows by their parts, in the words of the rows.
use Rattle.std.specs.Prelude.{pos, [], ◌∷◌}
use Rattle.wp_base.specs.declared.kinds.CellKind.{CellKind}
use Rattle.qed_terms.specs.declared.head.Head.TheVariants as h
use Rattle.qed_terms.specs.declared.head.TermOp.TheVariants as op
use Rattle.qed_terms.specs.declared.head.FormOp.TheVariants as form
use Rattle.qed_terms.specs.Tree.{Tree, node, two, three, num, at_most, less, equal, ite, not_of, and_of, or_of}
use Rattle.qed_memories.specs.Memories.{count_tree}

abbrev pub either_less : Tree → Tree → Tree
either_less t u = or_of (less t u ∷ less u t ∷ [])

abbrev pub either_arm : (condition left right : Tree) → Tree
either_arm f t u = or_of (and_of (f ∷ equal (ite f t u) t ∷ []) ∷ and_of (not_of f ∷ equal (ite f t u) u ∷ []) ∷ [])

abbrev pub read_tree : CellKind → (table block offset : Tree) → Tree
read_tree k t b o = node (h.Form (form.Read k)) (three t b o)

abbrev pub write_tree : CellKind → (table block offset : Tree) → Tree
write_tree k t b o = node (h.Form (form.Write k)) (three t b o)

abbrev pub readable_where_writable : CellKind → (table block offset : Tree) → Tree
readable_where_writable k t b o = or_of (not_of (write_tree k t b o) ∷ read_tree k t b o ∷ [])

abbrev pub lies_within : (table block offset : Tree) → Tree
lies_within t b o =
    and_of (
    node (h.Form form.Live) (two t b) ∷ at_most (num (pos 0)) o ∷ less o (node (h.Term op.Len) (two t b)) ∷ at_most (num (pos 1)) b ∷ less b (count_tree t) ∷ []
    )

abbrev pub placed_where_readable : CellKind → (table block offset : Tree) → Tree
placed_where_readable k t b o = or_of (not_of (read_tree k t b o) ∷ lies_within t b o ∷ [])
