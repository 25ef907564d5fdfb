-- What is asked of a block of a table.
use Rattle.std.specs.Prelude.{◌≡◌, Option, Some, None}
use Rattle.wp_base.specs.declared.kinds.Layout.{Layout}
use Rattle.qed_terms.specs.declared.head.Head.{Head}
use Rattle.qed_terms.specs.declared.head.Head.TheVariants as h
use Rattle.qed_terms.specs.declared.head.TermOp.TheVariants as op
use Rattle.qed_terms.specs.declared.head.FormOp.TheVariants as form
use Rattle.qed_terms.specs.Tree.{Tree, Trees, stop, one}
use Rattle.qed_memories.specs.Memories.{asked}
use Rattle.block_instances.specs.declared.questions.Asked.{Asked}
use Rattle.block_instances.specs.declared.questions.Asked.TheVariants as ask
use Rattle.block_instances.specs.declared.questions.Query.{Query}

abbrev pub asked_head : Asked → Head
asked_head (ask.Read k) = h.Form (form.Read k)
asked_head (ask.Write k) = h.Form (form.Write k)
asked_head ask.Live = h.Form form.Live
asked_head ask.Length = h.Term op.Len

-- what stands behind table and block: a cell has an offset
abbrev pub asked_rest : Asked → (offset : Tree) → Trees
asked_rest (ask.Read k) o = one o
asked_rest (ask.Write k) o = one o
asked_rest ask.Live o = stop
asked_rest ask.Length o = stop

abbrev pub question : Asked → (table block offset : Tree) → Tree
question w t b o = asked (asked_head w) t b (asked_rest w o)

-- a tree asks this of the trees of these ids, which the store holds
pub record IsAsked {Id : Type 0} (held : Id → Type 0) (tree : Id → Tree) (t : Tree) (q : Query Id) : Type 0 where
  pub table_held : held q.table
  pub block_held : held q.block
  pub offset_held : held q.offset
  pub asks : t ≡ question q.what (tree q.table) (tree q.block) (tree q.offset)

-- the layout with which a table got a block more
unfoldable pub made_layout : Head → Option Layout
made_layout (h.Term (op.Alloc l)) = Some l
made_layout head = None
