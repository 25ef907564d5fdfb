-- Rows at two nodes, and the facts with which they begin.
use Rattle.std.specs.Prelude.{List, Option, Some, None}
use Rattle.wp_base.specs.declared.kinds.Layout.{Layout}
use Rattle.qed_terms.specs.declared.head.Head.{Head}
use Rattle.qed_terms.specs.declared.head.Head.TheVariants as h
use Rattle.qed_terms.specs.declared.head.FormOp.TheVariants as form
use Rattle.qed_terms.specs.declared.head.Shape.{Shape}
use Rattle.qed_terms.specs.Tree.{Tree, head_of, kids_in}
use Rattle.instance_rows.specs.PairRows.{PairRow}

-- what a row gives at two nodes
unfoldable pub row_of_pair : PairRow → Tree → Tree → List Tree
row_of_pair row t u = row (head_of t) (kids_in t) (head_of u) (kids_in u)

-- the shapes of the regions of a frame
unfoldable pub framed_shapes : Head → Option (List Shape)
framed_shapes (h.Form (form.Frame shapes)) = Some shapes
framed_shapes head = None

-- the layout that a block is known to have
unfoldable pub had_layout : Head → Option Layout
had_layout (h.Form (form.Has l)) = Some l
had_layout head = None
