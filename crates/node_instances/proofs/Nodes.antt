-- A tree by its head and kids, and what a row gives there.
use Rattle.std.proofs.Common.{◌≡◌, List}
use Rattle.qed_terms.specs.declared.head.Head.{Head}
use Rattle.qed_terms.specs.Tree.{Tree, node, Trees, head_of, kids_in}
use Rattle.drawn_instances.specs.Drawn.{row_at}

pub whole : (t : Tree) {head : Head} {ts : Trees} → head_of t ≡ head → kids_in t ≡ ts → t ≡ node head ts
whole (node g us) e f = λ i. node (e i) (f i)

pub row_there : (row : Head → Trees → List Tree) (t : Tree) {head : Head} {ts : Trees} → head_of t ≡ head → kids_in t ≡ ts → row_at row t ≡ row head ts
unfolding row_at
row_there row t e f = λ i. row (e i) (f i)
