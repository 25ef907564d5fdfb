-- The sort of a tree is that of its head.
use Rattle.std.proofs.Common.{◌≡◌, refl, sym, ◌∙◌, ap}
use Rattle.qed_terms.specs.declared.head.Sort.{Sort}
use Rattle.qed_terms.specs.declared.head.Head.{Head}
use Rattle.qed_terms.specs.declared.head.Head.TheVariants as h
use Rattle.qed_terms.specs.declared.head.TermOp.TheVariants as op
use Rattle.qed_terms.specs.Setting.{sort_of}
use Rattle.qed_terms.specs.Tree.{Tree, node, Trees, head_of}
use Rattle.call_instances.specs.Sorts.{head_sort}

by_head : (head : Head) (ts : Trees) → sort_of (node head ts) ≡ head_sort head
by_head (h.Var x s) ts = refl
by_head (h.Term op.Store) ts = refl
by_head (h.Term (op.Alloc l)) ts = refl
by_head (h.Term op.Grow) ts = refl
by_head head ts = refl

of_tree : (t : Tree) → sort_of t ≡ head_sort (head_of t)
of_tree (node head ts) = by_head head ts

pub sort_by_head : (t : Tree) (head : Head) (s : Sort) → head ≡ head_of t → s ≡ head_sort head → s ≡ sort_of t
sort_by_head t head s e f = f ∙ ap head_sort e ∙ sym (of_tree t)
