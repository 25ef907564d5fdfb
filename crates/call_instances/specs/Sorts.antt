-- Sorts of terms by their heads.
use Rattle.qed_terms.specs.declared.head.Sort.{Sort}
use Rattle.qed_terms.specs.declared.head.Sort.TheVariants as sort
use Rattle.qed_terms.specs.declared.head.Head.{Head}
use Rattle.qed_terms.specs.declared.head.Head.TheVariants as h
use Rattle.qed_terms.specs.declared.head.TermOp.{TermOp}
use Rattle.qed_terms.specs.declared.head.TermOp.TheVariants as op

abbrev pub operator_sort : TermOp → Sort
operator_sort op.Store = sort.Memory
operator_sort (op.Alloc l) = sort.Table
operator_sort op.Grow = sort.Table
operator_sort o = sort.Int

abbrev pub head_sort : Head → Sort
head_sort (h.Var x s) = s
head_sort (h.Term o) = operator_sort o
head_sort head = sort.Int
