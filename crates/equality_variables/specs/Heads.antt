-- For which variables a well formed term may stand, by its head.
use Rattle.std.specs.Prelude.{Bool, false, ◌&&◌}
use Rattle.qed_terms.specs.declared.head.Sort.{Sort}
use Rattle.qed_terms.specs.declared.head.Sort.TheVariants as sort
use Rattle.qed_terms.specs.declared.head.Head.{Head}
use Rattle.qed_terms.specs.declared.head.Head.TheVariants as h
use Rattle.qed_terms.specs.WellFormed.{same_sort, takes_term, takes_name, made_by, argument}

abbrev pub stands_for : Sort → Head → Bool
stands_for s (h.Num z) = same_sort s sort.Int
stands_for s (h.Var x r) = same_sort s r && takes_name argument r x
stands_for s (h.Term o) = same_sort s (made_by o) && takes_term argument (made_by o)
stands_for s h.Ite = same_sort s sort.Int
stands_for s (h.App f) = same_sort s sort.Int
stands_for s head = false
