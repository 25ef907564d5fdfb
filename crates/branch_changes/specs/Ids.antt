-- A variable and its term by ids of a store, as plain ones.
use Rattle.qed_terms.specs.Tree.{Tree}
use Rattle.branch_changes.specs.declared.rules.IdGiven.{IdGiven}
use Rattle.branch_changes.specs.Givens.{Given, given}

abbrev pub given_of : {Id : Type 0} → (Id → Tree) → IdGiven Id → Given
given_of tree g = given g.name g.sort (tree g.term)
