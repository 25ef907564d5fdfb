-- What occurs in a branch, and rows at all that occurs.
use Rattle.std.specs.Prelude.{if◌then◌else◌, List, [], ◌∷◌, ◌++◌}
use Rattle.qed_terms.specs.Tree.{Tree, node, Trees, stop, more, head_of, kids_in}
use Rattle.qed_rules.specs.Rules.{drop_repeats}
use Rattle.same_terms.specs.SameTerms.{is_binder}
use Rattle.branches.specs.Branch.{Branch}
use Rattle.instance_rows.specs.Rows.{Row}
use Rattle.instance_rows.specs.PairRows.{PairRow}

abbrev mutual
  -- the nodes outside of quantifiers, a node before its kids, from the left; a quantifier occurs as a whole, and nothing in it
  pub nodes_in : Tree → List Tree
  nodes_in (node head ts) = node head ts ∷ (if is_binder head then [] else nodes_in_all ts)

  pub nodes_in_all : Trees → List Tree
  nodes_in_all stop = []
  nodes_in_all (more t ts) = nodes_in t ++ nodes_in_all ts

abbrev pub nodes_among : List Tree → List Tree
nodes_among [] = []
nodes_among (f ∷ fs) = nodes_in f ++ nodes_among fs

-- What occurs in the literals and then in what waits, each tree at its first place.
abbrev pub occurrences : Branch → List Tree
occurrences b = drop_repeats [] (nodes_among (b.literals ++ b.waiting))

-- ---- rows at each of several trees

abbrev pub at_each : Row → List Tree → List Tree
at_each row [] = []
at_each row (t ∷ ts) = row (head_of t) (kids_in t) ++ at_each row ts

-- with the first trees one after the other, and for each all of the second ones
abbrev pub at_pairs : PairRow → List Tree → List Tree → List Tree
at_pairs row [] us = []
at_pairs row (t ∷ ts) us = at_each (row (head_of t) (kids_in t)) us ++ at_pairs row ts us
