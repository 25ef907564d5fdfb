-- Terms and formulas as plain trees of heads.
use Rattle.std.specs.Prelude.{ℕ, suc, ◌+◌, List, [], ◌∷◌, ℤ}
use Rattle.qed_terms.specs.declared.head.Sort.TheVariants as sort
use Rattle.qed_terms.specs.declared.head.Head.{Head}
use Rattle.qed_terms.specs.declared.head.Head.TheVariants as h
use Rattle.qed_terms.specs.declared.head.FormOp.TheVariants as form

mutual
  pub data Tree : Type 0 where
    node : Head → Trees → Tree

  pub data Trees : Type 0 where
    stop : Trees
    more : Tree → Trees → Trees

-- a list of trees as the kids of a node, and back
abbrev pub trees_of : List Tree → Trees
trees_of [] = stop
trees_of (t ∷ ts) = more t (trees_of ts)

abbrev pub list_of : Trees → List Tree
list_of stop = []
list_of (more t ts) = t ∷ list_of ts

abbrev pub head_of : Tree → Head
head_of (node head kids) = head

abbrev pub kids_in : Tree → Trees
kids_in (node head kids) = kids

abbrev pub one : Tree → Trees
one t = more t stop

abbrev pub two : Tree → Tree → Trees
two t u = more t (more u stop)

abbrev pub three : Tree → Tree → Tree → Trees
three t u v = more t (more u (more v stop))

-- ---- the trees that goals are made of

abbrev pub num : ℤ → Tree
num z = node (h.Num z) stop

-- a name for an integer
abbrev pub var : List ℕ → Tree
var x = node (h.Var x sort.Int) stop

abbrev pub true_tree : Tree
true_tree = node h.True stop

abbrev pub false_tree : Tree
false_tree = node h.False stop

abbrev pub at_most : Tree → Tree → Tree
at_most t u = node (h.Form form.AtMost) (two t u)

abbrev pub less : Tree → Tree → Tree
less t u = node (h.Form form.Less) (two t u)

abbrev pub equal : Tree → Tree → Tree
equal t u = node (h.Form form.Equal) (two t u)

-- the one term where the formula is true, and else the other
abbrev pub ite : Tree → Tree → Tree → Tree
ite f t u = node h.Ite (three f t u)

abbrev pub not_of : Tree → Tree
not_of f = node h.Not (one f)

abbrev pub and_of : List Tree → Tree
and_of fs = node h.And (trees_of fs)

abbrev pub or_of : List Tree → Tree
or_of fs = node h.Or (trees_of fs)

abbrev pub imp_of : Tree → Tree → Tree
imp_of f g = node h.Imp (two f g)

-- under the known facts the check holds
abbrev pub goal_of : List Tree → Tree → Tree
goal_of known check = imp_of (and_of known) check

-- how many heads, numbers and names it has
abbrev mutual
  pub size : Tree → ℕ
  size (node head kids) = suc (sizes kids)

  pub sizes : Trees → ℕ
  sizes stop = 0
  sizes (more t ts) = size t + sizes ts
