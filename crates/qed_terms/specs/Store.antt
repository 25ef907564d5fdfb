-- Stores of trees: what a call leaves of one, and which trees one may hold.
use Rattle.std.specs.Prelude.{◌≡◌, Bool, List}
use Rattle.qed_terms.specs.declared.head.Head.{Head}
use Rattle.qed_terms.specs.declared.head.Head.TheVariants as h
use Rattle.qed_terms.specs.Tree.{Tree, head_of, node, trees_of}
use Rattle.qed_terms.specs.WellFormed.{Place, term, formula, int, made_by, fits}

-- every older id is still there, and keeps its tree
pub record KeepsOlder {Id : Type 0} (held held' : Id → Type 0) (tree tree' : Id → Tree) : Type 0 where
  pub still_held : (id : Id) → held id → held' id
  pub same_tree : (id : Id) → held id → tree' id ≡ tree id

-- where a tree with this head stands: a term at its sort, else a formula
abbrev pub place_of_head : Head → Place
place_of_head (h.Num z) = int
place_of_head (h.Var x s) = term s
place_of_head (h.Term o) = term (made_by o)
place_of_head h.Ite = int
place_of_head (h.App f) = int
place_of_head head = formula

-- a well formed term of some sort, or a well formed formula
abbrev pub is_well_formed : Tree → Bool
is_well_formed t = fits (place_of_head (head_of t)) t

-- the tree of a head over these
abbrev pub over : Head → List Tree → Tree
over head ts = node head (trees_of ts)
