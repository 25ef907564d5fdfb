-- What is put into a store: the formulas of the candidates that are given, behind other formulas.
use Rattle.std.specs.Prelude.{◌≡◌, List, ◌++◌, map, All}
use Rattle.congruence.specs.declared.classes.TermClasses.{TermClasses}
use Rattle.congruence.specs.Closed.{IsClosed}
use Rattle.qed_terms.specs.Store.{KeepsOlder}
use Rattle.qed_terms.specs.Tree.{Tree}
use Rattle.tree_places.specs.declared.table.TreeTable.{TreeTable}
use Rattle.tree_places.specs.Tables.{Grows}
use Rattle.tree_places.specs.View.{nodes_of, IsKept}
use Rattle.instance_rows.specs.Candidates.{Candidate, Given}

-- those after are those before, and behind them the formulas of the candidates that are given
pub record GivenBehind (ls : List Tree) (cs : List Candidate) (before after : List Tree) : Type 0 where
  pub formulas : List Tree
  pub behind : after ≡ before ++ formulas
  pub given : Given ls cs formulas

-- A store and a list of ids, where all candidates are given.
pub record PutsAll {Id : Type 0} (held held' : Id → Type 0) (tree tree' : Id → Tree) (out out' : List Id) (cs : List Candidate) : Type 0 where
  pub older : KeepsOlder held held' tree tree'
  pub out_held : All held' out'
  pub given : (ls : List Tree) → GivenBehind ls cs (map tree out) (map tree' out')

-- A store, a list of ids and a table whose classes tell what is given.
pub record Puts {Id : Type 0} (closed : TermClasses) (held held' : Id → Type 0) (tree tree' : Id → Tree) (table table' : TreeTable) (out out' : List Id) (cs : List Candidate) : Type 0 where
  pub older : KeepsOlder held held' tree tree'
  pub out_held : All held' out'
  pub kept : IsKept table'
  pub grows : Grows (nodes_of table) (nodes_of table')
  pub given : (ls : List Tree) → IsClosed ls (nodes_of table) closed.marks.items closed.classes.items → GivenBehind ls cs (map tree out) (map tree' out')
