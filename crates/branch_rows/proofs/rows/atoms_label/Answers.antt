use Rattle.tree_places.specs.View.{numbers_of, find_in, nodes_of}
use Rattle.tree_places.proofs.Nodes.{table_keeps}
use Rattle.branch_rows.proofs.rows.atoms_label.Goals as goal

pub returns-clause-kept : goal.returns-clause-kept
returns-clause-kept c = record {
  heads = c.in_ok-number.ensures.kept;
  table = table_keeps (nodes_of c.args.table.now) (numbers_of c.args.table.now.heads) (numbers_of c.number_of.new.heads) (find_in c.args.table.now.places.entries) c.in_ok-number.ensures.older c.requires.kept.table;
}
