use Rattle.std.proofs.Common.{map, ap, sym, subst}
use Rattle.tree_places.specs.Heads.{number_in}
use Rattle.tree_places.specs.Tables.{IsTable}
use Rattle.tree_places.specs.View.{find_in, node_of}
use Rattle.tree_places.proofs.Nodes.{table_none}
use Rattle.tree_places.proofs.Numbers.{no_heads, no_keys}
use Rattle.tree_places.proofs.table.empty.Goals as goal

pub returns-clause-kept : goal.returns-clause-kept
returns-clause-kept c = record {
  heads = no_heads c.new-2.result.entries c.new-2.ensures.empty;
  table = subst (λ ns. IsTable ns (number_in c.new-2.result.entries) (find_in c.new-3.result.entries)) (sym (ap (map node_of) c.new.ensures.items)) (table_none (number_in c.new-2.result.entries) (find_in c.new-3.result.entries) (no_keys c.new-3.result.entries c.new-3.ensures.empty));
}
