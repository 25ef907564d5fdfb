use Rattle.std.proofs.Common.{◌≡◌, ◌∷◌, Some, ap, sym, ◌∙◌}
use Rattle.tree_places.specs.View.{numbers_of, find_in, nodes_of}
use Rattle.tree_places.proofs.Nodes.{table_keeps, hit_is}
use Rattle.tree_places.proofs.table.put.Goals as goal

pub add-requires-clause-kept : goal.add-requires-clause-kept
add-requires-clause-kept c = record {
  heads = c.in_ok-number.ensures.kept;
  table = table_keeps (nodes_of c.args.table.now) (numbers_of c.args.table.now.heads) (numbers_of c.number_of.new.heads) (find_in c.args.table.now.places.entries) c.in_ok-number.ensures.older c.requires.kept.table;
}

pub returns-in-Some-clause-kept : goal.returns-in-Some-clause-kept
returns-in-Some-clause-kept c = record {
  heads = c.in_ok-number.ensures.kept;
  table = table_keeps (nodes_of c.args.table.now) (numbers_of c.args.table.now.heads) (numbers_of c.number_of.new.heads) (find_in c.args.table.now.places.entries) c.in_ok-number.ensures.older c.requires.kept.table;
}

pub returns-in-Some-clause-below : goal.returns-in-Some-clause-below
returns-in-Some-clause-below c =
    let ns = nodes_of c.args.table.now in
    let find = find_in c.args.table.now.places.entries in
    let table = table_keeps ns (numbers_of c.args.table.now.heads) (numbers_of c.number_of.new.heads) find c.in_ok-number.ensures.older c.requires.kept.table in
    let hit : find (c.in_ok-number.number ∷ c.args.kids.items) ≡ Some c.in-Some.place = ap find (ap (λ ks. c.in_ok-number.number ∷ ks) (sym c.as_slice.ensures.value) ∙ sym c.in_ok-key.ensures ∙ sym c.as_slice-2.ensures.value) ∙ sym c.find_at.ensures ∙ c.in-Some.is in
    (hit_is ns (numbers_of c.number_of.new.heads) find c.number_of.new.heads.count c.in_ok-number.ensures.kept table c.args.head.now c.in_ok-number.number c.in-Some.place c.args.kids.items c.in_ok-number.ensures.number hit).0

pub returns-in-Some-clause-tree : goal.returns-in-Some-clause-tree
returns-in-Some-clause-tree c =
    let ns = nodes_of c.args.table.now in
    let find = find_in c.args.table.now.places.entries in
    let table = table_keeps ns (numbers_of c.args.table.now.heads) (numbers_of c.number_of.new.heads) find c.in_ok-number.ensures.older c.requires.kept.table in
    let hit : find (c.in_ok-number.number ∷ c.args.kids.items) ≡ Some c.in-Some.place = ap find (ap (λ ks. c.in_ok-number.number ∷ ks) (sym c.as_slice.ensures.value) ∙ sym c.in_ok-key.ensures ∙ sym c.as_slice-2.ensures.value) ∙ sym c.find_at.ensures ∙ c.in-Some.is in
    (hit_is ns (numbers_of c.number_of.new.heads) find c.number_of.new.heads.count c.in_ok-number.ensures.kept table c.args.head.now c.in_ok-number.number c.in-Some.place c.args.kids.items c.in_ok-number.ensures.number hit).1
