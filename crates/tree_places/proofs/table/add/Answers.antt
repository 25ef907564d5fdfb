use Rattle.std.proofs.Common.{rules, ◌≡◌, ◌⊎◌, ◌∷◌, ℕ, List, Some, None, map, length, ap, sym, subst, ◌∙◌}
use Rattle.std.proofs.lemmas.List.{map_push, length-map}
use Rattle.tree_places.specs.Tables.{IsTable}
use Rattle.tree_places.specs.View.{numbers_of, find_in, node_of, nodes_of}
use Rattle.tree_places.proofs.Nodes.{table_more}
use Rattle.tree_places.proofs.table.add.Goals as goal

pub returns-clause-kept : goal.returns-clause-kept
returns-clause-kept c =
    let ns = nodes_of c.args.table.now in
    let n = node_of c.args.node in
    let find = find_in c.args.table.now.places.entries in
    let find' = find_in c.note.new.places.entries in
    let key = c.requires.key in
    let long = length-map c.args.table.now.nodes.items node_of in
    let at : c.len-place.result ≡ length c.args.table.now.nodes.items = search rules in
    let none : find (n.number ∷ n.kids) ≡ None = ap find (sym key) ∙ c.requires.none in
    let new : find' (n.number ∷ n.kids) ≡ Some (length ns) = ap find' (sym key) ∙ c.in_ok-note.ensures.new ∙ ap Some (at ∙ sym long) in
    let others : (k : List ℕ) → (k ≡ n.number ∷ n.kids) ⊎ (find' k ≡ find k) = subst (λ z. (k : List ℕ) → (k ≡ z) ⊎ (find' k ≡ find k)) key c.in_ok-note.ensures.others in
    record {
      heads = c.requires.kept.heads;
      table = subst (λ ms. IsTable ms (numbers_of c.args.table.now.heads) find') (sym (ap (map node_of) c.in_ok-push.ensures.items ∙ map_push node_of c.args.table.now.nodes.items c.args.node))
          (table_more ns (numbers_of c.args.table.now.heads) find find' n c.requires.kept.table c.requires.numbered c.requires.kids none new others);
    }
