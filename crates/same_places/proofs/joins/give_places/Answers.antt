use Rattle.std.proofs.Common.{◌++◌, map, ap, sym, ◌∙◌}
use Rattle.std.proofs.lemmas.List.{map-set}
use Rattle.std.proofs.Math.ListN.{set}
use Rattle.same_places.specs.Members.{place_list}
use Rattle.same_places.proofs.Members.{list_mapped}
use Rattle.same_places.proofs.joins.give_places.Goals as goal

pub returns : goal.returns
returns c =
    let items = c.args.places_of.now.items in
    let here = list_mapped place_list items c.args.to c.index_mut.result.now c.requires c.index_mut.ensures.value in
    map-set place_list items c.args.to c.put_behind.new.list ∙ ap (λ xs. set (map place_list items) c.args.to xs) (c.in_ok-put_behind.ensures ∙ ap (λ xs. xs ++ c.args.places.now) (sym here))
