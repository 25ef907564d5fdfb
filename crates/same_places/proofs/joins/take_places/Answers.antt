use Rattle.std.proofs.Common.{map, ap, ◌∙◌}
use Rattle.std.proofs.lemmas.List.{map-set}
use Rattle.std.proofs.Math.ListN.{set}
use Rattle.same_places.specs.Members.{place_list}
use Rattle.same_places.proofs.joins.take_places.Goals as goal

pub returns-clause-left : goal.returns-clause-left
returns-clause-left c =
    map-set place_list c.args.places_of.now.items c.args.from c.replace.new.dest
    ∙ ap (λ xs. set (map place_list c.args.places_of.now.items) c.args.from xs) (ap place_list c.replace.ensures.after ∙ c.new.ensures.items)
