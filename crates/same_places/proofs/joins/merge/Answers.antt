use Rattle.std.proofs.Common.{◌++◌, map, subst, ◌∙◌}
use Rattle.std.proofs.Math.ListN.{set}
use Rattle.same_places.specs.Members.{IsIn, list_at, IsRenamed, place_list, class_list, place_lists}
use Rattle.same_places.proofs.Members.{listed_of}
use Rattle.same_places.proofs.joins.merge.Goals as goal

pub rename-requires : goal.rename-requires
rename-requires c i h =
    (c.requires.kept.alone c.args.from i (subst (λ xs. IsIn i xs) (c.as_slice.ensures.value ∙ c.take_places-places.ensures.taken) h)).0

pub returns-clause-kept : goal.returns-clause-kept
returns-clause-kept c =
    let lists = place_lists c.args.classes.now in
    let moved = c.as_slice.ensures.value ∙ c.take_places-places.ensures.taken in
    let again = c.as_slice-2.ensures.value ∙ c.take_places-places.ensures.taken in
    let renamed = subst (λ ps. IsRenamed ps c.args.to (class_list c.args.classes.now) c.rename.new.class_of.items) moved c.rename.ensures in
    listed_of (class_list c.args.classes.now) c.rename.new.class_of.items lists c.args.from c.args.to c.requires.kept renamed c.requires.from c.requires.to c.requires.two (map place_list c.give_places.new.places_of.items)
    (let left = c.take_places-places.ensures.left in c.in_ok-give_places.ensures ∙ (λ i. set (left i) c.args.to (list_at (left i) c.args.to ++ again i)))
