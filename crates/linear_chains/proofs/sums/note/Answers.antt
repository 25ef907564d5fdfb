use Rattle.std.proofs.Common.{◌≡◌, ◌⊎◌, Some, map, subst}
use Rattle.linear_chains.specs.Links.{Form}
use Rattle.linear_chains.specs.Tables.{place_in}
use Rattle.linear_chains.specs.View.{link_of}
use Rattle.linear_chains.proofs.Lists.{get_mapped}
use Rattle.linear_chains.proofs.Least.{least_has, least_put}
use Rattle.linear_chains.proofs.sums.note.Goals as goal

pub returns-then-has_least : goal.returns-then-has_least
returns-then-has_least c =
    let item = c.index-links-place.result in
    let at = get_mapped link_of c.args.links.now c.args.place item c.requires.place c.index-links-place.is in
    least_has (map link_of c.args.links.now) c.args.place (place_in c.args.table.now.entries) c.requires.table (link_of item) at c.if-has_least.ensures

pub returns : goal.returns
returns c =
    let item = c.index-links-place.result in
    let at = get_mapped link_of c.args.links.now c.args.place item c.requires.place c.index-links-place.is in
    let v = c.as_slice.ensures.value in
    let new = subst (λ f. place_in c.put_place.new.table.entries f ≡ Some c.args.place) v c.in_ok-put_place.ensures.new in
    let others = subst (λ g. (f : Form) → (f ≡ g) ⊎ (place_in c.put_place.new.table.entries f ≡ place_in c.args.table.now.entries f)) v c.in_ok-put_place.ensures.others in
    least_put (map link_of c.args.links.now) c.args.place (place_in c.args.table.now.entries) c.requires.table (link_of item) at (place_in c.put_place.new.table.entries) c.if-has_least.ensures new others
