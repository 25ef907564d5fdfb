use Rattle.std.proofs.Common.{◌≡◌, Some, ◌<◌, subst, map}
use Rattle.linear_chains.specs.Tables.{place_in}
use Rattle.linear_chains.specs.View.{link_of}
use Rattle.linear_chains.proofs.Lists.{get_mapped, length_map}
use Rattle.linear_chains.proofs.Made.{has_or_lacks}
use Rattle.linear_chains.proofs.sums.has_least.Goals as goal

pub returns-in-Some : goal.returns-in-Some
returns-in-Some c =
    let item = c.index-links-other.result in
    let look = place_in c.args.table.now.entries in
    let hit : look c.args.link.now.form.items ≡ Some c.in-Some.other = cc in
    let at = get_mapped link_of c.args.links.now c.in-Some.other item (subst (λ n. c.in-Some.other < n) (length_map link_of c.args.links.now) (c.requires c.args.link.now.form.items c.in-Some.other hit)) c.index-links-other.is in
    has_or_lacks c.is_no_larger.result (map link_of c.args.links.now) look (link_of c.args.link.now) (link_of item) c.in-Some.other hit at c.is_no_larger.ensures
