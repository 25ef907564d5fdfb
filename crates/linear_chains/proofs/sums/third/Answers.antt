use Rattle.std.proofs.Common.{◌≡◌, None, Some, subst, sym, ◌∙◌, ap, map, length, get_or, arith, ◌<◌}
use Rattle.linear_chains.specs.Links.{IsOrdered}
use Rattle.linear_chains.specs.Sums.{IsOpposite, IsLeast}
use Rattle.linear_chains.specs.Tables.{place_in}
use Rattle.linear_chains.specs.View.{link_of}
use Rattle.linear_chains.proofs.Lists.{get_mapped_or, length_map, place_below}
use Rattle.linear_chains.proofs.Least.{no_place}
use Rattle.linear_chains.proofs.Made.{made_third}
use Rattle.linear_chains.proofs.sums.third.Goals as goal

pub opposite-requires-clause-left : goal.opposite-requires-clause-left
opposite-requires-clause-left c =
    let x = get_mapped_or link_of c.args.links.now c.args.i c.index-links-i.result c.requires.first in
    subst IsOrdered (sym c.as_slice.ensures.value) (c.requires.ordered c.args.i _ x)

pub opposite-requires-clause-right : goal.opposite-requires-clause-right
opposite-requires-clause-right c =
    let y = get_mapped_or link_of c.args.links.now c.args.j c.index-links-j.result c.requires.second in
    subst IsOrdered (sym c.as_slice-2.ensures.value) (c.requires.ordered c.args.j _ y)

pub returns-in-None : goal.returns-in-None
returns-in-None c =
    let links = map link_of c.args.links.now in
    let look = place_in c.args.table.now.entries in
    let x = get_mapped_or link_of c.args.links.now c.args.i c.index-links-i.result c.requires.first in
    let y = get_mapped_or link_of c.args.links.now c.args.j c.index-links-j.result c.requires.second in
    let long = length_map link_of c.args.links.now in
    let t : IsLeast links (length links) look = subst (λ n. IsLeast links n look) (sym long) c.requires.table in
    let left : c.as_slice.result.now ≡ (get_or c.args.links.now c.args.i c.index-links-i.result).form.items = c.as_slice.ensures.value in
    let right : c.as_slice-2.result.now ≡ (get_or c.args.links.now c.args.j c.index-links-j.result).form.items = c.as_slice-2.ensures.value in
    let o = subst (λ f. IsOpposite f (get_or c.args.links.now c.args.j c.index-links-j.result).form.items c.in_ok-form.form.items) left (subst (λ g. IsOpposite c.as_slice.result.now g c.in_ok-form.form.items) right c.in_ok-form.ensures) in
    let none : look c.in_ok-form.form.items ≡ None = cc in
    no_place links c.requires.ordered look t c.args.i c.args.j _ _ x y c.in_ok-form.form.items o none

pub returns : goal.returns
returns c =
    let links = map link_of c.args.links.now in
    let look = place_in c.args.table.now.entries in
    let x = get_mapped_or link_of c.args.links.now c.args.i c.index-links-i.result c.requires.first in
    let y = get_mapped_or link_of c.args.links.now c.args.j c.index-links-j.result c.requires.second in
    let long = length_map link_of c.args.links.now in
    let t : IsLeast links (length links) look = subst (λ n. IsLeast links n look) (sym long) c.requires.table in
    let left : c.as_slice.result.now ≡ (get_or c.args.links.now c.args.i c.index-links-i.result).form.items = c.as_slice.ensures.value in
    let right : c.as_slice-2.result.now ≡ (get_or c.args.links.now c.args.j c.index-links-j.result).form.items = c.as_slice-2.ensures.value in
    let o = subst (λ f. IsOpposite f (get_or c.args.links.now c.args.j c.index-links-j.result).form.items c.in_ok-form.form.items) left (subst (λ g. IsOpposite c.as_slice.result.now g c.in_ok-form.form.items) right c.in_ok-form.ensures) in
    let hit : look c.in_ok-form.form.items ≡ Some c.in-Some.k = cc in
    made_third links c.requires.ordered look t c.args.i c.args.j _ _ x y c.in_ok-form.form.items o c.in-Some.k hit c.in_ok-made-in-Some.made c.in_ok-made-in-Some.ensures
