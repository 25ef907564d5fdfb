use Rattle.std.proofs.Common.{List, map, sym, subst, ◌≡◌, ◌∙◌, IfOk}
use Rattle.std.specs.List.{list_all}
use Rattle.std.specs.Option.{option_map}
use Rattle.checked_trees.specs.View.{view_checked_program}
use Rattle.program_trees.specs.Files.{at}
use Rattle.program_trees.specs.View.{view_function}
use Rattle.typed_unit.specs.declared.unit.Body.{Body}
use Rattle.typed_unit.specs.View.{view_body}
use Rattle.logic_sources.specs.Built.{fits_in}
use Rattle.verified_sources.specs.Tests.{body_stands}
use Rattle.verified_sources.proofs.Verifying.{all_three}
use Rattle.verified_sources.proofs.tests.rest_fits.Goals as goal

pub returns : goal.returns
returns c =
    let q = view_checked_program c.args.checked.now in
    let named = sym c.is_named.ensures ∙ c.if-not-is_named.false in
    let stand = sym c.in_ok-all_loops_stand.ensures ∙ c.if-not-branch.false in
    let stands =
    sym (λ i. list_all (body_stands (at (map (option_map view_function) (c.as_slice.ensures i)))) (map view_body (c.as_slice-bodies.ensures i))) ∙ stand in
    let fits =
    subst (λ (bs : List Body). IfOk c.bodies_fit.result (λ so. so ≡ list_all (fits_in c.args.takes.now q c.args.file.now (map view_body bs)) (map view_body bs))) c.as_slice-bodies.ensures c.bodies_fit.ensures in
    all_three _ c.bodies_fit.result named stands fits
